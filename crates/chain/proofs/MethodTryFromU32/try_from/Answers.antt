-- The method with a number, number by number.
use Rattle.chain.proofs.Numbers.{choice_laws}
use Rattle.chain.proofs.MethodTryFromU32.try_from.Goals as goal

pub returns-in-1 : goal.returns-in-1
returns-in-1 c = search choice_laws

pub returns-in-2 : goal.returns-in-2
returns-in-2 c = search choice_laws

pub returns-in-3 : goal.returns-in-3
returns-in-3 c = search choice_laws

pub returns-in-4 : goal.returns-in-4
returns-in-4 c = search choice_laws

pub returns-in_default : goal.returns-in_default
returns-in_default c = search choice_laws
