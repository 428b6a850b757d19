-- The kind with a number, number by number.
use Rattle.jobs.proofs.KindNumbers.{kind_laws}
use Rattle.jobs.proofs.KindTryFromU8.try_from.Goals as goal

pub returns-in-1 : goal.returns-in-1
returns-in-1 c = search kind_laws

pub returns-in-2 : goal.returns-in-2
returns-in-2 c = search kind_laws

pub returns-in-3 : goal.returns-in-3
returns-in-3 c = search kind_laws

pub returns-in_default : goal.returns-in_default
returns-in_default c = search kind_laws
