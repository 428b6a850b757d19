-- `put` meets its contract.
use mathlib.Core.Path.{refl}
use Rattle.dynamic.specs.Rows.{stored}
use Rattle.dynamic.proofs.put.Goals as goal

pub returns : goal.returns
unfolding stored
returns c = refl
