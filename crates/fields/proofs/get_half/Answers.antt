-- `get_half` meets its contract.
use Rattle.std.proofs.Common.{arith}
use Rattle.fields.specs.Field.{half_at}
use Rattle.fields.proofs.get_half.Goals as goal

pub returns : goal.returns
unfolding half_at
returns c = omega arith
