-- `get_field` meets its contract.
use Rattle.std.proofs.Common.{arith}
use Rattle.fields.specs.Field.{field_at}
use Rattle.fields.proofs.get_field.Goals as goal

pub returns : goal.returns
unfolding field_at
returns c = omega arith
