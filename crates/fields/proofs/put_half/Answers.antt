-- `put_half` meets its contract: the bytes of std are those of the half.
use mathlib.Core.Path.{◌∙◌}
use Rattle.fields.specs.Field.{half_size, half_bytes}
use Rattle.fields.proofs.Stores.{part_copied}
use Rattle.fields.proofs.put_half.Goals as goal

pub returns : goal.returns
unfolding half_bytes
returns c = part_copied c.args.bytes.now (half_bytes c.args.half) c.args.place half_size (c.copy_from_slice.ensures.after ∙ c.to_le_bytes.ensures)
