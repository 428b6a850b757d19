-- `put_field` meets its contract: the bytes of std are those of the field.
use mathlib.Core.Path.{◌∙◌}
use Rattle.fields.specs.Field.{field_size, field_bytes}
use Rattle.fields.proofs.Stores.{part_copied}
use Rattle.fields.proofs.put_field.Goals as goal

pub returns : goal.returns
unfolding field_bytes
returns c = part_copied c.args.bytes.now (field_bytes c.args.value) c.args.place field_size (c.copy_from_slice.ensures.after ∙ c.to_le_bytes.ensures)
