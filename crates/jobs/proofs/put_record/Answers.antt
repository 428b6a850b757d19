-- `put_record` meets its contract: two stores, half a field and a field make the record.
use Prim.Native.Nat.{ℕ, ◌+◌, ◌*◌}
use mathlib.Core.Path.{ap, ◌∙◌}
use mathlib.Core.List.{◌++◌}
use native.Mathlib.Omega.{arith}
use lib.ListN.{take, drop, length-set}
use Rattle.jobs.specs.JobFile.{record_bytes}
use Rattle.jobs.proofs.Records.{half_room, record_stores}
use Rattle.jobs.proofs.put_record.Goals as goal

pub bounds-file-at-2 : goal.bounds-file-at-2
bounds-file-at-2 c = simp length-set (omega arith)

pub put_half-requires : goal.put_half-requires
put_half-requires c = simp length-set (omega arith)

pub put_field-requires : goal.put_field-requires
put_field-requires c =
    omega (arith, half_room c.args.file.now (8 * c.args.i) c.from.result _ c.requires c.put_half.ensures)

-- The file after the stores, the hold and the field.
pub returns : goal.returns
returns c =
    record_stores c.args.file.now (8 * c.args.i) c.from.result c.args.hold c.args.value c.requires c.put_half.ensures c.put_field.ensures
    ∙ ap (λ (k : ℕ). take (8 * c.args.i) c.args.file.now ++ record_bytes k c.args.hold c.args.value ++ drop (8 * c.args.i + 8) c.args.file.now)
    c.from.ensures
