-- `put_records` meets its contract: after i turns the first i records stand in the file.
use lib.ListN.{get_or}
use Rattle.jobs.specs.Kinds.{kind_number}
use Rattle.jobs.proofs.Records.{putting_none, putting_next, putting_all}
use Rattle.jobs.proofs.put_records.Goals as goal

pub loop-i-init : goal.loop-i-init
loop-i-init g c =
    putting_none (kind_number c.args.kind) (λ p. get_or c.args.holds.now p 0) c.args.values.now c.args.from c.args.file.now c.requires.room

pub loop-i-preserved : goal.loop-i-preserved
loop-i-preserved g c =
    putting_next (kind_number c.args.kind) (λ p. get_or c.args.holds.now p 0) c.args.values.now c.args.from c.args.file.now c.requires.room
    c.loop-i.invariant c.loop-i-test.true (rw c.hold_in.ensures at c.put_record.ensures)

pub returns : goal.returns
returns g c =
    putting_all (kind_number c.args.kind) (λ p. get_or c.args.holds.now p 0) c.args.values.now c.args.from c.args.file.now c.requires.room
    c.loop-i.invariant c.loop-i-test.false
