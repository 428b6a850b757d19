-- `move_on` meets its contract: the loop keeps `Moving`.
use native.Mathlib.Omega.{arith}
use Rattle.parts.proofs.Laws.{loads_to}
use Rattle.parts.proofs.Lines.{line_ready}
use Rattle.dynamic.proofs.Laws.{moving-le, moving_products, moving_stop, moving_before, moving_turn}
use Rattle.dynamic.proofs.NextRow.move_on.Goals as goal

pub part_bound-part-requires : goal.part_bound-part-requires
part_bound-part-requires c =
    record {
      loadable = rw c.requires.startup_is (loads_to (line_ready c.args.self.line) c.requires.movable.index);
      a_le_b = moving-le c.args.self.line.job.valid c.loop-startup.invariant;
    }

pub entry-requires : goal.entry-requires
entry-requires c =
    omega (arith, c.args.self.row_before.room, moving-le c.args.self.line.job.valid c.loop-startup.invariant, c.requires.movable.index)

pub at_most-requires : goal.at_most-requires
at_most-requires c =
    let r = c.args.self in
    moving_products (line_ready r.line) r.row_before c.requires.movable.index c.requires.startup_is r.speed_is c.loop-startup.invariant
    c.part_bound-part.ensures c.entry.ensures

pub returns-then-at_most : goal.returns-then-at_most
returns-then-at_most c =
    let r = c.args.self in
    moving_stop (line_ready r.line) r.row_before c.requires.movable.index c.requires.startup_is r.speed_is c.loop-startup.invariant
    c.part_bound-part.ensures c.entry.ensures c.at_most.ensures c.if-at_most.true

-- A pointer that does not stop is before the crossing, and so before i.
pub overflow_add-at : goal.overflow_add-at
overflow_add-at c =
    let r = c.args.self in
    let before = moving_before (line_ready r.line) r.row_before c.requires.movable.index c.requires.startup_is r.speed_is c.loop-startup.invariant
    c.part_bound-part.ensures c.entry.ensures c.at_most.ensures c.if-at_most.false in
    omega arith

pub overflow_add-moves : goal.overflow_add-moves
overflow_add-moves c =
    let r = c.args.self in
    let before = moving_before (line_ready r.line) r.row_before c.requires.movable.index c.requires.startup_is r.speed_is c.loop-startup.invariant
    c.part_bound-part.ensures c.entry.ensures c.at_most.ensures c.if-at_most.false in
    omega (arith, c.loop-startup.invariant.carried, c.requires.movable.counts)

pub loop-startup-smaller : goal.loop-startup-smaller
loop-startup-smaller c =
    let r = c.args.self in
    let before = moving_before (line_ready r.line) r.row_before c.requires.movable.index c.requires.startup_is r.speed_is c.loop-startup.invariant
    c.part_bound-part.ensures c.entry.ensures c.at_most.ensures c.if-at_most.false in
    omega arith

pub loop-startup-preserved : goal.loop-startup-preserved
loop-startup-preserved c =
    let r = c.args.self in
    moving_turn (line_ready r.line) r.row_before c.requires.movable.index c.requires.startup_is r.speed_is c.loop-startup.invariant
    c.part_bound-part.ensures c.entry.ensures c.at_most.ensures c.if-at_most.false
