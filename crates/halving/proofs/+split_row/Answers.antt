-- The proof of the cycle of calls {split_row}: it calls itself for the two halves of its row.
use Prim.Native.Nat.{◌/◌}
use mathlib.Core.Path.{◌≡◌, ◌∙◌}
use mathlib.Core.List.{◌++◌}
use native.Mathlib.Omega.{arith}
use lib.ListN.{length, set, drop, length-set, length-take}
use Rattle.parts.proofs.Laws.{rising_to}
use Rattle.halving.specs.Row.{split_in}
use Rattle.halving.proofs.Laws.{split_in_from, split_in_to, some_between, written_length, left_number, right_number, half_power, row_split, row_halves, row_alone}
use Rattle.halving.proofs.+split_row.Goals as goal

pub overflow_cast-between : goal.overflow_cast-between
overflow_cast-between t c =
    record { fits = omega (arith, c.split_in-i.ensures, split_in_to c.args.sums.now c.args.a c.args.b c.requires.part.0) }

pub split_row-requires : goal.split_row-requires
split_row-requires t c =
    let xs = c.args.between.now in
    let some = some_between xs c.is_empty.ensures c.if-not-is_empty.true in
    let number = left_number xs c.requires.power some c.split_in-i.result in
    let e = c.split_in-i.ensures in
    let from = split_in_from c.args.sums.now c.args.a c.args.b in
    let to = split_in_to c.args.sums.now c.args.a c.args.b c.requires.part.0 in (
      omega (arith, number, some, c.decreases),
      (
        rising_to (omega (arith, e, to)) c.requires.rising,
        ((omega (arith, e, from), omega (arith, e, to)), half_power xs c.requires.power some number),
      ),
    )

pub split_row-requires-then-not-is_empty : goal.split_row-requires-then-not-is_empty
split_row-requires-then-not-is_empty t c =
    let xs = c.args.between.now in
    let m = length xs / 2 in
    let some = some_between xs c.is_empty.ensures c.if-not-is_empty.true in
    let H = c.split_row.new.between in
    let same = written_length xs m c.split_in-i.result H c.split_row.auto.between in
    let number = right_number xs c.requires.power some (H ++ drop m (set xs m c.split_in-i.result)) same in
    let to = split_in_to c.args.sums.now c.args.a c.args.b c.requires.part.0 in (
      omega (arith, number, some, c.decreases),
      (
        c.requires.rising,
        ((omega (arith, c.split_in-i.ensures, to), c.requires.part.1), half_power xs c.requires.power some number),
      ),
    )

pub returns-then-not-is_empty : goal.returns-then-not-is_empty
returns-then-not-is_empty t c =
    let xs = c.args.between.now in
    let m = length xs / 2 in
    let some = some_between xs c.is_empty.ensures c.if-not-is_empty.true in
    let i = c.split_in-i.result in
    let H = c.split_row.new.between in
    let left : length H ≡ m = omega (arith, length-set xs m i, length-take m (set xs m i), c.split_row.auto.between) in
    let same = written_length xs m i H c.split_row.auto.between in
    row_split xs i (omega arith) H c.split_row-then-not-is_empty.new.between left
    ∙ row_halves xs c.requires.power some (split_in c.args.sums.now) c.args.a c.args.b c.split_in-i.ensures
    (left_number xs c.requires.power some i) (right_number xs c.requires.power some (H ++ drop m (set xs m i)) same)
    c.split_row.ensures c.split_row-then-not-is_empty.ensures

pub returns-else-not-is_empty : goal.returns-else-not-is_empty
returns-else-not-is_empty t c =
    row_alone (split_in c.args.sums.now) c.args.between.now c.args.a c.args.b c.is_empty.ensures c.if-not-is_empty.false
