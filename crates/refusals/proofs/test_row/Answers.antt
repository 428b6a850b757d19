-- `test_row` meets its contract: all speeds as the first, then their number.
use mathlib.Core.Path.{refl, ◌∙◌}
use lib.ListN.{length}
use Rattle.chain.specs.Numbers.{code_of, refused}
use Rattle.refusals.proofs.Power.{power_is}
use Rattle.refusals.proofs.Tests.{row_unequal, row_no_power, row_in}
use Rattle.refusals.proofs.test_row.Goals as goal
use Rattle.refusals.proofs.test_row.Goals.{then-not-each_between-via-then-not-each_between, then-not-each_between-via-else-not-each_between+then-not-is_power_of_two}

pub returns-then-not-each_between : goal.returns-then-not-each_between
unfolding refused code_of
returns-then-not-each_between c =
    let es = c.args.speeds.now in
    elim c.then-not-each_between.branch [
      | then-not-each_between-via-then-not-each_between w ↦ row_unequal es c.requires refl c.each_between.ensures w.if-not-each_between.true
      | then-not-each_between-via-else-not-each_between+then-not-is_power_of_two w ↦
          row_no_power es c.requires refl c.each_between.ensures w.if-not-each_between.false (w.is_power_of_two.ensures ∙ power_is (length es) c.requires)
          w.if-not-is_power_of_two.true
    ]

pub returns : goal.returns
unfolding refused
returns c =
    let es = c.args.speeds.now in
    row_in es c.requires refl c.each_between.ensures c.if-not-each_between.false (c.is_power_of_two.ensures ∙ power_is (length es) c.requires)
    c.if-not-is_power_of_two.false
