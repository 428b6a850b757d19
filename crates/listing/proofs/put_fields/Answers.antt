-- `put_fields` meets its contract: the fields of the numbers so far have been put.
use mathlib.Core.Path.{ap}
use native.Mathlib.Omega.{arith}
use Rattle.texts.specs.Text.{field}
use Rattle.listing.specs.Listing.{fields}
use Rattle.texts.proofs.Laws.{puts_none, puts_then, puts_as}
use Rattle.listing.proofs.Laws.{fields_next}
use Rattle.listing.proofs.put_fields.Goals as goal

pub loop-number-init : goal.loop-number-init
unfolding fields
loop-number-init c = record { put = puts_none _; upper_bound = omega arith }

pub loop-number-preserved : goal.loop-number-preserved
loop-number-preserved c =
    record {
      put = puts_as (fields_next c.args.numbers.now c.loop-number-test.true)
          (puts_then c.loop-number.invariant.put (puts_as (ap field c.from.ensures) c.put_field.ensures.put));
      upper_bound = omega arith;
    }
