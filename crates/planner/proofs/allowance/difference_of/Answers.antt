-- `difference_of` meets its contract.
use Prim.Native.Nat.{ℕ, ◌*◌, ◌/◌, ◌<◌, ◌^◌}
use mathlib.Core.Path.{◌≡◌, subst, sym, ap₂, ◌∙◌}
use native.Mathlib.Omega.{arith}
use Rattle.chain.specs.Job.{fastest, slowest}
use Rattle.chain.specs.Plan.{difference}
use Rattle.chain.proofs.Parts.{valid_proper}
use Rattle.chain.proofs.Extremes.{slowest_positive}
use Rattle.chain.proofs.Ranges.{difference_product}
use Rattle.parts.specs.Lent.{the}
use Rattle.planner.proofs.allowance.difference_of.Goals as goal

pub overflow_mul-result-2 : goal.overflow_mul-result-2
overflow_mul-result-2 c =
    let job = the c.args.job in
    let fast : c.from-fastest.result ≡ fastest job = c.from-fastest.ensures ∙ c.greatest_of.ensures in
    record {
      fits =
          subst (λ (n : ℕ). n < 2 ^ 64) (sym (ap₂ ◌*◌ c.breadth_of.ensures (ap₂ ◌*◌ fast fast)))
          (difference_product {job = job} c.args.job.valid);
    }

pub nonzero_div-result : goal.nonzero_div-result
nonzero_div-result c =
    let job = the c.args.job in
    let slow : c.from-slowest.result ≡ slowest job = c.from-slowest.ensures ∙ c.slowest_of.ensures in
    omega (arith, slow, slowest_positive job (valid_proper c.args.job.valid))

pub returns : goal.returns
unfolding difference
returns c =
    let job = the c.args.job in
    let fast : c.from-fastest.result ≡ fastest job = c.from-fastest.ensures ∙ c.greatest_of.ensures in
    let slow : c.from-slowest.result ≡ slowest job = c.from-slowest.ensures ∙ c.slowest_of.ensures in
    ap₂ ◌/◌ (ap₂ ◌*◌ c.breadth_of.ensures (ap₂ ◌*◌ fast fast)) slow
