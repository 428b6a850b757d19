-- What writing a plan file answers, and what it leaves in the lent buffer, on the whole input, refusals included.
use Rattle.std.specs.Prelude.{ℕ, suc, List, length, take, Result}
use Rattle.chain.specs.declared.Refusal.{Refusal}
use Rattle.chain.specs.Numbers.{answered}
use Rattle.chain.specs.Job.{Job, processors}
use Rattle.chain.specs.Refusal.{refusal}
use Rattle.refusals.specs.Inputs.{plan_needed, write_plan_inputs}
use Rattle.refusals.specs.Answers.{lent_after}
use Rattle.planfile.specs.PlanFile.{plan_bytes}

-- The count of bytes, or the refusal.
unfoldable pub write_plan_answer : Job → List ℕ → ℕ → Result ℕ Refusal
write_plan_answer job s lent = answered (refusal job (write_plan_inputs job s lent)) (plan_needed job)

-- The buffer after writing. Scope 7.10: "The plan fills the first 16 × P bytes of the buffer; the bytes behind them stay."
-- Scope 8.1, of a refusal: "every list or buffer that was lent stays as it was".
unfoldable pub write_plan_bytes : Job → List ℕ → List ℕ → List ℕ
write_plan_bytes job s plan =
    lent_after (refusal job (write_plan_inputs job s (length plan))) (plan_bytes job (take (suc (processors job)) s)) plan
