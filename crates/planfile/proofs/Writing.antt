-- What writing a plan file answers and leaves, by its tests.
-- Assumes nothing.
use Prim.Native.Nat.{ℕ, suc, ◌≤◌}
use mathlib.Core.Path.{◌≡◌, sym, ap, subst, ◌∙◌}
use mathlib.Core.List.{List, ◌++◌}
use lib.ListN.{length, take, drop}
use Rattle.std.specs.Prelude.{Result, Ok, Err, IsErrAnd}
use Rattle.chain.specs.declared.Refusal.{Refusal}
use Rattle.chain.specs.Job.{Job, processors, Partition}
use Rattle.chain.specs.Numbers.{refused}
use Rattle.chain.specs.Refusal.{refusal}
use Rattle.refusals.specs.Inputs.{plan_needed, write_plan_inputs}
use Rattle.parts.specs.declared.job.JobLists.{JobLists}
use Rattle.parts.specs.declared.job.ValidJob.{ValidJob}
use Rattle.parts.specs.Lent.{the, lent, IsLent}
use Rattle.refusals.proofs.Accepted.{Accepted}
use Rattle.refusals.proofs.Exits.{the_lent, tested}
use Rattle.refusals.proofs.Answering.{wrote_refused, wrote_all}
use Rattle.planfile.specs.PlanFile.{plan_bytes}
use Rattle.planfile.specs.Answers.{write_plan_answer, write_plan_bytes}
use Rattle.planfile.proofs.Records.{length_plan, plan_take}

-- What `write_plan` answers and leaves at each of its ends.
module _ (job : Job) (s plan : List ℕ) where
  abbrev pub Writes : Result ℕ Refusal → List ℕ → Type 0
  Writes r now = (r ≡ write_plan_answer job s (length plan)) × (now ≡ write_plan_bytes job s plan)

  abbrev front : List ℕ
  front = take (suc (processors job)) s

  pub write_refused : {B : Type 0} {r : Result B Refusal} {e : Refusal} (q : Result ℕ Refusal) → r ≡ Err e → IsErrAnd q (λ y. y ≡ e)
      → refused r ≡ refusal job (write_plan_inputs job s (length plan)) → Writes q plan
  unfolding write_plan_answer write_plan_bytes
  write_refused q f g h = wrote_refused (plan_needed job) (plan_bytes job front) plan q f g h

  pub write_all : {now : List ℕ} → refusal job (write_plan_inputs job s (length plan)) ≡ 0 → now ≡ plan_bytes job s ++ drop (plan_needed job) plan
      → Writes (Ok (plan_needed job)) now
  unfolding write_plan_answer write_plan_bytes
  write_all z f =
      wrote_all (plan_needed job) (plan_bytes job front) plan z (length_plan job front)
      (f ∙ ap (λ (l : List ℕ). l ++ drop (plan_needed job) plan) (sym (plan_take job s)))

-- What the tests say of the job that they give, where they refuse nothing.
module _ {lists : JobLists} {job : ValidJob} (is : IsLent lists job) (s : List ℕ) (n : ℕ)
    (e : refused {A = ValidJob} (Ok job) ≡ refusal (lent lists) (write_plan_inputs (lent lists) s n)) where
  pub tested_plan : Accepted (the job) (write_plan_inputs (the job) s n)
  tested_plan = tested is (λ j. write_plan_inputs j s n) e

  -- So it is of the line that is made of it.
  module _ (made : ValidJob) (same : made ≡ job) where
    pub line_partition : Partition (the made) (take (suc (processors (the made))) s)
    line_partition =
        subst (λ (j : ValidJob). Partition (the j) (take (suc (processors (the j))) s)) (sym same) tested_plan.divisions.0

    pub line_room : plan_needed (the made) ≤ n
    line_room = subst (λ (j : ValidJob). plan_needed (the j) ≤ n) (sym same) tested_plan.lists.1.0

-- What was written of the job is written of the lists.
pub write_lent : {lists : JobLists} {job : ValidJob} → IsLent lists job → (s plan : List ℕ) {now : List ℕ}
    → refused {A = ValidJob} (Ok job) ≡ refusal (lent lists) (write_plan_inputs (lent lists) s (length plan)) → (made : ValidJob) → made ≡ job
    → now ≡ plan_bytes (the made) s ++ drop (plan_needed (the made)) plan → Writes (lent lists) s plan (Ok (plan_needed (the job))) now
unfolding refused
write_lent {lists} {job} is s plan {now} e made same f =
    subst (λ (j : Job). Writes (lent lists) s plan (Ok (plan_needed j)) now) (sym (the_lent is))
    (write_all (lent lists) s plan (sym e)
    (f ∙ ap (λ (j : Job). plan_bytes j s ++ drop (plan_needed j) plan) (ap (λ (j : ValidJob). the j) same ∙ the_lent is)))
