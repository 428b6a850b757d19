-- What planning answers and leaves in the lent lists, refusals included. Scope, sections 5, 6, 8 and 10.
use Rattle.std.specs.Prelude.{ℕ, ◌≤◌, ◌<◌, ◌≡◌, List, [], ◌∷◌, ◌++◌, ◌≢◌, T, length, Result, Ok, Err}
use Rattle.chain.specs.declared.Method.{Method}
use Rattle.chain.specs.declared.Method.TheVariants.{Table}
use Rattle.chain.specs.declared.Refusal.{Refusal}
use Rattle.chain.specs.Numbers.{number_of, chosen_of, answered}
use Rattle.chain.specs.Job.{Edition, Job, Valid, tasks, enough, bottleneck}
use Rattle.chain.specs.Plan.{plan_of, takes, allowance, count_by, imbalance}
use Rattle.chain.specs.Refusal.{refusal}
use Rattle.refusals.specs.Inputs.{scratch_needed, method_inputs, plan_inputs}
use Rattle.refusals.specs.Answers.{Said, answer_said, bound_values, lent_after}
use Rattle.parts.specs.Kept.{KeptFrom}
use Rattle.planner.specs.declared.Figures.{Figures}

-- Planning says the figures of the plan, its separators being left in the list: count, allowance, bottleneck,
-- imbalance.
abbrev pub figure_values : Figures → List ℕ
figure_values f = f.count ∷ f.allowance ∷ (bound_values f.bottleneck ++ f.imbalance ∷ [])

abbrev pub planned_said : Result Figures Refusal → Said
planned_said = answer_said figure_values

-- The number that planning is refused with, 0 where it is accepted.
unfoldable pub plan_refusal : Job → ℕ → ℕ → ℕ → ℕ
plan_refusal job m separators scratch = refusal job (plan_inputs job m separators scratch)

-- The same by a method that is known.
unfoldable pub method_refusal : Job → Method → ℕ → ℕ → ℕ
method_refusal job method separators scratch = refusal job (method_inputs job (number_of method) separators scratch)

-- What inner functions ask, once the tests have passed: a job within the limits whose holds are enough, and that the
-- method takes.
pub record Tested (method : Method) (job : Job) : Type 0 where
  pub valid : Valid job
  pub enough-holds : T (enough job)
  pub taken : T (takes method job)

-- The work numbers t are enough for the method: the prefix sums, and the table's rows.
pub record Room (method : Method) (job : Job) (t : List ℕ) : Type 0 where
  pub sums : tasks job < length t
  pub rows : method ≡ Table → scratch_needed job ≤ length t

-- Scope 6.1: "A plan carries its separators, its count, its allowance, the bottleneck of its separators and its
-- imbalance." Of a job of this edition.
unfoldable pub plan_figures : Edition → Method → Job → Figures
plan_figures edition method job =
    let B = bottleneck job (plan_of job) in
    record {
      count = count_by method job;
      allowance = allowance edition method job;
      bottleneck = B;
      imbalance = imbalance job B;
    }

-- The answer by what the method's number stands for, and the number of the refusal.
unfoldable pub chosen_answer : Edition → Job → Result Method Refusal → ℕ → Result Figures Refusal
chosen_answer edition job (Ok method) number = answered number (plan_figures edition method job)
chosen_answer edition job (Err unknown) number = Err unknown

-- What it says where nothing refuses it. (An unknown method is refused.)
abbrev pub chosen_values : Edition → Job → Result Method Refusal → List ℕ
chosen_values edition job (Ok method) = figure_values (plan_figures edition method job)
chosen_values edition job (Err unknown) = []

-- The whole answer, by the number m of the method, and the separators then. The lists s of separators and t of work
-- numbers are lent.
unfoldable pub plan_answer : Edition → Job → ℕ → List ℕ → List ℕ → Result Figures Refusal
plan_answer edition job m s t = chosen_answer edition job (chosen_of m) (plan_refusal job m (length s) (length t))

unfoldable pub plan_writes : Job → ℕ → List ℕ → List ℕ → List ℕ
plan_writes job m s t = lent_after (plan_refusal job m (length s) (length t)) (plan_of job) s

-- What planning leaves of the work numbers t, by the number of the refusal: t'. On a refusal, Scope 8.1: "every list
-- or buffer that was lent stays as it was". Scope 8.6: "After an accepted plan the first 5 × (N + 1) work numbers may
-- hold anything; those behind them stay."
pub record ScratchAfter (number : ℕ) (job : Job) (t t' : List ℕ) : Type 0 where
  pub refused : number ≢ 0 → t' ≡ t
  pub behind : KeptFrom (scratch_needed job) t t'
