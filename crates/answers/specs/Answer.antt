-- What a C function leaves in the lent `answer`: the values that the call's answer says, one an entry. A refusal leaves it as it was, and
-- a value past its end is dropped, as `set` drops it.
use Rattle.std.specs.Prelude.{ℕ, suc, ◌≡◌, List, [], ◌∷◌, set, Result}
use Rattle.chain.specs.declared.Outcome.{Outcome}
use Rattle.chain.specs.declared.Outcome.TheVariants.{Fits, Fails}
use Rattle.chain.specs.declared.Refusal.{Refusal}
use Rattle.parts.specs.declared.job.JobLists.{JobLists}
use Rattle.refusals.specs.Answers.{Said, answer_said}
use Rattle.calls.specs.Answers.{outcome_values, probe_answer}
use Rattle.demands.specs.Call.{ByLists, by_lists, job_by, Call, Probe, said, Leaves}

-- The values from entry i on.
abbrev pub values_put : ℕ → List ℕ → List ℕ → List ℕ
values_put i [] xs = xs
values_put i (v ∷ vs) xs = values_put (suc i) vs (set xs i v)

abbrev pub said_put : Said → List ℕ → List ℕ
said_put said xs = values_put 0 said.values xs

-- Of a probe: 1 for a fit and 0 for a failure, and behind it the values that its outcome says: the number of processors that its walk came to,
-- or the next bid's load and speed.
abbrev pub outcome_entries : Outcome → List ℕ
outcome_entries (Fits n) = 1 ∷ outcome_values (Fits n)
outcome_entries (Fails B) = 0 ∷ outcome_values (Fails B)

abbrev pub probed_put : Result Outcome Refusal → List ℕ → List ℕ
probed_put probed xs = said_put (answer_said outcome_entries probed) xs

-- What a call puts: the values that it says; a probe also whether it fits.
abbrev pub put : Call → List ℕ → List ℕ
put (Probe g B s) xs = probed_put (probe_answer (job_by g) B s) xs
put call xs = said_put (said call) xs

-- The job of lists that are lent, as a call takes it.
abbrev pub lists_by : JobLists → ByLists
lists_by lists = by_lists lists.second lists.startup lists.speeds.now lists.holds.now lists.weights.now

-- What a C function gives and leaves, the list `old` being lent for the answer: the number of the call, its lists as it leaves them, what it says.
pub record Answers (call : Call) (code : ℕ) (lists : List (List ℕ)) (old new : List ℕ) : Type 0 where
  pub number : code ≡ (said call).number
  pub left : Leaves call lists
  pub answer : new ≡ put call old
