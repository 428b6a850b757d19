-- What measuring, the probe, the heuristic and halving the row answer, and what they leave in the lent list of
-- separators: each one definition on the whole input, refusals included. Scope, sections 2, 3, 4, 8 and 16.
use Rattle.std.specs.Prelude.{ℕ, suc, List, [], ◌∷◌, length, take, Result}
use Rattle.bound.specs.declared.Bound.{Bound}
use Rattle.chain.specs.declared.Outcome.{Outcome}
use Rattle.chain.specs.declared.Outcome.TheVariants.{Fits, Fails}
use Rattle.chain.specs.declared.Refusal.{Refusal}
use Rattle.chain.specs.Numbers.{answered}
use Rattle.chain.specs.Job.{Job, processors, bottleneck}
use Rattle.chain.specs.Probe.{walked, probe}
use Rattle.chain.specs.Heuristic.{heuristic}
use Rattle.chain.specs.Halving.{halving}
use Rattle.chain.specs.Refusal.{measure_inputs, halving_inputs, refusal}
use Rattle.refusals.specs.Inputs.{probe_inputs, heuristic_inputs}
use Rattle.refusals.specs.Answers.{Said, answer_said, bound_values, lent_after}

-- Measuring, the heuristic and halving the row say the bottleneck;
abbrev pub measured_said : Result Bound Refusal → Said
measured_said = answer_said bound_values

-- a probe says the number of processors that its walk came to where it fits, and the next bid where it fails.
abbrev pub outcome_values : Outcome → List ℕ
outcome_values (Fits n) = n ∷ []
outcome_values (Fails B) = bound_values B

abbrev pub probed_said : Result Outcome Refusal → Said
probed_said = answer_said outcome_values

-- Scope 2.7: "To measure a division is to give its bottleneck."
unfoldable pub measure_answer : Job → List ℕ → Result Bound Refusal
measure_answer job s = answered (refusal job (measure_inputs job s)) (bottleneck job (take (suc (processors job)) s))

-- Scope 3.3: "The trial fits where the last share is within the bound". Scope 3.13: "A trial that fits also answers
-- with the number of machines that its walk came to". Scope 3.4: "it answers with the least next bid".
unfoldable pub probe_answer : Job → Bound → List ℕ → Result Outcome Refusal
probe_answer job B s = answered (refusal job (probe_inputs job B (length s))) (probe job B)

-- Scope 3.7: "Whether it fits or fails, a trial writes s0 = 0 to s(P−1) and, as sP, the greatest index .. that the
-- last machine reaches"
unfoldable pub probe_writes : Job → Bound → List ℕ → List ℕ
probe_writes job B s = lent_after (refusal job (probe_inputs job B (length s))) (walked job B) s

-- Scope 4.3: "The separators are written, and their bottleneck is the answer."
unfoldable pub heuristic_answer : Job → List ℕ → Result Bound Refusal
heuristic_answer job s = answered (refusal job (heuristic_inputs job (length s))) (bottleneck job (heuristic job))

unfoldable pub heuristic_writes : Job → List ℕ → List ℕ
heuristic_writes job s = lent_after (refusal job (heuristic_inputs job (length s))) (heuristic job) s

-- Scope 16.6: "The separators are written, and their bottleneck is the answer."
unfoldable pub halving_answer : Job → List ℕ → Result Bound Refusal
halving_answer job s = answered (refusal job (halving_inputs job (length s))) (bottleneck job (halving job))

unfoldable pub halving_writes : Job → List ℕ → List ℕ
halving_writes job s = lent_after (refusal job (halving_inputs job (length s))) (halving job) s
