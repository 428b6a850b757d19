-- The heuristic of Miguet and Pierson ("quick plan"). Scope, section 4.
use Rattle.std.specs.Prelude.{ℕ, suc, ◌+◌, ◌*◌, List, [], ◌∷◌, ◌++◌}
use Rattle.bound.specs.declared.Bound.{Bound}
use Rattle.bound.specs.Order.{over}
use Rattle.chain.specs.Lists.{tabulate, sum_to, smallest_least, distance}
use Rattle.chain.specs.Job.{Job, tasks, last, speed_of, part_weight, total_weight, total_speed, heaviest, slowest}

-- By how much the quick plan exceeds the ideal at most. Scope 10.3: "(heaviest weight + c) / slowest speed".
abbrev pub margin : Job → Bound
margin job = over (heaviest job + job.startup) (slowest job)

-- How far W(1,i) is from Wtot × (e1 + … + ep) / Etot, times Etot. Scope 4.2: "Distances are compared exactly."
unfoldable pub miss : Job → ℕ → ℕ → ℕ
miss job p i = distance (part_weight job 0 i * total_speed job) (total_weight job * sum_to (speed_of job) p)

-- Scope 4.1: "For p below P, sp is the smallest index whose W(1,sp) is nearest to Wtot × (e1 + … + ep) / Etot."
unfoldable pub nearest : Job → ℕ → ℕ
nearest job p = smallest_least (miss job p) (tasks job)

-- The quick plan's separators, s0 = 0 and sP = N among them.
unfoldable pub heuristic : Job → List ℕ
heuristic job = 0 ∷ (tabulate (λ p. nearest job (suc p)) (last job) ++ (tasks job ∷ []))
