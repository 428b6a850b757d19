-- What a plan is, and what it is held against. Scope, sections 5, 6 and 10.
use Rattle.std.specs.Prelude.{ℕ, zero, suc, ◌+◌, ◌-◌, ◌*◌, ◌/◌, ◌≤◌, ◌<◌, ◌≡◌, Bool, true, not, cond, List, [], ◌∷◌, ◌++◌, map, T, eqb, ltb}
use Rattle.bound.specs.declared.Bound.{Bound}
use Rattle.bound.specs.Order.{over, nought, pick, lesser, rounded_up, ◌≼◌, ◌≈◌}
use Rattle.chain.specs.declared.Method.{Method}
use Rattle.chain.specs.declared.Method.TheVariants.{Table, Bidding, Bisection, Nicol}
use Rattle.chain.specs.Lists.{digits, sum_to, all, is_first, smallest_from}
use Rattle.chain.specs.Job.{Edition, First, Second, Job, tasks, last, held, all_kept, total_weight, total_speed, heaviest, fastest, slowest, at, Partition, bottleneck, ideal}
use Rattle.chain.specs.Probe.{walk, fits}
use Rattle.chain.specs.Dynamic.{table_value, moves}
use Rattle.chain.specs.Bidding.{bidding}
use Rattle.chain.specs.Bisection.{ends, meet}
use Rattle.chain.specs.Nicol.{empty_fits, least_candidate, settled}

-- The lists of separators from a on, each made longer in front by b, for every b from a to a + d.
unfoldable pub spread : (ℕ → List (List ℕ)) → ℕ → ℕ → List (List ℕ)
spread rest a zero = map (λ s. a ∷ s) (rest a)
spread rest a (suc d) = map (λ s. a ∷ s) (rest a) ++ spread rest (suc a) d

-- Every way to go on from separator a with q separators between it and the end, n.
unfoldable pub onward : ℕ → ℕ → ℕ → List (List ℕ)
onward n zero a = (n ∷ []) ∷ []
onward n (suc q) a = spread (onward n q) a (n - a)

-- Those lists of which f holds.
unfoldable pub those : (List ℕ → Bool) → List (List ℕ) → List (List ℕ)
those f [] = []
those f (s ∷ ss) = cond (f s) (s ∷ those f ss) (those f ss)

-- The list of all divisions of the job.
unfoldable pub partitions : Job → List (List ℕ)
partitions job = those (all_kept job) (map (λ s. 0 ∷ s) (onward (tasks job) (last job) 0))

-- The least of a list of bounds, the first among equals. (Of none it reads as nought.)
unfoldable pub least_bound : List Bound → Bound
least_bound [] = nought
least_bound (B ∷ []) = B
least_bound (B ∷ C ∷ Bs) = lesser B (least_bound (C ∷ Bs))

-- The least bottleneck of all divisions. It knows no method.
unfoldable pub least_bottleneck : Job → Bound
least_bottleneck job = least_bound (map (bottleneck job) (partitions job))

-- The plan's separators: one walk at the least bottleneck.
unfoldable pub plan_of : Job → List ℕ
plan_of job = walk job (least_bottleneck job)

-- Scope 10.6: "Every other division has a bottleneck at least as great; where it is equal as a bound, each of its separators is at or
-- before the plan's."
pub record Best (job : Job) (s : List ℕ) : Type 0 where
  pub partition : Partition job s
  pub least : (t : List ℕ) → Partition job t → bottleneck job s ≼ bottleneck job t
  pub furthest : (t : List ℕ) → Partition job t → bottleneck job t ≈ bottleneck job s → (p : ℕ) → at t p ≤ at s p

-- The table ends with B(P,N). Scope 5.9: "The table's count is its moves".
pub record TableEnds (job : Job) (count : ℕ) (found : Bound) : Type 0 where
  pub counted : count ≡ moves job
  pub yields : found ≡ table_value job (last job) (tasks job)

-- Scope 5.10: "until a trial fits". Scope 5.11: "Bidding's count is its trials, with the one that fits."
pub record BiddingEnds (job : Job) (count : ℕ) (found : Bound) : Type 0 where
  pub failures : ℕ
  pub first_fit_lem : T (is_first (λ k. fits job (bidding job k)) failures)
  pub counted : count ≡ suc failures
  pub yields : found ≡ bidding job failures

-- Scope 5.12: "Bisection tries the ideal and is done where that fits." Scope 5.14: "It goes round until the two ends meet, equal as
-- bounds, and yields their value." Scope 5.16: "Bisection's count is its trials, with the first."
pub data BisectionEnds (job : Job) (count : ℕ) (found : Bound) : Type 0 where
  at_once : T (fits job (ideal job)) → count ≡ 1 → found ≡ ideal job → BisectionEnds job count found
  after : (rounds : ℕ) → T (not (fits job (ideal job))) → T (is_first (λ k. meet (ends job k)) rounds) → count ≡ suc rounds
      → found ≡ (ends job rounds).low → BisectionEnds job count found

-- Scope 5.22: "The count of Nicol's search is its trials": of the processors below n together, each until its range is one index.
pub record TrialsTo (job : Job) (n count : ℕ) : Type 0 where
  pub trials : ℕ → ℕ
  pub each : (p : ℕ) → p < n → T (is_first (settled job p) (trials p))
  pub counted : count ≡ sum_to trials n

-- Scope 5.20: "Where the empty share fits, the bottleneck is nought and the search ends." Scope 5.19: "the bottleneck is the least
-- candidate".
pub data NicolEnds (job : Job) (count : ℕ) (found : Bound) : Type 0 where
  early : (p : ℕ) → p < last job → T (is_first (empty_fits job) p) → TrialsTo job (suc p) count → found ≡ nought → NicolEnds job count found
  whole : T (all (λ p. not (empty_fits job p)) (last job)) → TrialsTo job (last job) count → found ≡ least_candidate job
      → NicolEnds job count found

-- The method takes the job. Refusal 18: "method 4 or a quick plan is asked for a job with holds": Nicol's search takes none with holds.
unfoldable pub takes : Method → Job → Bool
takes Table job = true
takes Bidding job = true
takes Bisection job = true
takes Nicol job = not (held job)

-- The method ends with this count and this bottleneck found.
abbrev pub MethodEnds : Method → Job → ℕ → Bound → Type 0
MethodEnds Table job count found = TableEnds job count found
MethodEnds Bidding job count found = BiddingEnds job count found
MethodEnds Bisection job count found = BisectionEnds job count found
MethodEnds Nicol job count found = NicolEnds job count found

-- The weight and the start-up work in D: the heaviest weight, all weight where a hold is set. Over the slowest speed it is how far
-- bisection's ends are apart at most when it begins.
abbrev pub breadth : Job → ℕ
breadth job = cond (held job) (total_weight job) (heaviest job) + job.startup

-- Scope 6.3: "D is (heaviest + c) × fastest² / slowest, rounded down". Scope 18.17: "Of a job with holds D is (Wtot + c) × fastest² / slowest, rounded down."
unfoldable pub difference : Job → ℕ
difference job = breadth job * (fastest job * fastest job) / slowest job

-- Scope 17.8: "On a single machine the allowance of bidding is 2 in the second edition, whatever c is." Else as in 6.2.
unfoldable pub bidding_allowance : Edition → Job → ℕ
bidding_allowance First job = last job * tasks job + 1
bidding_allowance (Second c) job = cond (eqb (last job) 0) 2 (last job * tasks job + 1)

-- Scope 6.2: "(P − 1) × N for the table, (P − 1) × N + 1 for bidding, 1 + the binary digits of D for bisection and (P − 1) × the binary
-- digits of N for Nicol's search". Of a job of this edition.
unfoldable pub allowance : Edition → Method → Job → ℕ
allowance edition Table job = last job * tasks job
allowance edition Bidding job = bidding_allowance edition job
allowance edition Bisection job = 1 + digits (difference job)
allowance edition Nicol job = last job * digits (tasks job)

-- The failures of bidding before a trial fits, and the rounds of bisection before its ends meet, each looked for up to the allowance, that
-- of the second edition, which is no less than that of the first; the trials of Nicol's search on a processor, up to the digits of N. The theorem `method_is` says that they are found, so this end
-- cuts nothing off.
unfoldable pub bidding_failures : Job → ℕ
bidding_failures job = smallest_from (λ k. fits job (bidding job k)) 0 (allowance (Second job.startup) Bidding job)

unfoldable pub bisection_rounds : Job → ℕ
bisection_rounds job = smallest_from (λ k. meet (ends job k)) 0 (allowance (Second job.startup) Bisection job)

unfoldable pub nicol_trials : Job → ℕ → ℕ
nicol_trials job p = smallest_from (settled job p) 0 (digits (tasks job))

-- The first processor whose empty part fits, the last one where there is none before it.
unfoldable pub nicol_stop : Job → ℕ
nicol_stop job = smallest_from (empty_fits job) 0 (last job)

-- The count of each method as a number. Scope 5.9: "The table's count is its moves". Scope 5.11: "Bidding's count is its trials, with
-- the one that fits." Scope 5.16: "Bisection's count is its trials, with the first." Scope 5.22: "The count of Nicol's search is its
-- trials".
unfoldable pub count_by : Method → Job → ℕ
count_by Table job = moves job
count_by Bidding job = suc (bidding_failures job)
count_by Bisection job = cond (fits job (ideal job)) 1 (suc (bisection_rounds job))
count_by Nicol job = let p = nicol_stop job in sum_to (nicol_trials job) (cond (ltb p (last job)) (suc p) (last job))

-- The bottleneck that each method finds. Scope 5.12: "Bisection tries the ideal and is done where that fits." Scope 5.20: "Where the
-- empty share fits, the bottleneck is nought and the search ends."
unfoldable pub found_by : Method → Job → Bound
found_by Table job = table_value job (last job) (tasks job)
found_by Bidding job = bidding job (bidding_failures job)
found_by Bisection job = cond (fits job (ideal job)) (ideal job) (ends job (bisection_rounds job)).low
found_by Nicol job = pick (ltb (nicol_stop job) (last job)) nought (least_candidate job)

-- Scope 6.4: "1000 × (bottleneck − ideal) / ideal", as a fraction.
abbrev pub thousandths : Job → Bound → Bound
thousandths job B = over (1000 * (B.load * total_speed job - total_weight job * B.speed)) (total_weight job * B.speed)

-- Scope 6.4: "The imbalance is 1000 × (bottleneck − ideal) / ideal, rounded up; it is 0 where Wtot is 0."
unfoldable pub imbalance : Job → Bound → ℕ
imbalance job B = cond (eqb (total_weight job) 0) 0 (rounded_up (thousandths job B))

-- Scope 6.1: "A plan carries its separators, its count, its allowance, the bottleneck of its separators and its imbalance."
pub record Plan : Type 0 where
  pub separators : List ℕ
  pub count : ℕ
  pub allowed : ℕ
  pub bound : Bound
  pub excess : ℕ

-- A plan of the job, of this edition, by the method. Scope 5.2: "Each ends with one walk of the trial at the bottleneck that it found; the walk writes
-- the separators and is not counted."
pub record PlanBy (edition : Edition) (method : Method) (job : Job) (plan : Plan) : Type 0 where
  pub taken : T (takes method job)
  pub found : Bound
  pub ended : MethodEnds method job plan.count found
  pub walked : plan.separators ≡ walk job found
  pub allows : plan.allowed ≡ allowance edition method job
  pub measured : plan.bound ≡ bottleneck job plan.separators
  pub exceeds : plan.excess ≡ imbalance job plan.bound
