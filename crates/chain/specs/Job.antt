-- The job, its parts and its partitions. Scope, sections 1 and 2. Processors are counted from 0 here: processor p is
-- the scope's machine p + 1, and a part from a to b is the scope's tiles a + 1 to b.
use Rattle.std.specs.Prelude.{ℕ, zero, suc, ◌+◌, ◌-◌, ◌≤◌, ◌<◌, ◌≡◌, Bool, true, false, not, cond, ◌&&◌, ◌||◌, List, [], ◌∷◌, T, leb, eqb, ltb, length, get_or, take, drop, replicate}
use Rattle.bound.specs.declared.Bound.{Bound}
use Rattle.bound.specs.Order.{over, infinite, le, pick, greater}
use Rattle.chain.specs.Limits.{max_tasks, max_weight, max_startup, max_processors, max_speed}
use Rattle.chain.specs.Lists.{sum, greatest_of, least_of, sum_to, all, each_of}

-- Scope 17.1: "A job is of the first edition, or of the second, which has start-up work c"
pub data Edition : Type 0 where
  First : Edition
  Second : ℕ → Edition

-- Scope 17.2: "In the first edition c counts as 0."
unfoldable pub startup_of : Edition → ℕ
startup_of First = 0
startup_of (Second c) = c

-- Scope 17.3: "By lists the edition is given as a yes or no, second or not, with c beside it; in the first edition that c is not looked at."
unfoldable pub edition_of : Bool → ℕ → Edition
edition_of true c = Second c
edition_of false c = First

-- The start-up work that counts where the edition is given so.
abbrev pub effective : Bool → ℕ → ℕ
effective second c = startup_of (edition_of second c)

-- A job: the start-up work that counts, the weights of the tasks ("tiles"), the speeds of the processors ("machines") and their holds, in
-- order. Its edition says no more of how it is divided: it stays with the file, the calls and the allowance of a plan.
pub record Job : Type 0 where
  pub startup : ℕ
  pub weights : List ℕ
  pub speeds : List ℕ
  pub holds : List ℕ

-- Scope 1.5: "A job may come as three lists, of speeds, holds and weights", with the start-up work that counts. Scope 18.4: "a longer one is cut to
-- P, and the entries behind are not looked at".
abbrev pub job_of : ℕ → List ℕ → List ℕ → List ℕ → Job
job_of c es hs ws = record { startup = c; weights = ws; speeds = es; holds = take (length es) hs }

-- A job without holds, by lists.
abbrev pub free_job : ℕ → List ℕ → List ℕ → Job
free_job c es ws = job_of c es (replicate (length es) 0) ws

-- The job is of the edition: its start-up work is the one that counts.
pub record OfEdition (edition : Edition) (job : Job) : Type 0 where
  pub counts : job.startup ≡ startup_of edition

-- Scope 1.5: "P is then how many speeds there are, N how many weights."
abbrev pub tasks : Job → ℕ
tasks job = length job.weights

abbrev pub processors : Job → ℕ
processors job = length job.speeds

-- The number of the last processor.
abbrev pub last : Job → ℕ
last job = processors job - 1

-- The speed of processor p. (Past the last it reads as 1.)
unfoldable pub speed_of : Job → ℕ → ℕ
speed_of job p = get_or job.speeds p 1

-- Scope 18.1: "Each machine has a hold, the most tiles that it can take; 0 stands for no limit." (Past the last it reads as 0.)
unfoldable pub hold_of : Job → ℕ → ℕ
hold_of job p = get_or job.holds p 0

-- Scope 18.5: "A job has holds where any of them is not 0."
unfoldable pub held : Job → Bool
held job = not (each_of (λ h. eqb h 0) job.holds)

-- Not so that, Refusal 17: "the holds are all limited and add up to less than N".
unfoldable pub enough : Job → Bool
enough job = not (all (λ p. ltb 0 (hold_of job p)) (processors job) && ltb (sum_to (hold_of job) (processors job)) (tasks job))

-- Every count, weight and speed and the start-up work is within its limit, and every processor has its hold.
pub record Valid (job : Job) : Type 0 where
  pub startup_limit : job.startup ≤ max_startup
  pub some_processor : 1 ≤ processors job
  pub processors_limit : processors job ≤ max_processors
  pub tasks_limit : tasks job ≤ max_tasks
  pub weights_limit : (i : ℕ) → get_or job.weights i 0 ≤ max_weight
  pub speeds_positive : (p : ℕ) → 1 ≤ speed_of job p
  pub speeds_limit : (p : ℕ) → speed_of job p ≤ max_speed
  pub holds_given : processors job ≤ length job.holds

-- The weights of the tasks of the part from a to b, none if a ≥ b.
unfoldable pub part_of : Job → ℕ → ℕ → List ℕ
part_of job a b = take (b - a) (drop a job.weights)

-- Scope 1.6: "W(a,b) is the weight of the tiles a to b together; it is 0 where a is greater than b." Here W(a + 1, b), of the part
-- from a to b.
unfoldable pub part_weight : Job → ℕ → ℕ → ℕ
part_weight job a b = sum (part_of job a b)

-- Scope 17.4: "The load of a share that has tiles is c plus their weight; an empty share has load 0." Of a list of tasks:
unfoldable pub load_of : ℕ → List ℕ → ℕ
load_of c [] = 0
load_of c (w ∷ ws) = c + sum (w ∷ ws)

-- The load of a part.
unfoldable pub part_load : Job → ℕ → ℕ → ℕ
part_load job a b = load_of job.startup (part_of job a b)

-- Scope 1.7: "Wtot is the weight of all tiles, Etot the speed of all machines."
abbrev pub total_weight : Job → ℕ
total_weight job = sum job.weights

abbrev pub total_speed : Job → ℕ
total_speed job = sum job.speeds

-- Scope 1.8: "The heaviest weight of no tiles is 0."
abbrev pub heaviest : Job → ℕ
heaviest job = greatest_of job.weights

abbrev pub fastest : Job → ℕ
fastest job = greatest_of job.speeds

-- The slowest speed. (Of no processors it reads as 1.)
unfoldable pub slowest_of : List ℕ → ℕ
slowest_of [] = 1
slowest_of (e ∷ es) = least_of e es

abbrev pub slowest : Job → ℕ
slowest job = slowest_of job.speeds

-- Scope 2.4: "The bound of a share is its load over the speed of its machine." The part from a to b on processor p.
unfoldable pub part_bound : Job → ℕ → ℕ → ℕ → Bound
part_bound job p a b = over (part_load job a b) (speed_of job p)

-- Scope 18.6: "where the hold of a machine is not 0, its share has at most as many tiles as the hold": the part from a to b on processor p.
unfoldable pub keeps : Job → ℕ → ℕ → ℕ → Bool
keeps job p a b = let h = hold_of job p in eqb h 0 || leb (b - a) h

-- Scope 18.7: "A share is within a bound where its bound is at most that and it keeps the hold". The part from a to b on processor p.
unfoldable pub within : Job → ℕ → ℕ → ℕ → Bound → Bool
within job p a b B = le (part_bound job p a b) B && keeps job p a b

-- What a processor bids for the part from a to b, and what the table enters for it: the part's bound, where it keeps the hold. Scope 18.11: "Where a machine
-- does not bid, 1/0 stands for its bid and ranks above all others." Scope 18.14: "Entries without a division are 1/0 and rank above all others".
unfoldable pub offer : Job → ℕ → ℕ → ℕ → Bound
offer job p a b = pick (keeps job p a b) (part_bound job p a b) infinite

-- The separator at index p of a list.
abbrev pub at : List ℕ → ℕ → ℕ
at s p = get_or s p 0

-- Scope 1.9: "A division is P + 1 separators, s0 = 0 ≤ s1 ≤ … ≤ sP = N." Scope 18.6: "A division keeps every hold".
pub record Partition (job : Job) (s : List ℕ) : Type 0 where
  pub count : length s ≡ suc (processors job)
  pub first : at s 0 ≡ 0
  pub grows : (p : ℕ) → p < processors job → at s p ≤ at s (suc p)
  pub end : at s (processors job) ≡ tasks job
  pub kept : (p : ℕ) → p < processors job → T (keeps job p (at s p) (at s (suc p)))

-- Every part keeps its processor's hold.
unfoldable pub all_kept : Job → List ℕ → Bool
all_kept job s = all (λ p. keeps job p (at s p) (at s (suc p))) (processors job)

-- How many machines have tiles.
unfoldable pub busy : Job → List ℕ → ℕ
busy job s = sum_to (λ p. cond (ltb (at s p) (at s (suc p))) 1 0) (processors job)

-- Scope 1.10: "Machine p takes the tiles s(p−1) + 1 to sp, and may take none: its share." The bound of processor p's part.
unfoldable pub bound_at : Job → List ℕ → ℕ → Bound
bound_at job s p = part_bound job p (at s p) (at s (suc p))

-- Scope 2.5: "The bottleneck of a division is the greatest bound of its shares." Scope 2.6: "It is given as a pair that is not reduced,
-- that of the first machine in the row which has it." Of the processors 0 to p:
unfoldable pub bottleneck_to : Job → List ℕ → ℕ → Bound
bottleneck_to job s zero = bound_at job s 0
bottleneck_to job s (suc p) = greater (bottleneck_to job s p) (bound_at job s (suc p))

-- Scope 2.7: "To measure a division is to give its bottleneck."
unfoldable pub bottleneck : Job → List ℕ → Bound
bottleneck job s = bottleneck_to job s (last job)

-- Scope 2.8: "The ideal is Wtot/Etot."
unfoldable pub ideal : Job → Bound
ideal job = over (total_weight job) (total_speed job)

-- All weight and the start-up work on the slowest processor: every part's bound is at most this.
unfoldable pub widest : Job → Bound
widest job = over (total_weight job + job.startup) (slowest job)

-- Every part of the partition is within the bound.
pub record Within (job : Job) (s : List ℕ) (B : Bound) : Type 0 where
  pub each : (p : ℕ) → p < processors job → T (within job p (at s p) (at s (suc p)) B)
