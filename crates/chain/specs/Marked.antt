-- The worked jobs of the scope, sections 11, 16, 17 and 18, as one table, and what it means that a row holds.
use Rattle.std.specs.Prelude.{ℕ, zero, suc, ◌+◌, ◌*◌, Bool, true, false, not, ◌&&◌, List, [], ◌∷◌, eqb, length, replicate}
use Rattle.bound.specs.declared.Bound.{Bound}
use Rattle.bound.specs.Order.{over}
use Rattle.chain.specs.declared.Method.{Method}
use Rattle.chain.specs.declared.Method.TheVariants.{Table, Bidding, Bisection, Nicol}
use Rattle.chain.specs.declared.Outcome.{Outcome}
use Rattle.chain.specs.declared.Outcome.TheVariants.{Fits, Fails}
use Rattle.chain.specs.Job.{Edition, First, Second, startup_of, Job, job_of, free_job, held, processors, last, total_weight, heaviest, at, bottleneck}
use Rattle.chain.specs.Probe.{walk, walked, probe}
use Rattle.chain.specs.Heuristic.{heuristic}
use Rattle.chain.specs.Halving.{halving}
use Rattle.chain.specs.Dynamic.{crossing}
use Rattle.chain.specs.Plan.{plan_of, allowance, count_by, found_by, imbalance}
use Rattle.chain.specs.Grade.{unbeaten}
use Rattle.chain.specs.Refusal.{is_partition, PlanRecords, enough_test, free_test, first_refusal, measure_inputs, halving_inputs, plan_tests, refusal}

-- The same list; the same pair, load and speed.
unfoldable pub same_list : List ℕ → List ℕ → Bool
same_list [] [] = true
same_list [] (y ∷ ys) = false
same_list (x ∷ xs) [] = false
same_list (x ∷ xs) (y ∷ ys) = eqb x y && same_list xs ys

unfoldable pub same_pair : Bound → Bound → Bool
same_pair B C = eqb B.load C.load && eqb B.speed C.speed

-- The four methods' figures: a count or an allowance each, by table, bidding, bisection and Nicol's search.
pub record Four : Type 0 where
  pub by_table : ℕ
  pub by_bidding : ℕ
  pub by_bisection : ℕ
  pub by_nicol : ℕ

abbrev pub four : ℕ → ℕ → ℕ → ℕ → Four
four a b c d = record { by_table = a; by_bidding = b; by_bisection = c; by_nicol = d }

-- The figures are f's, method by method.
unfoldable pub figures_are : (Method → ℕ) → Four → Bool
figures_are f n =
    eqb (f Table) n.by_table && eqb (f Bidding) n.by_bidding && eqb (f Bisection) n.by_bisection && eqb (f Nicol) n.by_nicol

-- The walk at the bottleneck that a method finds gives these separators, for each method.
unfoldable pub walks_are : Job → List ℕ → Bool
walks_are job s =
    same_list (walk job (found_by Table job)) s && same_list (walk job (found_by Bidding job)) s
    && same_list (walk job (found_by Bisection job)) s && same_list (walk job (found_by Nicol job)) s

-- Of a job with holds, which Nicol's search does not take, the figures of the other three methods.
pub record Three : Type 0 where
  pub by_table : ℕ
  pub by_bidding : ℕ
  pub by_bisection : ℕ

abbrev pub three : ℕ → ℕ → ℕ → Three
three a b c = record { by_table = a; by_bidding = b; by_bisection = c }

unfoldable pub three_are : (Method → ℕ) → Three → Bool
three_are f n = eqb (f Table) n.by_table && eqb (f Bidding) n.by_bidding && eqb (f Bisection) n.by_bisection

unfoldable pub three_walk : Job → List ℕ → Bool
three_walk job s =
    same_list (walk job (found_by Table job)) s && same_list (walk job (found_by Bidding job)) s && same_list (walk job (found_by Bisection job)) s

-- The list at an index, none past the last.
unfoldable pub row_at : List (List ℕ) → ℕ → List ℕ
row_at [] p = []
row_at (r ∷ rs) zero = r
row_at (r ∷ rs) (suc p) = row_at rs p

-- Records of a plan file, its length counted in records.
abbrev pub records_in : Job → List (List ℕ) → PlanRecords
records_in job rows =
    record {
      needed = processors job;
      given = length rows;
      from = λ p. at (row_at rows p) 0;
      to = λ p. at (row_at rows p) 1;
      load = λ p. at (row_at rows p) 2;
      speed = λ p. at (row_at rows p) 3;
    }

abbrev pub fields_of : ℕ → ℕ → ℕ → ℕ → List ℕ
fields_of a b c d = a ∷ b ∷ c ∷ d ∷ []

-- A row of the table.
pub data Row : Type 0 where
  -- the plan of a job of this edition: separators, bottleneck, imbalance, counts, allowances
  planned : Edition → Job → List ℕ → Bound → ℕ → Four → Four → Row
  -- the plan of a job with holds, by the three methods that take it
  held_plan : Edition → Job → List ℕ → Bound → ℕ → Three → Three → Row
  -- a trial that fits, with how many machines it came to and its separators; one that fails, with its next bid and how far each machine got
  fits_with : Job → Bound → ℕ → List ℕ → Row
  fails_with : Job → Bound → Bound → List ℕ → Row
  -- the quick plan: separators and bottleneck
  quick : Job → List ℕ → Bound → Row
  -- a division's bottleneck; a list that is refused with a number
  measures : Job → List ℕ → Bound → Row
  refused : Job → List ℕ → ℕ → Row
  -- a division that is best; one that is beaten
  best : Job → List ℕ → Row
  beaten : Job → List ℕ → Row
  -- a halved row: separators and bottleneck; one whose P × load is all that is allowed; one that is refused, with a list of this length lent
  halved : Job → List ℕ → Bound → Row
  heavy : Job → Row
  unhalved : Job → ℕ → ℕ → Row
  -- the records of a plan file, four fields each, and the number that their tests give
  filed : Job → List (List ℕ) → ℕ → Row
  -- the crossing of (p + 2, i) in the table: scope and definitions count rows from 1 and from 0
  crosses : Job → ℕ → ℕ → ℕ → Row
  -- the number that the holds give where a job is divided, 0 or 17, and where none with holds is taken, 0 or 18
  divides : Job → ℕ → Row
  unheld : Job → ℕ → Row

unfoldable pub is_failing : Outcome → Bound → Bool
is_failing (Fits n) C = false
is_failing (Fails B) C = same_pair B C

unfoldable pub is_fitting : Outcome → ℕ → Bool
is_fitting (Fits n) m = eqb n m
is_fitting (Fails B) m = false

-- The row says what the definitions give.
unfoldable pub holds : Row → Bool
holds (planned edition job s B i n a) =
    eqb job.startup (startup_of edition) && same_list (plan_of job) s && same_pair (bottleneck job s) B && eqb (imbalance job B) i && figures_are (λ m. count_by m job) n
    && figures_are (λ m. allowance edition m job) a && walks_are job s
holds (held_plan edition job s B i n a) =
    eqb job.startup (startup_of edition) && same_list (plan_of job) s && same_pair (bottleneck job s) B && eqb (imbalance job B) i && three_are (λ m. count_by m job) n
    && three_are (λ m. allowance edition m job) a && three_walk job s && held job
holds (fits_with job B n s) = is_fitting (probe job B) n && same_list (walk job B) s && same_list (walked job B) s
holds (fails_with job B C s) = is_failing (probe job B) C && same_list (walked job B) s
holds (quick job s B) = same_list (heuristic job) s && same_pair (bottleneck job s) B
holds (measures job s B) = eqb (refusal job (measure_inputs job s)) 0 && same_pair (bottleneck job s) B
holds (refused job s n) = eqb (refusal job (measure_inputs job s)) n
holds (best job s) = is_partition job s && unbeaten job s
holds (beaten job s) = is_partition job s && not (unbeaten job s)
holds (halved job s B) = eqb (refusal job (halving_inputs job (length s))) 0 && same_list (halving job) s && same_pair (bottleneck job s) B
holds (heavy job) =
    eqb (processors job * (bottleneck job (halving job)).load) (total_weight job + heaviest job * last job + job.startup * processors job)
holds (unhalved job lent n) = eqb (refusal job (halving_inputs job lent)) n
holds (filed job rows n) = eqb (first_refusal (plan_tests job (records_in job rows))) n
holds (crosses job p i c) = eqb (crossing job p i) c
holds (divides job n) = eqb (first_refusal (enough_test job ∷ [])) n
holds (unheld job n) = eqb (first_refusal (free_test job ∷ [])) n

unfoldable pub every_holds : List Row → Bool
every_holds [] = true
every_holds (r ∷ rs) = holds r && every_holds rs

abbrev pub jobA : Job
jobA = free_job 0 (1 ∷ 3 ∷ []) (1 ∷ 3 ∷ 8 ∷ [])

abbrev pub jobB : Job
jobB = free_job 0 (1 ∷ 2 ∷ []) (4 ∷ 3 ∷ 2 ∷ 6 ∷ 1 ∷ [])

abbrev pub jobC : Job
jobC = free_job 0 (7 ∷ 2 ∷ []) []

abbrev pub jobD : Job
jobD = free_job 0 (1 ∷ 1 ∷ []) (0 ∷ 0 ∷ [])

abbrev pub jobE : Job
jobE = free_job 0 (1 ∷ 1 ∷ []) (6 ∷ [])

-- The table, with the figures of the scope's section 11. Scope 11.1: "A trial of A at 3/1 fails with next bid 11/3 and writes 0 1 2; at
-- 11/3 it fits; at 23/6 it fits with 0 1 3." Scope 11.2: "The quick plan of A is 0 2 3 with bottleneck 4/1." Scope 11.3: "Measuring 0 3 3 of A gives 12/1;
-- measuring 0 2 2 of A is refused with 11." Scope 11.10: "The quick plan is not the plan: of A its bottleneck is 4/1, the plan's 11/3."
unfoldable pub marked : List Row
marked =
    planned First jobA (0 ∷ 1 ∷ 3 ∷ []) (over 11 3) 223 (four 2 2 2 2) (four 3 4 8 2)
    ∷ fails_with jobA (over 3 1) (over 11 3) (0 ∷ 1 ∷ 2 ∷ [])
    ∷ fits_with jobA (over 11 3) 2 (0 ∷ 1 ∷ 3 ∷ [])
    ∷ fits_with jobA (over 23 6) 2 (0 ∷ 1 ∷ 3 ∷ [])
    ∷ quick jobA (0 ∷ 2 ∷ 3 ∷ []) (over 4 1)
    ∷ measures jobA (0 ∷ 3 ∷ 3 ∷ []) (over 12 1)
    ∷ refused jobA (0 ∷ 2 ∷ 2 ∷ []) 11
    ∷ planned First jobB (0 ∷ 1 ∷ 5 ∷ []) (over 12 2) 125 (four 2 2 1 2) (four 5 6 6 3)
    ∷ planned First jobC (0 ∷ 0 ∷ 0 ∷ []) (over 0 7) 0 (four 0 1 1 0) (four 0 1 1 0)
    ∷ planned First jobD (0 ∷ 2 ∷ 2 ∷ []) (over 0 1) 0 (four 0 1 1 2) (four 2 3 1 2)
    ∷ planned First jobE (0 ∷ 1 ∷ 1 ∷ []) (over 6 1) 1000 (four 1 2 1 1) (four 1 2 4 1)
    ∷ []

-- Beside the marked jobs: two bids that tie, 3/1 and 6/2; how far three trials got. Scope 11.17: "A trial of B at 4/1 fails with next
-- bid 12/2 and writes 0 1 3: of the four tiles that are left the last machine reaches two." Scope 11.18: "A trial of E at 5/1 fails with next
-- bid 6/1 and writes 0 0 0: no machine reaches the tile." Scope 11.19: "Of weights 2 0 3 on one machine of speed 1 a trial at 2/1 fails with
-- next bid 5/1 and writes 0 2." Then two indices equally near; a midpoint that fails; a first candidate of Nicol's
-- search, 5/1, below the last, 6/1; equal weights on three processors, of which the search starts the second behind a task; weights of
-- 0 on three processors, where it ends at the first; a single processor. Scope 11.14: "An imbalance that is rounded down is 0 for weights
-- 1000 1001 on speeds 1 1, though their plan, 0 1 2, is half a unit above the ideal; rounded up it is 1." Scope 11.15: "Of A the
-- division 0 1 3 is best, 0 2 3 and 0 3 3 are valid." Scope 11.16: "Other separators than the plan's can be best: 0 0 2 and 0 1 2 for D,
-- 0 0 1 for E, and 0 0 2 for weights 2 2 on speeds 1 2, where its bottleneck is 4/2 and the plan's, of 0 1 2, is 2/1." Plan files of A: its plan; a record too few, one too many; a gap, an
-- overlap, a first record that does not begin at 0, a last one that does not end at N; an untrue load, an untrue speed; an untrue load
-- before a gap.
unfoldable pub worked : List Row
worked =
    fails_with (free_job 0 (1 ∷ 2 ∷ []) (3 ∷ 3 ∷ [])) (over 0 1) (over 3 1) (0 ∷ 0 ∷ 0 ∷ [])
    ∷ fails_with jobB (over 4 1) (over 12 2) (0 ∷ 1 ∷ 3 ∷ [])
    ∷ fails_with jobE (over 5 1) (over 6 1) (0 ∷ 0 ∷ 0 ∷ [])
    ∷ fails_with (free_job 0 (1 ∷ []) (2 ∷ 0 ∷ 3 ∷ [])) (over 2 1) (over 5 1) (0 ∷ 2 ∷ [])
    ∷ quick (free_job 0 (1 ∷ 3 ∷ []) (1 ∷ 1 ∷ [])) (0 ∷ 0 ∷ 2 ∷ []) (over 2 3)
    ∷ planned First (free_job 0 (2 ∷ 3 ∷ 3 ∷ []) (6 ∷ 3 ∷ 4 ∷ 1 ∷ [])) (0 ∷ 0 ∷ 1 ∷ 4 ∷ []) (over 8 3) 524 (four 3 3 3 5) (four 8 9 6 6)
    ∷ planned First (free_job 0 (1 ∷ 1 ∷ []) (5 ∷ 1 ∷ [])) (0 ∷ 1 ∷ 2 ∷ []) (over 5 1) 667 (four 1 2 1 2) (four 2 3 4 2)
    ∷ planned First (free_job 0 (1 ∷ 1 ∷ 1 ∷ []) (2 ∷ 2 ∷ 2 ∷ 2 ∷ 2 ∷ 2 ∷ [])) (0 ∷ 2 ∷ 4 ∷ 6 ∷ []) (over 4 1) 0 (four 7 1 1 5) (four 12 13 3 6)
    ∷ planned First (free_job 0 (1 ∷ 1 ∷ 1 ∷ []) (0 ∷ 0 ∷ [])) (0 ∷ 2 ∷ 2 ∷ 2 ∷ []) (over 0 1) 0 (four 0 1 1 2) (four 4 5 1 4)
    ∷ planned First (free_job 0 (3 ∷ []) (5 ∷ 2 ∷ [])) (0 ∷ 2 ∷ []) (over 7 3) 0 (four 0 1 1 0) (four 0 1 5 0)
    ∷ planned First (free_job 0 (1 ∷ 1 ∷ []) (1000 ∷ 1001 ∷ [])) (0 ∷ 1 ∷ 2 ∷ []) (over 1001 1) 1 (four 2 2 1 1) (four 2 3 11 2)
    ∷ filed jobA (fields_of 0 1 1 1 ∷ fields_of 1 3 11 3 ∷ []) 0
    ∷ filed jobA (fields_of 0 1 1 1 ∷ []) 12
    ∷ filed jobA (fields_of 0 1 1 1 ∷ fields_of 1 3 11 3 ∷ fields_of 3 3 0 1 ∷ []) 12
    ∷ filed jobA (fields_of 0 1 1 1 ∷ fields_of 2 3 8 3 ∷ []) 11
    ∷ filed jobA (fields_of 0 2 4 1 ∷ fields_of 1 3 11 3 ∷ []) 11
    ∷ filed jobA (fields_of 1 1 0 1 ∷ fields_of 1 3 11 3 ∷ []) 11
    ∷ filed jobA (fields_of 0 1 1 1 ∷ fields_of 1 2 3 3 ∷ []) 11
    ∷ filed jobA (fields_of 0 1 2 1 ∷ fields_of 1 3 11 3 ∷ []) 13
    ∷ filed jobA (fields_of 0 1 1 1 ∷ fields_of 1 3 11 1 ∷ []) 13
    ∷ filed jobA (fields_of 0 1 2 1 ∷ fields_of 2 3 8 3 ∷ []) 11
    ∷ best jobA (0 ∷ 1 ∷ 3 ∷ [])
    ∷ beaten jobA (0 ∷ 2 ∷ 3 ∷ [])
    ∷ beaten jobA (0 ∷ 3 ∷ 3 ∷ [])
    ∷ best jobD (0 ∷ 0 ∷ 2 ∷ [])
    ∷ best jobD (0 ∷ 1 ∷ 2 ∷ [])
    ∷ best jobE (0 ∷ 0 ∷ 1 ∷ [])
    ∷ best (free_job 0 (1 ∷ 2 ∷ []) (2 ∷ 2 ∷ [])) (0 ∷ 0 ∷ 2 ∷ [])
    ∷ measures (free_job 0 (1 ∷ 2 ∷ []) (2 ∷ 2 ∷ [])) (0 ∷ 0 ∷ 2 ∷ []) (over 4 2)
    ∷ planned First (free_job 0 (1 ∷ 2 ∷ []) (2 ∷ 2 ∷ [])) (0 ∷ 1 ∷ 2 ∷ []) (over 2 1) 500 (four 1 2 1 2) (four 2 3 5 2)
    ∷ []

abbrev pub jobI : Job
jobI = free_job 0 (3 ∷ 3 ∷ 3 ∷ 3 ∷ []) (5 ∷ 1 ∷ 1 ∷ 1 ∷ 4 ∷ 2 ∷ 2 ∷ 2 ∷ [])

abbrev pub jobJ : Job
jobJ = free_job 0 (1 ∷ 1 ∷ 1 ∷ 1 ∷ []) (1 ∷ 3 ∷ 1 ∷ 2 ∷ 3 ∷ [])

abbrev pub jobL : Job
jobL = free_job 0 (1 ∷ 1 ∷ 1 ∷ 1 ∷ []) (6 ∷ [])

-- The jobs F to L of the scope's section 16, with the quick plan of I and the plan of J. Scope 16.10: "Speeds 1 2 are refused with 14, and
-- so are three machines of one speed, with no room for separators too." Beside them: six and 96 machines; 64, with room and without; a last
-- speed that is greater or less; 5, 6, 7 and 8 before 14.
unfoldable pub halved_jobs : List Row
halved_jobs =
    halved (free_job 0 (7 ∷ []) (4 ∷ 3 ∷ 2 ∷ 6 ∷ 1 ∷ [])) (0 ∷ 5 ∷ []) (over 16 7)
    ∷ halved (free_job 0 (1 ∷ 1 ∷ []) (1 ∷ 2 ∷ 1 ∷ [])) (0 ∷ 1 ∷ 3 ∷ []) (over 3 1)
    ∷ halved (free_job 0 (1 ∷ 1 ∷ []) (2 ∷ 0 ∷ 0 ∷ 2 ∷ [])) (0 ∷ 1 ∷ 4 ∷ []) (over 2 1)
    ∷ halved jobI (0 ∷ 1 ∷ 4 ∷ 5 ∷ 8 ∷ []) (over 6 3)
    ∷ quick jobI (0 ∷ 1 ∷ 4 ∷ 6 ∷ 8 ∷ []) (over 6 3)
    ∷ halved jobJ (0 ∷ 1 ∷ 3 ∷ 4 ∷ 5 ∷ []) (over 4 1)
    ∷ beaten jobJ (0 ∷ 1 ∷ 3 ∷ 4 ∷ 5 ∷ [])
    ∷ best jobJ (0 ∷ 1 ∷ 2 ∷ 4 ∷ 5 ∷ [])
    ∷ measures jobJ (0 ∷ 1 ∷ 2 ∷ 4 ∷ 5 ∷ []) (over 3 1)
    ∷ halved (free_job 0 (3 ∷ 3 ∷ []) []) (0 ∷ 0 ∷ 0 ∷ []) (over 0 3)
    ∷ halved jobL (0 ∷ 0 ∷ 0 ∷ 0 ∷ 1 ∷ []) (over 6 1)
    ∷ heavy jobL
    ∷ unhalved (free_job 0 (1 ∷ 2 ∷ []) []) 3 14
    ∷ unhalved (free_job 0 (1 ∷ 2 ∷ []) []) 0 14
    ∷ unhalved (free_job 0 (1 ∷ 1 ∷ 1 ∷ []) []) 4 14
    ∷ unhalved (free_job 0 (1 ∷ 1 ∷ 1 ∷ []) []) 0 14
    ∷ unhalved (free_job 0 (1 ∷ 1 ∷ 1 ∷ 2 ∷ []) []) 5 14
    ∷ unhalved (free_job 0 (2 ∷ 2 ∷ 2 ∷ 1 ∷ []) []) 5 14
    ∷ unhalved (free_job 0 (replicate 6 1) []) 7 14
    ∷ unhalved (free_job 0 (replicate 64 1) []) 65 0
    ∷ unhalved (free_job 0 (replicate 64 1) []) 64 9
    ∷ unhalved (free_job 0 (replicate 96 1) []) 97 14
    ∷ unhalved (free_job 0 (replicate 97 1) []) 98 7
    ∷ unhalved (free_job 0 [] []) 1 7
    ∷ unhalved (free_job 0 (1 ∷ 2 ∷ []) (replicate 2049 0)) 3 8
    ∷ unhalved (free_job 0 (1 ∷ 2 ∷ []) (1000001 ∷ [])) 3 6
    ∷ unhalved (free_job 0 (1 ∷ 0 ∷ []) []) 3 5
    ∷ []

abbrev pub jobM : Job
jobM = free_job 2 (1 ∷ 3 ∷ []) (1 ∷ 3 ∷ 8 ∷ [])

abbrev pub jobN : Job
jobN = free_job 3 (1 ∷ 4 ∷ []) (1 ∷ 4 ∷ 4 ∷ [])

abbrev pub jobO : Job
jobO = free_job 5 (1 ∷ 1 ∷ []) (0 ∷ 0 ∷ [])

abbrev pub jobQ : Job
jobQ = free_job 4 (3 ∷ []) (5 ∷ 2 ∷ [])

-- The jobs M, N, O and Q of the scope's section 17, of the second edition. M is A with c = 2: its plan, its quick plan, a division measured, trials,
-- one of them at a bound that leaves no machine but the last room for a tile, and its plan files, one with the weights for the loads. Of N,
-- c = 3, only the second machine has tiles; without c both have; c is not in the load of the empty share. O has weights 0 and c = 5.
-- No tiles, on two machines and on one. Q is a single machine, with c = 4 and with c = 0. D with c = 0: as in the first edition. Halved
-- rows with c, one whose P × load is all that is allowed. 1,000,000 is taken, 1,000,001 refused with 16, before 5 and 7 too.
unfoldable pub started_jobs : List Row
started_jobs =
    planned (Second 2) jobM (0 ∷ 1 ∷ 3 ∷ []) (over 13 3) 445 (four 2 2 2 2) (four 3 4 8 2)
    ∷ quick jobM (0 ∷ 2 ∷ 3 ∷ []) (over 6 1)
    ∷ measures jobM (0 ∷ 3 ∷ 3 ∷ []) (over 14 1)
    ∷ fails_with jobM (over 3 1) (over 13 3) (0 ∷ 1 ∷ 2 ∷ [])
    ∷ fails_with jobM (over 1 1) (over 3 1) (0 ∷ 0 ∷ 1 ∷ [])
    ∷ fails_with jobM (over 0 1) (over 3 1) (0 ∷ 0 ∷ 0 ∷ [])
    ∷ fits_with jobM (over 13 3) 2 (0 ∷ 1 ∷ 3 ∷ [])
    ∷ filed jobM (fields_of 0 1 3 1 ∷ fields_of 1 3 13 3 ∷ []) 0
    ∷ filed jobM (fields_of 0 1 1 1 ∷ fields_of 1 3 11 3 ∷ []) 13
    ∷ planned (Second 3) jobN (0 ∷ 0 ∷ 3 ∷ []) (over 12 4) 667 (four 1 2 2 2) (four 3 4 8 2)
    ∷ best jobN (0 ∷ 0 ∷ 3 ∷ [])
    ∷ beaten jobN (0 ∷ 1 ∷ 3 ∷ [])
    ∷ best (free_job 0 (1 ∷ 4 ∷ []) (1 ∷ 4 ∷ 4 ∷ [])) (0 ∷ 1 ∷ 3 ∷ [])
    ∷ filed jobN (fields_of 0 0 0 1 ∷ fields_of 0 3 12 4 ∷ []) 0
    ∷ filed jobN (fields_of 0 0 3 1 ∷ fields_of 0 3 12 4 ∷ []) 13
    ∷ planned (Second 5) jobO (0 ∷ 2 ∷ 2 ∷ []) (over 5 1) 0 (four 1 2 1 2) (four 2 3 4 2)
    ∷ planned (Second 9) (free_job 9 (7 ∷ 2 ∷ []) []) (0 ∷ 0 ∷ 0 ∷ []) (over 0 7) 0 (four 0 1 1 0) (four 0 1 9 0)
    ∷ planned (Second 9) (free_job 9 (7 ∷ []) []) (0 ∷ 0 ∷ []) (over 0 7) 0 (four 0 1 1 0) (four 0 2 7 0)
    ∷ planned (Second 4) jobQ (0 ∷ 2 ∷ []) (over 11 3) 572 (four 0 2 1 0) (four 0 2 6 0)
    ∷ planned (Second 0) (free_job 0 (3 ∷ []) (5 ∷ 2 ∷ [])) (0 ∷ 2 ∷ []) (over 7 3) 0 (four 0 1 1 0) (four 0 2 5 0)
    ∷ planned (Second 0) jobD (0 ∷ 2 ∷ 2 ∷ []) (over 0 1) 0 (four 0 1 1 2) (four 2 3 1 2)
    ∷ halved (free_job 4 (1 ∷ 1 ∷ []) (1 ∷ 2 ∷ 1 ∷ [])) (0 ∷ 1 ∷ 3 ∷ []) (over 7 1)
    ∷ heavy (free_job 5 (1 ∷ 1 ∷ 1 ∷ 1 ∷ []) (6 ∷ []))
    ∷ measures (free_job 1000000 (1 ∷ []) (0 ∷ [])) (0 ∷ 1 ∷ []) (over 1000000 1)
    ∷ refused (free_job 1000001 (1 ∷ []) (0 ∷ [])) (0 ∷ 1 ∷ []) 16
    ∷ refused (free_job 1000001 (0 ∷ []) (0 ∷ [])) (0 ∷ 1 ∷ []) 16
    ∷ refused (free_job 1000001 [] []) (0 ∷ []) 16
    ∷ []

-- Trials that fit, with the number of machines that their walks came to. Scope 11.20: "A trial of A at 12/1 fits, comes to 1 machine and writes
-- 0 3 3." Scope 11.22: "A trial of D at 0/1 fits, comes to 1 machine and writes 0 2 2." Scope 11.23: "A trial of C at 0/1 fits, comes to 0
-- machines and writes 0 0 0: there is no tile to place." Scope 11.24: "Of weights 2 3 0 0 on speeds 1 1 1 a trial at 3/1 fits, comes to 2
-- machines and writes 0 1 4 4: tiles of weight 0 at the end go to the machine that reaches them." Scope 11.25: "Of weights 6 on speeds 1 2 1 a
-- trial at 3/1 fits, comes to 2 machines and writes 0 0 1 1: machine 1 counts, though it takes no tile, and machine 3 does not." Scope 17.22: "A
-- trial of M at 14/1 fits, comes to 1 machine and writes 0 3 3." That of 11.21 is among the marked ones. Beside them: three tiles on the longest row, one, two and
-- three to a machine; the last machine of two takes the last tile; no tiles on one machine.
unfoldable pub fitted_trials : List Row
fitted_trials =
    fits_with jobA (over 12 1) 1 (0 ∷ 3 ∷ 3 ∷ [])
    ∷ fits_with jobD (over 0 1) 1 (0 ∷ 2 ∷ 2 ∷ [])
    ∷ fits_with jobC (over 0 1) 0 (0 ∷ 0 ∷ 0 ∷ [])
    ∷ fits_with (free_job 0 (1 ∷ 1 ∷ 1 ∷ []) (2 ∷ 3 ∷ 0 ∷ 0 ∷ [])) (over 3 1) 2 (0 ∷ 1 ∷ 4 ∷ 4 ∷ [])
    ∷ fits_with (free_job 0 (1 ∷ 2 ∷ 1 ∷ []) (6 ∷ [])) (over 3 1) 2 (0 ∷ 0 ∷ 1 ∷ 1 ∷ [])
    ∷ fits_with jobM (over 14 1) 1 (0 ∷ 3 ∷ 3 ∷ [])
    ∷ fits_with (free_job 0 (replicate 96 1) (5 ∷ 5 ∷ 5 ∷ [])) (over 5 1) 3 (0 ∷ 1 ∷ 2 ∷ replicate 94 3)
    ∷ fits_with (free_job 0 (replicate 96 1) (5 ∷ 5 ∷ 5 ∷ [])) (over 10 1) 2 (0 ∷ 2 ∷ replicate 95 3)
    ∷ fits_with (free_job 0 (replicate 96 1) (5 ∷ 5 ∷ 5 ∷ [])) (over 15 1) 1 (0 ∷ replicate 96 3)
    ∷ fits_with (free_job 0 (1 ∷ 1 ∷ []) (4 ∷ 4 ∷ [])) (over 4 1) 2 (0 ∷ 1 ∷ 2 ∷ [])
    ∷ fits_with (free_job 0 (3 ∷ []) []) (over 0 1) 0 (0 ∷ 0 ∷ [])
    ∷ []

abbrev pub jobR : Job
jobR = job_of 0 (1 ∷ 1 ∷ 5 ∷ []) (1 ∷ 2 ∷ 2 ∷ []) (1 ∷ 1 ∷ 1 ∷ 1 ∷ 1 ∷ [])

abbrev pub jobS : Job
jobS = job_of 0 (1 ∷ 3 ∷ []) (0 ∷ 1 ∷ []) (1 ∷ 3 ∷ 8 ∷ [])

abbrev pub jobT : Job
jobT = job_of 0 (1 ∷ 2 ∷ 1 ∷ []) (1 ∷ 0 ∷ 1 ∷ []) (2 ∷ 1 ∷ 3 ∷ 1 ∷ 2 ∷ 4 ∷ [])

-- U, with holds of its own and with others.
abbrev pub jobUWith : List ℕ → Job
jobUWith hs = job_of 0 (3 ∷ 1 ∷ []) hs (2 ∷ 9 ∷ 4 ∷ [])

abbrev pub jobU : Job
jobU = jobUWith (1 ∷ 2 ∷ [])

abbrev pub jobV : Job
jobV = job_of 3 (1 ∷ 4 ∷ []) (0 ∷ 2 ∷ []) (1 ∷ 4 ∷ 4 ∷ [])

abbrev pub jobW : Job
jobW = job_of 0 (1 ∷ 1 ∷ 1 ∷ []) (1 ∷ 2 ∷ 0 ∷ []) (0 ∷ 0 ∷ 0 ∷ 0 ∷ [])

-- X on its own speeds, and on others.
abbrev pub jobXOn : List ℕ → Job
jobXOn es = job_of 0 es (3 ∷ 3 ∷ []) (1 ∷ 3 ∷ 8 ∷ [])

abbrev pub jobX : Job
jobX = jobXOn (1 ∷ 3 ∷ [])

abbrev pub jobY : Job
jobY = job_of 0 (7 ∷ 2 ∷ []) (1 ∷ 1 ∷ []) []

-- The jobs R to Y of the scope's section 18, with holds: their plans and trials. Scope 18.37: "In row 2 of R the crossing at i = 5 is 3, where j
-- begins". Scope 18.38: "Measuring 0 1 3 of S is refused with 11, and it is the plan of A, which is S without holds; measuring 0 2 3 gives 4/1."
-- Scope 18.39: "Of S the division 0 2 3 is best and 0 3 3 is valid." Scope 18.40: "With holds 1 1 in place of 1 2 job U is refused with 17 .. with holds 1 0
-- it is planned." Scope 18.41: "Method 4 and the quick plan of R are refused with 18". Scope 18.42: "The halved row of X is refused with 14; on speeds 1 1
-- it is refused with 18." Beside them: plan files of S, one of separators that break a hold; a list of holds too short, and one that is cut; sums of holds just below, at and
-- above N, one hold of 0 among them; the greatest hold; a single machine that holds all, and one that does not.
unfoldable pub held_jobs : List Row
held_jobs =
    held_plan First jobR (0 ∷ 1 ∷ 3 ∷ 5 ∷ []) (over 2 1) 1800 (three 6 3 3) (three 10 11 8)
    ∷ held_plan First jobS (0 ∷ 2 ∷ 3 ∷ []) (over 4 1) 334 (three 2 2 2) (three 3 4 8)
    ∷ held_plan First jobT (0 ∷ 1 ∷ 5 ∷ 6 ∷ []) (over 4 1) 231 (three 8 3 4) (three 12 13 7)
    ∷ held_plan First jobU (0 ∷ 1 ∷ 3 ∷ []) (over 13 1) 2467 (three 2 2 2) (three 3 4 9)
    ∷ held_plan (Second 3) jobV (0 ∷ 1 ∷ 3 ∷ []) (over 4 1) 1223 (three 1 2 3) (three 3 4 9)
    ∷ held_plan First jobW (0 ∷ 1 ∷ 3 ∷ 4 ∷ []) (over 0 1) 0 (three 2 1 1) (three 8 9 1)
    ∷ held_plan First jobX (0 ∷ 1 ∷ 3 ∷ []) (over 11 3) 223 (three 2 2 3) (three 3 4 8)
    ∷ held_plan First jobY (0 ∷ 0 ∷ 0 ∷ []) (over 0 7) 0 (three 0 1 1) (three 0 1 1)
    ∷ fails_with jobR (over 1 1) (over 2 1) (0 ∷ 1 ∷ 2 ∷ 4 ∷ [])
    ∷ fits_with jobR (over 100 1) 3 (0 ∷ 1 ∷ 3 ∷ 5 ∷ [])
    ∷ fails_with jobS (over 11 3) (over 4 1) (0 ∷ 1 ∷ 2 ∷ [])
    ∷ fits_with jobS (over 12 1) 1 (0 ∷ 3 ∷ 3 ∷ [])
    ∷ fails_with jobT (over 13 4) (over 7 2) (0 ∷ 1 ∷ 4 ∷ 5 ∷ [])
    ∷ fails_with jobU (over 11 1) (over 13 1) (0 ∷ 1 ∷ 2 ∷ [])
    ∷ fails_with jobV (over 3 1) (over 4 1) (0 ∷ 0 ∷ 2 ∷ [])
    ∷ fits_with jobW (over 0 1) 3 (0 ∷ 1 ∷ 3 ∷ 4 ∷ [])
    ∷ crosses jobR 0 5 3
    ∷ refused jobS (0 ∷ 1 ∷ 3 ∷ []) 11
    ∷ measures jobS (0 ∷ 2 ∷ 3 ∷ []) (over 4 1)
    ∷ best jobS (0 ∷ 2 ∷ 3 ∷ [])
    ∷ beaten jobS (0 ∷ 3 ∷ 3 ∷ [])
    ∷ filed jobS (fields_of 0 2 4 1 ∷ fields_of 2 3 8 3 ∷ []) 0
    ∷ filed jobS (fields_of 0 1 1 1 ∷ fields_of 1 3 11 3 ∷ []) 11
    ∷ filed jobS (fields_of 0 1 1 1 ∷ fields_of 1 3 11 4 ∷ []) 11
    ∷ divides (jobUWith (1 ∷ 1 ∷ [])) 17
    ∷ divides jobU 0
    ∷ divides (jobUWith (2 ∷ 2 ∷ [])) 0
    ∷ divides (jobUWith (1 ∷ 0 ∷ [])) 0
    ∷ divides jobA 0
    ∷ unheld jobR 18
    ∷ unheld (jobUWith (1 ∷ 1 ∷ [])) 18
    ∷ unheld jobA 0
    ∷ unhalved jobX 3 14
    ∷ unhalved (jobXOn (1 ∷ 1 ∷ [])) 3 18
    ∷ unhalved (jobXOn (1 ∷ 1 ∷ [])) 2 9
    ∷ refused (jobUWith (1 ∷ [])) (0 ∷ 1 ∷ 3 ∷ []) 9
    ∷ measures (jobUWith (1 ∷ 2 ∷ 7 ∷ [])) (0 ∷ 1 ∷ 3 ∷ []) (over 13 1)
    ∷ unheld (jobUWith (0 ∷ 0 ∷ 7 ∷ [])) 0
    ∷ measures (jobUWith (65535 ∷ 65535 ∷ [])) (0 ∷ 3 ∷ 3 ∷ []) (over 15 3)
    ∷ divides (job_of 0 (2 ∷ []) (2 ∷ []) (5 ∷ 1 ∷ [])) 0
    ∷ divides (job_of 0 (2 ∷ []) (1 ∷ []) (5 ∷ 1 ∷ [])) 17
    ∷ held_plan (Second 0) (job_of 0 (3 ∷ []) (2 ∷ []) (5 ∷ 2 ∷ [])) (0 ∷ 2 ∷ []) (over 7 3) 0 (three 0 1 1) (three 0 2 6)
    ∷ []
