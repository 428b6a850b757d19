-- The refusals that lists and a plan file can cause, by number, and the order of their tests. Scope, section 8.
use Rattle.std.specs.Prelude.{ℕ, suc, ◌≡◌, Bool, true, false, not, ◌&&◌, cond, length, take, T, leb, eqb}
use mathlib.Core.List.{List, [], ◌∷◌, ◌++◌, map, Memᴰ}
use Rattle.bound.specs.declared.Bound.{Bound}
use Rattle.chain.specs.Limits.{max_tasks, max_weight, max_startup, max_processors, max_speed, max_bound_load, max_bound_speed}
use Rattle.chain.specs.Lists.{tabulate, all, power_of_two}
use Rattle.chain.specs.Job.{Job, tasks, processors, speed_of, held, enough, part_load, at, all_kept}

-- A test: the number of its refusal, and whether it passes.
pub record Test : Type 0 where
  pub number : ℕ
  pub passes : Bool

abbrev pub test : ℕ → Bool → Test
test n b = record { number = n; passes = b }

-- x is from lo to hi.
abbrev pub between : ℕ → ℕ → ℕ → Bool
between lo hi x = leb lo x && leb x hi

-- Every number of the list is from lo to hi.
unfoldable pub each_between : ℕ → ℕ → List ℕ → Bool
each_between lo hi [] = true
each_between lo hi (x ∷ xs) = between lo hi x && each_between lo hi xs

-- Refusal 1: "the method is not 1 to 4"
unfoldable pub method_test : ℕ → Test
method_test m = test 1 (between 1 4 m)

-- Refusal 16: "the start-up work is out of range"
unfoldable pub startup_test : ℕ → Test
startup_test c = test 16 (leb c max_startup)

-- Refusal 5: "a speed is out of range"
unfoldable pub speeds_test : List ℕ → Test
speeds_test es = test 5 (each_between 1 max_speed es)

-- Refusal 6: "a weight is out of range"
unfoldable pub weights_test : List ℕ → Test
weights_test ws = test 6 (each_between 0 max_weight ws)

-- Refusal 7: "the number of machines is out of range"
unfoldable pub processors_test : List ℕ → Test
processors_test es = test 7 (between 1 max_processors (length es))

-- Refusal 8: "there are more than 2,048 tiles"
unfoldable pub tasks_test : List ℕ → Test
tasks_test ws = test 8 (leb (length ws) max_tasks)

-- Every number of the list is its first one.
unfoldable pub all_equal : List ℕ → Bool
all_equal [] = true
all_equal (x ∷ xs) = each_between x x xs

-- Refusal 14: "the speeds are not all equal, or the number of machines is no power of two": of a row that is to be halved.
unfoldable pub row_test : List ℕ → Test
row_test es = test 14 (all_equal es && power_of_two (length es))

-- Refusal 9: "a lent list is too short": a list of this length, where this much is needed.
unfoldable pub length_test : ℕ → ℕ → Test
length_test needed given = test 9 (leb needed given)

-- Scope 18.4: "A list of holds with fewer than P entries is refused with 9"
unfoldable pub holds_test : Job → Test
holds_test job = length_test (processors job) (length job.holds)

-- Refusal 17: "the holds are all limited and add up to less than N"
unfoldable pub enough_test : Job → Test
enough_test job = test 17 (enough job)

-- Refusal 18: "method 4 or a quick plan is asked for a job with holds": of a call that takes none with holds.
unfoldable pub free_test : Job → Test
free_test job = test 18 (not (held job))

-- Refusal 10: "the load or the speed of a lent bound is out of range"
unfoldable pub bound_test : Bound → Test
bound_test B = test 10 (leb B.load max_bound_load && between 1 max_bound_speed B.speed)

-- A list is a division of the job.
unfoldable pub is_partition : Job → List ℕ → Bool
is_partition job s =
    eqb (length s) (suc (processors job)) && eqb (at s 0) 0 && all (λ p. leb (at s p) (at s (suc p))) (processors job)
    && eqb (at s (processors job)) (tasks job) && all_kept job s

-- Refusal 11: "the first P + 1 entries are no division"
unfoldable pub partition_test : Job → List ℕ → Test
partition_test job s = test 11 (is_partition job (take (suc (processors job)) s))

-- A plan file as it is read: the length that it must have and the length that it has, and the four fields of each processor's record.
pub record PlanRecords : Type 0 where
  pub needed : ℕ
  pub given : ℕ
  pub from : ℕ → ℕ
  pub to : ℕ → ℕ
  pub load : ℕ → ℕ
  pub speed : ℕ → ℕ

-- Scope 14.2: "Its separators are the first field of the first record, then the second field of each record."
unfoldable pub separators_of : Job → PlanRecords → List ℕ
separators_of job plan = plan.from 0 ∷ tabulate plan.to (processors job)

-- Refusal 12: "the length of a plan file is not 16 × P"
unfoldable pub plan_length_test : PlanRecords → Test
plan_length_test plan = test 12 (eqb plan.given plan.needed)

-- Each record begins at its separator: where the one before ends.
unfoldable pub joined : Job → PlanRecords → Bool
joined job plan = all (λ p. eqb (plan.from p) (at (separators_of job plan) p)) (processors job)

-- Refusal 11: "of a plan file, its separators are no division, or a record does not begin where the one before ends"
unfoldable pub joined_test : Job → PlanRecords → Test
joined_test job plan = test 11 (joined job plan && is_partition job (separators_of job plan))

-- The load and the speed of processor p's record are true.
unfoldable pub true_at : Job → PlanRecords → ℕ → Bool
true_at job plan p = eqb (plan.load p) (part_load job (plan.from p) (plan.to p)) && eqb (plan.speed p) (speed_of job p)

-- Refusal 13: "a load or a speed of a plan file is untrue"
unfoldable pub true_test : Job → PlanRecords → Test
true_test job plan = test 13 (all (true_at job plan) (processors job))

-- The number of the first test that fails, 0 where all pass. Scope 8.2: "The tests are made in the order of the numbers, but 14
-- directly after 8, 17 and then 18 directly after 9, 12 before 11, 15 directly after 4, and 16 directly after 6 or, in lists, directly before 5, each call making those of the
-- inputs that it takes."
unfoldable pub first_refusal : List Test → ℕ
first_refusal [] = 0
first_refusal (t ∷ ts) = cond t.passes (first_refusal ts) t.number

-- The test that is the first to fail in a list, with the number n.
pub record FirstFailing (ts : List Test) (n : ℕ) : Type 0 where
  pub before : List Test
  pub failed : Test
  pub after : List Test
  pub whole : before ++ failed ∷ after ≡ ts
  pub passed : (t : Test) → Memᴰ t before → T t.passes
  pub fails : failed.passes ≡ false
  pub gives : failed.number ≡ n

-- What every call with a job by lists tests. Scope 8.4: "In lists c is tested first, then all speeds, then all weights."
unfoldable pub job_tests : Job → List Test
job_tests job =
    startup_test job.startup ∷ speeds_test job.speeds ∷ weights_test job.weights ∷ processors_test job.speeds ∷ tasks_test job.weights ∷ []

-- A lent list: the length that is needed and the length that it has.
pub record Lent : Type 0 where
  pub needed : ℕ
  pub given : ℕ

-- What a call takes beside the job's lists; the speeds of a row that it halves, the job where it divides it by its holds, and the job where it takes
-- none with holds; nothing of a kind where it takes none.
pub record Inputs : Type 0 where
  pub methods : List ℕ
  pub rows : List (List ℕ)
  pub lists : List Lent
  pub keeping : List Job
  pub free : List Job
  pub bounds : List Bound
  pub divisions : List (List ℕ)
  pub plans : List PlanRecords

-- A call that takes nothing more,
abbrev pub nothing : Inputs
nothing = record { methods = []; rows = []; lists = []; keeping = []; free = []; bounds = []; divisions = []; plans = [] }

-- and one input more of a kind, before the others of that kind.
abbrev pub with_method : ℕ → Inputs → Inputs
with_method m inputs =
    record {
      methods = m ∷ inputs.methods;
      rows = inputs.rows;
      lists = inputs.lists;
      keeping = inputs.keeping;
      free = inputs.free;
      bounds = inputs.bounds;
      divisions = inputs.divisions;
      plans = inputs.plans;
    }

abbrev pub with_row : List ℕ → Inputs → Inputs
with_row es inputs =
    record {
      methods = inputs.methods;
      rows = es ∷ inputs.rows;
      lists = inputs.lists;
      keeping = inputs.keeping;
      free = inputs.free;
      bounds = inputs.bounds;
      divisions = inputs.divisions;
      plans = inputs.plans;
    }

abbrev pub lending : ℕ → ℕ → Inputs → Inputs
lending needed given inputs =
    record {
      methods = inputs.methods;
      rows = inputs.rows;
      lists = record { needed = needed; given = given } ∷ inputs.lists;
      keeping = inputs.keeping;
      free = inputs.free;
      bounds = inputs.bounds;
      divisions = inputs.divisions;
      plans = inputs.plans;
    }

abbrev pub dividing : Job → Inputs → Inputs
dividing job inputs =
    record {
      methods = inputs.methods;
      rows = inputs.rows;
      lists = inputs.lists;
      keeping = job ∷ inputs.keeping;
      free = inputs.free;
      bounds = inputs.bounds;
      divisions = inputs.divisions;
      plans = inputs.plans;
    }

abbrev pub without_holds : Job → Inputs → Inputs
without_holds job inputs =
    record {
      methods = inputs.methods;
      rows = inputs.rows;
      lists = inputs.lists;
      keeping = inputs.keeping;
      free = job ∷ inputs.free;
      bounds = inputs.bounds;
      divisions = inputs.divisions;
      plans = inputs.plans;
    }

abbrev pub with_bound : Bound → Inputs → Inputs
with_bound B inputs =
    record {
      methods = inputs.methods;
      rows = inputs.rows;
      lists = inputs.lists;
      keeping = inputs.keeping;
      free = inputs.free;
      bounds = B ∷ inputs.bounds;
      divisions = inputs.divisions;
      plans = inputs.plans;
    }

abbrev pub with_division : List ℕ → Inputs → Inputs
with_division s inputs =
    record {
      methods = inputs.methods;
      rows = inputs.rows;
      lists = inputs.lists;
      keeping = inputs.keeping;
      free = inputs.free;
      bounds = inputs.bounds;
      divisions = s ∷ inputs.divisions;
      plans = inputs.plans;
    }

abbrev pub with_plan : PlanRecords → Inputs → Inputs
with_plan plan inputs =
    record {
      methods = inputs.methods;
      rows = inputs.rows;
      lists = inputs.lists;
      keeping = inputs.keeping;
      free = inputs.free;
      bounds = inputs.bounds;
      divisions = inputs.divisions;
      plans = plan ∷ inputs.plans;
    }

-- Scope 8.7: "P + 1 separators"
abbrev pub separators_needed : Job → ℕ
separators_needed job = suc (processors job)

-- Measuring: the separators of a division.
abbrev pub measure_inputs : Job → List ℕ → Inputs
measure_inputs job s = lending (separators_needed job) (length s) (with_division s nothing)

-- Halving the row: the row, and a list of this length for the separators.
abbrev pub halving_inputs : Job → ℕ → Inputs
halving_inputs job lent = with_row job.speeds (lending (separators_needed job) lent (without_holds job nothing))

-- The tests of a plan file, in order.
unfoldable pub plan_tests : Job → PlanRecords → List Test
plan_tests job plan = plan_length_test plan ∷ joined_test job plan ∷ true_test job plan ∷ []

-- The tests of a call by lists, in order: 1; 16, 5, 6, 7, 8; 14; 9; 17; 18; 10; 12; 11; 13.
unfoldable pub call_tests : Job → Inputs → List Test
call_tests job inputs =
    map method_test inputs.methods ++ job_tests job ++ map row_test inputs.rows ++ (holds_test job ∷ map (λ l. length_test l.needed l.given) inputs.lists)
    ++ map enough_test inputs.keeping ++ map free_test inputs.free ++ map bound_test inputs.bounds ++ map plan_length_test inputs.plans ++ map (partition_test job) inputs.divisions
    ++ map (joined_test job) inputs.plans ++ map (true_test job) inputs.plans

-- The number that a call by lists is refused with, 0 where it is accepted.
unfoldable pub refusal : Job → Inputs → ℕ
refusal job inputs = first_refusal (call_tests job inputs)
