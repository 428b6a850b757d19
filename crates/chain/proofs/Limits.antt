-- The limits from both sides, by lists and of a lent bound: the checker computes the definitions. Scope 2.9, 11.4 to 11.7.
-- Assumes nothing.
use Prim.Native.Nat.{ℕ}
use mathlib.Core.Path.{◌≡◌, refl}
use mathlib.Core.Bool.{Bool, true, false}
use mathlib.Core.List.{List, [], ◌∷◌}
use lib.ListN.{replicate}
use Rattle.chain.specs.Limits.{max_tasks, max_weight, max_startup, max_processors, max_speed, max_bound_load, max_bound_speed}
use Rattle.chain.specs.Job.{startup_of, edition_of, effective, free_job}
use Rattle.chain.specs.Refusal.{each_between, startup_test, speeds_test, weights_test, processors_test, tasks_test, bound_test, first_refusal, job_tests}

-- The job of these speeds and weights gives this number.
abbrev gives : List ℕ → List ℕ → ℕ → Type 0
gives es ws n = first_refusal (job_tests (free_job 0 es ws)) ≡ n

-- The same with the edition and the start-up work as a call takes them.
abbrev gives_with : Bool → ℕ → List ℕ → List ℕ → ℕ → Type 0
gives_with second c es ws n = first_refusal (job_tests (free_job (effective second c) es ws)) ≡ n

-- Scope 11.4: "Speed 10,000 is taken; speeds 0 and 10,001 are refused with 5." Scope 11.5: "Weight 1,000,000 is taken; weight 1,000,001 is
-- refused with 6."
pub values-limited :
    gives (1 ∷ []) [] 0 × gives (10000 ∷ []) [] 0 × gives (0 ∷ []) [] 5 × gives (10001 ∷ []) [] 5 × gives (1 ∷ []) (1000000 ∷ []) 0
    × gives (1 ∷ []) (1000001 ∷ []) 6
unfolding first_refusal job_tests startup_test speeds_test weights_test processors_test tasks_test each_between max_tasks max_weight max_startup max_processors max_speed
values-limited = (refl, refl, refl, refl, refl, refl)

-- Scope 11.6: "96 machines are taken; none and 97 are refused with 7, with 2,049 tiles too." Scope 11.7: "2,048 tiles are taken; 2,049 are
-- refused with 8."
pub counts_limited :
    gives (replicate 96 1) [] 0 × gives [] [] 7 × gives (replicate 97 1) [] 7 × gives [] (replicate 2049 0) 7
    × gives (replicate 97 1) (replicate 2049 0) 7 × gives (replicate 96 1) (replicate 2048 0) 0 × gives (replicate 96 1) (replicate 2049 0) 8
unfolding first_refusal job_tests startup_test speeds_test weights_test processors_test tasks_test each_between max_tasks max_weight max_startup max_processors max_speed
counts_limited = (refl, refl, refl, refl, refl, refl, refl)

-- Scope 17.5: "c = 1,000,000 is taken; 1,000,001 is refused with 16, before all else of a job by lists." In the first edition no c is.
pub startup_limited :
    gives_with true 1000000 (1 ∷ []) [] 0 × gives_with true 1000001 (1 ∷ []) [] 16 × gives_with true 1000001 (0 ∷ []) (1000001 ∷ []) 16
    × gives_with false 1000001 (1 ∷ []) [] 0 × gives_with false 4294967295 (0 ∷ []) [] 5
unfolding edition_of startup_of first_refusal job_tests startup_test speeds_test weights_test processors_test tasks_test each_between max_tasks max_weight max_startup max_processors max_speed
startup_limited = (refl, refl, refl, refl, refl)

-- Scope 8.4: "then all speeds, then all weights"
pub speeds_first : gives (0 ∷ []) (1000001 ∷ []) 5 × gives [] (1000001 ∷ []) 6
unfolding first_refusal job_tests startup_test speeds_test weights_test processors_test tasks_test each_between max_tasks max_weight max_startup max_processors max_speed
speeds_first = (refl, refl)

-- A lent bound of this load and this speed passes, or does not.
abbrev lends : ℕ → ℕ → Bool → Type 0
lends load speed b = (bound_test (record { load = load; speed = speed })).passes ≡ b

-- Scope 2.9: "a load of 0 to 100,000,000,000,000 and a speed of 1 to 1,000,000,000"
pub bounds_limited :
    lends 0 1 true × lends 100000000000000 1000000000 true × lends 100000000000001 1 false × lends 0 0 false × lends 0 1000000001 false
unfolding bound_test max_bound_load max_bound_speed
bounds_limited = (refl, refl, refl, refl, refl)
