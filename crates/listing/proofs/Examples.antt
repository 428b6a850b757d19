-- The listings of the worked jobs, computed. Scope, sections 11, 17 and 18.
-- Assumes nothing.
use Prim.Native.Nat.{ℕ}
use Prim.Native.String.{String}
use mathlib.Core.Path.{◌≡◌, refl}
use mathlib.Core.List.{List, [], ◌∷◌}
use lib.ListN.{replicate}
use Rattle.bound.specs.Order.{le, greater, lesser, least_to, rounded_up}
use Rattle.chain.specs.Limits.{max_tasks, max_weight, max_startup, max_processors, max_speed}
use Rattle.chain.specs.Lists.{sum, greatest_of, least_of, tabulate, sum_to, all, greatest_from, smallest_from}
use Rattle.chain.specs.Lists.{smallest_least, digits_within, digits, each_of}
use Rattle.chain.specs.Job.{free_job, job_of, speed_of, hold_of, held, enough, keeps, all_kept, part_of, part_weight}
use Rattle.chain.specs.Job.{part_load, slowest_of, part_bound, within, offer, bound_at, bottleneck_to, bottleneck}
use Rattle.chain.specs.Job.{ideal, widest, edition_of, startup_of, load_of, First, Second}
use Rattle.chain.specs.Probe.{reach, separator, walk, fits, bid, next_bid}
use Rattle.chain.specs.Heuristic.{miss, nearest, heuristic}
use Rattle.chain.specs.Dynamic.{start_of, candidate, crossing_of, lesser_at, table_value, crossing, moves_to, moves}
use Rattle.chain.specs.Bidding.{bidding}
use Rattle.chain.specs.Bisection.{first_ends, next_ends, ends, meet}
use Rattle.chain.specs.Nicol.{fits_at, first_fit, start_on, candidate_on, least_candidate, empty_fits, next_range}
use Rattle.chain.specs.Nicol.{range_after, single, settled}
use Rattle.chain.specs.Plan.{spread, onward, those, partitions, least_bound, least_bottleneck, plan_of, difference}
use Rattle.chain.specs.Plan.{allowance, bidding_failures, bisection_rounds, nicol_trials, nicol_stop, count_by}
use Rattle.chain.specs.Plan.{imbalance, bidding_allowance}
use Rattle.chain.specs.Refusal.{processors_test, tasks_test, enough_test, first_refusal}
use Rattle.fields.specs.Field.{field_bytes, field_at, half_bytes, half_at}
use Rattle.chain.specs.Numbers.{number_of}
use Rattle.jobs.specs.JobFile.{record_bytes, records_bytes, job_bytes, edition_bytes}
use Rattle.jobs.specs.Parse.{byte_at, kind_at, value_at, hold_at, is_kind, task_before, multiple_test, blank, form_test}
use Rattle.jobs.specs.Parse.{order_test, speed_test, weight_test, record_tests, records_tests, standing, speeds_of}
use Rattle.jobs.specs.Parse.{holds_of, weights_of, file_tests, place_test, work_test, second_in}
use Rattle.planner.specs.Answers.{plan_figures}
use Rattle.listing.specs.Room.{listing_room}
use Rattle.texts.specs.Text.{text, width, decimal, field, labelled, refusal_line}
use Rattle.listing.specs.Listing.{fields, counts_line, figures_text, plan_line, method_line, last_line, job_listing}
use Rattle.listing.specs.Listing.{listing_by, listing_of, listed_tests, listed_refusal, intake, listing}

-- Job A's file gives, Scope 11.9, the five lines.
abbrev fileA : List ℕ
fileA =
    1 ∷ 0 ∷ 0 ∷ 0 ∷ 1 ∷ 0 ∷ 0 ∷ 0
    ∷ 1 ∷ 0 ∷ 0 ∷ 0 ∷ 3 ∷ 0 ∷ 0 ∷ 0
    ∷ 2 ∷ 0 ∷ 0 ∷ 0 ∷ 1 ∷ 0 ∷ 0 ∷ 0
    ∷ 2 ∷ 0 ∷ 0 ∷ 0 ∷ 3 ∷ 0 ∷ 0 ∷ 0
    ∷ 2 ∷ 0 ∷ 0 ∷ 0 ∷ 8 ∷ 0 ∷ 0 ∷ 0 ∷ []

-- The file of job S, whose second machine has the hold 1, gives, Scope 18.43, the four lines.
abbrev fileS : List ℕ
fileS =
    1 ∷ 0 ∷ 0 ∷ 0 ∷ 1 ∷ 0 ∷ 0 ∷ 0
    ∷ 1 ∷ 0 ∷ 1 ∷ 0 ∷ 3 ∷ 0 ∷ 0 ∷ 0
    ∷ 2 ∷ 0 ∷ 0 ∷ 0 ∷ 1 ∷ 0 ∷ 0 ∷ 0
    ∷ 2 ∷ 0 ∷ 0 ∷ 0 ∷ 3 ∷ 0 ∷ 0 ∷ 0
    ∷ 2 ∷ 0 ∷ 0 ∷ 0 ∷ 8 ∷ 0 ∷ 0 ∷ 0 ∷ []

-- The file of job N, of the second edition, c = 3.
abbrev fileN : List ℕ
fileN =
    3 ∷ 0 ∷ 0 ∷ 0 ∷ 3 ∷ 0 ∷ 0 ∷ 0
    ∷ 1 ∷ 0 ∷ 0 ∷ 0 ∷ 1 ∷ 0 ∷ 0 ∷ 0
    ∷ 1 ∷ 0 ∷ 0 ∷ 0 ∷ 4 ∷ 0 ∷ 0 ∷ 0
    ∷ 2 ∷ 0 ∷ 0 ∷ 0 ∷ 1 ∷ 0 ∷ 0 ∷ 0
    ∷ 2 ∷ 0 ∷ 0 ∷ 0 ∷ 4 ∷ 0 ∷ 0 ∷ 0
    ∷ 2 ∷ 0 ∷ 0 ∷ 0 ∷ 4 ∷ 0 ∷ 0 ∷ 0 ∷ []

-- A file, and the text of its listing.
abbrev lists : List ℕ → String → Type 0
lists file t = listing file ≡ text t

-- The files of the jobs A to E, N, Q and S; one of job U with the holds 1 1, which fall short; an empty file and one
-- of 7 bytes.
pub listings : lists fileA
    "tiles 3 machines 2 total 12\n1 2 3 11 3 223 0 1 3\n2 2 4 11 3 223 0 1 3\n3 2 8 11 3 223 0 1 3\n4 2 2 11 3 223 0 1 3\n"
    × lists (job_bytes First (free_job 0 (1 ∷ 2 ∷ []) (4 ∷ 3 ∷ 2 ∷ 6 ∷ 1 ∷ [])))
    "tiles 5 machines 2 total 16\n1 2 5 12 2 125 0 1 5\n2 2 6 12 2 125 0 1 5\n3 1 6 12 2 125 0 1 5\n4 2 3 12 2 125 0 1 5\n"
    × lists (job_bytes First (free_job 0 (7 ∷ 2 ∷ []) []))
    "tiles 0 machines 2 total 0\n1 0 0 0 7 0 0 0 0\n2 1 1 0 7 0 0 0 0\n3 1 1 0 7 0 0 0 0\n4 0 0 0 7 0 0 0 0\n"
    × lists (job_bytes First (free_job 0 (1 ∷ 1 ∷ []) (0 ∷ 0 ∷ [])))
    "tiles 2 machines 2 total 0\n1 0 2 0 1 0 0 2 2\n2 1 3 0 1 0 0 2 2\n3 1 1 0 1 0 0 2 2\n4 2 2 0 1 0 0 2 2\n"
    × lists (job_bytes First (free_job 0 (1 ∷ 1 ∷ []) (6 ∷ [])))
    "tiles 1 machines 2 total 6\n1 1 1 6 1 1000 0 1 1\n2 2 2 6 1 1000 0 1 1\n3 1 4 6 1 1000 0 1 1\n4 1 1 6 1 1000 0 1 1\n"
    × lists fileN
    "tiles 3 machines 2 total 9\n1 1 3 12 4 667 0 0 3\n2 2 4 12 4 667 0 0 3\n3 2 8 12 4 667 0 0 3\n4 2 2 12 4 667 0 0 3\n"
    × lists (job_bytes (Second 4) (free_job 4 (3 ∷ []) (5 ∷ 2 ∷ [])))
    "tiles 2 machines 1 total 7\n1 0 0 11 3 572 0 2\n2 2 2 11 3 572 0 2\n3 1 6 11 3 572 0 2\n4 0 0 11 3 572 0 2\n"
    × lists fileS "tiles 3 machines 2 total 12\n1 2 3 4 1 334 0 2 3\n2 2 4 4 1 334 0 2 3\n3 2 8 4 1 334 0 2 3\n"
    × lists (job_bytes First (job_of 0 (3 ∷ 1 ∷ []) (1 ∷ 1 ∷ []) (2 ∷ 9 ∷ 4 ∷ []))) "refused 17\n"
    × lists [] "refused 7\n"
    × lists (replicate 7 0) "refused 2\n"
unfolding le greater lesser least_to rounded_up max_tasks max_weight max_startup max_processors max_speed sum
    greatest_of least_of tabulate sum_to all greatest_from smallest_from smallest_least digits_within digits each_of
    speed_of hold_of held enough part_of part_weight load_of part_load slowest_of part_bound keeps within offer
    all_kept bound_at bottleneck_to bottleneck ideal widest reach separator walk fits bid next_bid miss nearest
    heuristic start_of candidate crossing_of lesser_at table_value crossing moves_to moves bidding first_ends
    next_ends ends meet fits_at first_fit start_on candidate_on least_candidate empty_fits next_range range_after
    single settled spread onward those partitions least_bound least_bottleneck plan_of difference bidding_allowance
    allowance bidding_failures bisection_rounds nicol_trials nicol_stop count_by imbalance processors_test tasks_test
    enough_test first_refusal field_bytes field_at half_bytes half_at number_of record_bytes records_bytes
    edition_bytes job_bytes byte_at kind_at value_at hold_at is_kind task_before multiple_test blank form_test
    order_test place_test speed_test weight_test work_test record_tests records_tests standing speeds_of holds_of
    weights_of second_in edition_of startup_of file_tests plan_figures text width decimal field fields labelled
    counts_line figures_text plan_line method_line last_line job_listing refusal_line listing_by listing_of
    listed_tests listed_refusal intake listing
listings = (refl, refl, refl, refl, refl, refl, refl, refl, refl, refl, refl)

-- Scope 8.7: "8,736 bytes for a listing"
pub room : listing_room ≡ 8736
unfolding listing_room max_processors
room = refl
