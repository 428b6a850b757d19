-- The worked jobs of the scope, sections 11, 16, 17 and 18, and more beside them, hold of the definitions: the checker computes the whole table.
-- Assumes nothing.
use mathlib.Core.List.{◌++◌}
use lib.Dec.{T}
use Rattle.bound.specs.Order.{le, greater, lesser, least_to, rounded_up}
use Rattle.chain.specs.Limits.{max_tasks, max_weight, max_startup, max_processors, max_speed, max_bound_load, max_bound_speed}
use Rattle.chain.specs.Lists.{sum, greatest_of, least_of, tabulate, sum_to, all, greatest_from, smallest_from, smallest_least, digits_within, digits, levels, power_of_two, each_of}
use Rattle.chain.specs.Job.{startup_of, speed_of, hold_of, held, enough, part_of, part_weight, load_of, part_load, slowest_of, part_bound, keeps, within, offer, all_kept, bound_at, bottleneck_to, bottleneck, ideal, widest}
use Rattle.chain.specs.Probe.{reach, separator, walk, walked, fits, bid, next_bid, visited, probe}
use Rattle.chain.specs.Heuristic.{miss, nearest, heuristic}
use Rattle.chain.specs.Halving.{uneven, split, splits_by, halving}
use Rattle.chain.specs.Dynamic.{start_of, candidate, crossing_of, lesser_at, table_value, crossing, moves_to, moves}
use Rattle.chain.specs.Bidding.{bidding}
use Rattle.chain.specs.Bisection.{first_ends, next_ends, ends, meet}
use Rattle.chain.specs.Nicol.{fits_at, first_fit, start_on, candidate_on, least_candidate, empty_fits, next_range, range_after, single, settled}
use Rattle.chain.specs.Plan.{spread, onward, those, partitions, least_bound, least_bottleneck, plan_of, difference, bidding_allowance, allowance, bidding_failures, bisection_rounds, nicol_trials, nicol_stop, count_by, found_by, imbalance}
use Rattle.chain.specs.Refusal.{each_between, method_test, startup_test, speeds_test, weights_test, processors_test, tasks_test, all_equal, row_test, length_test, holds_test, enough_test, free_test, bound_test, is_partition, partition_test, separators_of, plan_length_test, joined, joined_test, true_at, true_test, first_refusal, job_tests, plan_tests, call_tests, refusal}
use Rattle.chain.specs.Grade.{every, unbeaten}
use Rattle.chain.specs.Marked.{same_list, same_pair, figures_are, walks_are, three_are, three_walk, row_at, is_failing, is_fitting, holds, every_holds, marked, worked, halved_jobs, started_jobs, fitted_trials, held_jobs}

pub marked_jobs : T (every_holds (marked ++ worked ++ halved_jobs ++ started_jobs ++ fitted_trials ++ held_jobs))
unfolding le greater lesser least_to rounded_up max_tasks max_weight max_startup max_processors max_speed max_bound_load max_bound_speed sum greatest_of least_of tabulate sum_to all greatest_from smallest_from smallest_least digits_within digits levels power_of_two each_of speed_of hold_of held enough startup_of part_of part_weight load_of part_load slowest_of part_bound keeps within offer all_kept bound_at bottleneck_to bottleneck ideal widest reach separator walk walked fits bid next_bid visited probe miss nearest heuristic uneven split splits_by halving start_of candidate crossing_of lesser_at table_value crossing moves_to moves bidding first_ends next_ends ends meet fits_at first_fit start_on candidate_on least_candidate empty_fits next_range range_after single settled spread onward those partitions least_bound least_bottleneck plan_of difference bidding_allowance allowance bidding_failures bisection_rounds nicol_trials nicol_stop count_by found_by imbalance each_between method_test startup_test speeds_test weights_test processors_test tasks_test all_equal row_test length_test holds_test enough_test free_test bound_test is_partition partition_test separators_of plan_length_test joined joined_test true_at true_test first_refusal job_tests plan_tests call_tests refusal every unbeaten same_list same_pair figures_are walks_are three_are three_walk row_at is_failing is_fitting holds every_holds marked worked halved_jobs started_jobs fitted_trials held_jobs
marked_jobs = tt
