-- `heuristic_in` meets its contract: the loop keeps `Placed`.
use native.Mathlib.Omega.{arith}
use lib.ListN.{length}
use Rattle.chain.proofs.Ranges.{index_fits}
use Rattle.parts.proofs.Laws.{speeds_add_up, prefix_rising}
use Rattle.parts.proofs.Lines.{line_ready}
use Rattle.heuristic.proofs.Laws.{total_positive, cap_fits, start_below, first_past_of, speed_fits, placed_start, placed_fits, placed_target, placed_behind, placed_products, placed_past, placed_found, placed_narrow, placed_turn, placed_end}
use Rattle.heuristic.proofs.heuristic_in.Goals as goal

pub total-all_speed-requires : goal.total-all_speed-requires
total-all_speed-requires c = speeds_add_up c.args.line.job.valid

pub loop-p-init : goal.loop-p-init
loop-p-init c =
    placed_start c.args.separators.now c.args.line.prefix c.requires.room c.total-all_speed.ensures c.from-weight.ensures

pub overflow_add-speed : goal.overflow_add-speed
overflow_add-speed c =
    record { fits = speed_fits c.args.line.job.valid c.loop-p.invariant.speeds (omega arith) c.from-speed.ensures }

pub overflow_mul-target : goal.overflow_mul-target
overflow_mul-target c =
    record { fits = placed_fits c.args.line.job.valid c.loop-p.invariant c.loop-p-test.true c.from-speed.ensures }

pub first_past-past-requires : goal.first_past-past-requires
first_past-past-requires c =
    let r = line_ready c.args.line in
    let t = placed_target r.valid c.loop-p.invariant c.loop-p-test.true c.from-speed.ensures in
    let b = placed_behind r.valid c.loop-p.invariant c.loop-p-test.true c.from-speed.ensures in
    record {
      rising = prefix_rising c.args.line.prefix;
      quotient = (total_positive r t, cap_fits r t);
      start = (b.from, b.to, start_below r t b);
    }

pub nearest_in-s-requires : goal.nearest_in-s-requires
nearest_in-s-requires c =
    let r = line_ready c.args.line in
    let w = c.loop-p.invariant in
    let h = c.loop-p-test.true in
    let x = c.from-speed.ensures in
    let t = placed_target r.valid w h x in
    let f = first_past_of r t (placed_behind r.valid w h x) c.first_past-past.ensures in
    record {
      rising = prefix_rising c.args.line.prefix;
      products = (total_positive r t, placed_products r.valid w h x r);
      past_from = placed_past r.valid w h x r f;
    }

pub overflow_cast-separators : goal.overflow_cast-separators
overflow_cast-separators c =
    let r = line_ready c.args.line in
    let w = c.loop-p.invariant in
    let h = c.loop-p-test.true in
    let x = c.from-speed.ensures in
    let f = first_past_of r (placed_target r.valid w h x) (placed_behind r.valid w h x) c.first_past-past.ensures in
    record { fits = placed_narrow r.valid w h x f (placed_found r.valid w h x r c.nearest_in-s.ensures) }

pub loop-p-preserved : goal.loop-p-preserved
loop-p-preserved c =
    let r = line_ready c.args.line in
    let w = c.loop-p.invariant in
    let h = c.loop-p-test.true in
    let x = c.from-speed.ensures in
    let f = first_past_of r (placed_target r.valid w h x) (placed_behind r.valid w h x) c.first_past-past.ensures in
    placed_turn r.valid w h x f (placed_found r.valid w h x r c.nearest_in-s.ensures)

pub overflow_cast-separators-2 : goal.overflow_cast-separators-2
overflow_cast-separators-2 c =
    let n = index_fits {i = length c.args.line.job.weights.now} c.args.line.job.valid (omega arith) in
    record { fits = omega (arith, c.loop-p.invariant.narrow) }

pub returns : goal.returns
returns c =
    placed_end c.args.separators.now c.args.line.job.valid c.requires.room c.loop-p.invariant c.loop-p-test.false
