-- `nicol_in` meets its contract: the loop keeps `Searching`.
use Prim.Native.Nat.{ℕ, suc, ◌-◌}
use mathlib.Core.Path.{◌≡◌, ap, ◌∙◌}
use native.Mathlib.Omega.{arith}
use lib.ListN.{length}
use Rattle.chain.specs.Job.{Job, processors, part_bound}
use Rattle.chain.proofs.Ranges.{small_narrow, narrow_products}
use Rattle.parts.specs.Lent.{the}
use Rattle.parts.proofs.Front.{kept_start, kept_trans}
use Rattle.nicol.proofs.Laws.{searching_start, searching_inside, searching_early, searching_next, searching_end, end_after, end_inside, count_fits}
use Rattle.nicol.proofs.nicol_in.Goals as goal

pub loop-p-init : goal.loop-p-init
loop-p-init c =
    let job : Job = the c.args.line.job in
    record { searching = searching_start job; kept = kept_start (suc (processors job)) c.args.separators.now }

pub overflow_add-count : goal.overflow_add-count
overflow_add-count c =
    let f = c.first_fit-end in
    let w = c.loop-p.invariant.searching in
    omega (arith, count_fits c.args.line.job.valid c.requires.free w c.loop-p-test.true f.ensures.index f.result.trials f.ensures.trials)

pub returns-then-end-a : goal.returns-then-end-a
returns-then-end-a c =
    let f = c.first_fit-end in
    let w = c.loop-p.invariant.searching in
    let e = searching_early c.args.line.job.valid c.requires.free w c.loop-p-test.true f.ensures.index f.result.trials f.ensures.trials (omega arith) in
    record { nicol_ends = e.0; lendable = e.1; kept_from = kept_trans c.loop-p.invariant.kept f.ensures.kept_from }

pub bound_to-requires : goal.bound_to-requires
bound_to-requires c =
    let v = c.args.line.job.valid in
    let w = c.loop-p.invariant.searching in
    let e = c.first_fit-end.ensures.index in
    (omega arith, end_after v c.requires.free w c.loop-p-test.true e, end_inside v c.requires.free w c.loop-p-test.true e)

pub lesser-least-requires : goal.lesser-least-requires
lesser-least-requires c =
    search (narrow_products, c.loop-p.invariant.searching.small, small_narrow c.bound_to.ensures.small)

pub overflow_sub-a : goal.overflow_sub-a
overflow_sub-a c =
    let w = c.loop-p.invariant.searching in
    omega (arith, c.if-end-a.false, end_after c.args.line.job.valid c.requires.free w c.loop-p-test.true c.first_fit-end.ensures.index)

pub loop-p-preserved : goal.loop-p-preserved
loop-p-preserved c =
    let f = c.first_fit-end in
    record {
      searching =
          searching_next c.args.line.job.valid c.requires.free c.loop-p.invariant.searching c.loop-p-test.true f.ensures.index f.result.trials f.ensures.trials
          c.if-end-a.false c.bound_to.ensures.value c.lesser-least.ensures (omega arith) (omega arith) (omega arith);
      kept = kept_trans c.loop-p.invariant.kept f.ensures.kept_from;
    }

pub bound_to-rest-requires : goal.bound_to-rest-requires
bound_to-rest-requires c =
    let v = c.args.line.job.valid in
    (omega (arith, v.some_processor), searching_inside v c.requires.free c.loop-p.invariant.searching, omega arith)

pub lesser-requires : goal.lesser-requires
lesser-requires c =
    search (narrow_products, c.loop-p.invariant.searching.small, small_narrow c.bound_to-rest.ensures.small)

pub returns : goal.returns
returns c =
    let job : Job = the c.args.line.job in
    let n : ℕ = length c.args.line.job.weights.now in
    let last : length c.args.line.job.speeds.now - 1 ≡ c.loop-p.p = omega arith in
    let rest : c.bound_to-rest.result ≡ part_bound job c.loop-p.p c.loop-p.a n =
    c.bound_to-rest.ensures.value ∙ ap (λ (p : ℕ). part_bound job p c.loop-p.a n) last in
    let e = searching_end c.args.line.job.valid c.requires.free c.loop-p.invariant.searching (omega arith) rest c.lesser.ensures in
    record { nicol_ends = e.0; lendable = e.1; kept_from = c.loop-p.invariant.kept }
