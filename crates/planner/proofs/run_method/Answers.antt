-- `run_method` meets its contract, method by method.
use Prim.Native.Nat.{suc}
use mathlib.Core.Bool.{not}
use mathlib.Core.Path.{◌≡◌, sym, ap, subst}
use mathlib.Core.List.{◌++◌}
use lib.Dec.{T}
use lib.ListN.{length, drop}
use Rattle.chain.specs.Job.{Job, processors, held}
use Rattle.chain.specs.Probe.{walk}
use Rattle.chain.specs.Plan.{BiddingEnds, BisectionEnds, NicolEnds}
use Rattle.chain.proofs.Ranges.{small_lendable}
use Rattle.parts.specs.Lent.{the}
use Rattle.parts.proofs.Front.{kept_start, kept_written}
use Rattle.probe.proofs.Answer.{walk_count}
use Rattle.dynamic.proofs.Laws.{tabled_small}
use Rattle.planner.proofs.Laws.{ends_bisection, ends_nicol, ended_lendable, taken_free}
use Rattle.planner.proofs.run_method.Goals as goal

pub nicol_in-requires-clause-free : goal.nicol_in-requires-clause-free
nicol_in-requires-clause-free c =
    subst (λ (g : Job). T (not (held g))) (sym (ap the c.new-in-Nicol.ensures.0))
    (taken_free c.in-Nicol.is c.requires.tested)

pub returns-in-Table-clause-lendable : goal.returns-in-Table-clause-lendable
returns-in-Table-clause-lendable c =
    rw c.open.ensures.0 (small_lendable (tabled_small c.table_in.ensures c.args.job.valid
    c.requires.tested.enough-holds))

pub returns-in-Bidding-clause-lendable : goal.returns-in-Bidding-clause-lendable
returns-in-Bidding-clause-lendable c =
    let found = c.bidding_in.result in
    let ends = subst (λ (g : Job). BiddingEnds g found.count found.bound) (ap the c.new.ensures.0)
    c.bidding_in.ensures.bidding_ends in
    rw c.open-in-Bidding.ensures.0 (ended_lendable c.args.job.valid c.requires.tested.enough-holds ends)

pub returns-in-Bidding-clause-separators_kept : goal.returns-in-Bidding-clause-separators_kept
returns-in-Bidding-clause-separators_kept c =
    let bound = c.bidding_in.result.bound in
    let start = kept_start (suc (length c.args.job.speeds.now)) c.args.separators.now in
    let count = walk_count c.args.job.valid bound in
    let written =
    subst (λ (g : Job). c.bidding_in.new.separators ≡ walk g bound ++ drop (suc (processors g)) c.args.separators.now)
    (ap the c.new.ensures.0) c.bidding_in.ensures.separators in
    kept_written (walk (the c.args.job) bound) _ start c.requires.separators_room count written

pub returns-in-Bisection-clause-method_ends : goal.returns-in-Bisection-clause-method_ends
returns-in-Bisection-clause-method_ends c =
    let ended = c.bisection_ended.result in
    ends_bisection c.in-Bisection.is
    (subst (λ (g : Job). BisectionEnds g ended.count ended.bound) (ap the c.new-in-Bisection.ensures.0)
    c.bisection_ended.ensures.bisection_ends)

pub returns-in-Nicol-clause-method_ends : goal.returns-in-Nicol-clause-method_ends
returns-in-Nicol-clause-method_ends c =
    let found = c.nicol_in.result in
    rw (c.open-in-Nicol.ensures.0, c.open-in-Nicol.ensures.1)
    (ends_nicol c.in-Nicol.is (subst (λ (g : Job). NicolEnds g found.count found.bound)
    (ap the c.new-in-Nicol.ensures.0) c.nicol_in.ensures.nicol_ends))
