-- `first_high` meets its contract.
use Prim.Native.Nat.{ℕ, suc}
use mathlib.Core.Path.{sym, ◌∙◌}
use mathlib.Core.List.{List}
use lib.ListN.{drop}
use Rattle.chain.specs.Job.{Job, processors}
use Rattle.chain.specs.Heuristic.{heuristic}
use Rattle.chain.proofs.Parts.{valid_proper}
use Rattle.chain.proofs.Within.{free_of}
use Rattle.chain.proofs.Tests.{T-not-of}
use Rattle.chain.proofs.Heuristic.{heuristic_count, heuristic_partition}
use Rattle.parts.specs.Lent.{the}
use Rattle.parts.proofs.Front.{kept_start, kept_written, front_partition, front-bottleneck}
use Rattle.bisection.proofs.Laws.{high_held, high_free}
use Rattle.bisection.proofs.first_high.Goals as goal

pub returns-then-line-clause-value : goal.returns-then-line-clause-value
returns-then-line-clause-value c =
    let line = c.args.line in
    c.widest_of.ensures ∙ sym (high_held (the line.job) (sym line.held_is ∙ c.if-line.true))

pub measure_in-requires : goal.measure_in-requires
measure_in-requires c =
    let line = c.args.line in
    let job : Job = the line.job in
    let free = free_of (T-not-of (sym line.held_is ∙ c.if-line.false)) in
    let rest : List ℕ = drop (suc (processors job)) c.args.separators.now in
    record { partition = front_partition (heuristic job) rest (heuristic_partition (valid_proper line.job.valid) free) c.heuristic_in.ensures }

pub returns : goal.returns
returns c =
    let line = c.args.line in
    let job : Job = the line.job in
    let e = sym line.held_is ∙ c.if-line.false in
    let p = valid_proper line.job.valid in
    let rest : List ℕ = drop (suc (processors job)) c.args.separators.now in
    record {
      value =
          front-bottleneck (heuristic job) rest (heuristic_partition p (free_of (T-not-of e))) c.heuristic_in.ensures c.measure_in.ensures.of_front
          ∙ sym (high_free job e);
      kept_from =
          kept_written (heuristic job) _ (kept_start (suc (processors job)) c.args.separators.now) c.requires (heuristic_count p) c.heuristic_in.ensures;
    }
