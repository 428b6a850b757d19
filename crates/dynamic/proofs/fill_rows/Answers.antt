-- `fill_rows` meets its contract: the loop keeps `Tabling`.
use mathlib.Core.Path.{◌≡◌, ap, subst}
use native.Mathlib.Omega.{arith}
use lib.ListN.{length}
use Rattle.chain.specs.Dynamic.{moves}
use Rattle.parts.specs.declared.job.ValidJob.{ValidJob}
use Rattle.parts.specs.Lent.{the}
use Rattle.dynamic.proofs.Crossing.{next_speed}
use Rattle.dynamic.proofs.Laws.{tabling_start, tabling_fits, tabling_turn, tabling_moves}
use Rattle.dynamic.proofs.fill_rows.Goals as goal

pub loop-p-init : goal.loop-p-init
loop-p-init c =
    tabling_start c.first_row.ensures
    (omega (arith, c.split_at_mut-before.ensures.back_len, ap (λ (job : ValidJob). length job.weights.now) c.new-line.ensures.0, c.requires.room))

pub invariant_of-next : goal.invariant_of-next
invariant_of-next c =
    record {
      row_before = c.loop-p.invariant.current;
      behind = omega arith;
      speed_is = next_speed (the c.new-line.result.job) c.loop-p.p (omega arith);
    }

pub fill_row-moves-requires-clause-moves_fit : goal.fill_row-moves-requires-clause-moves_fit
fill_row-moves-requires-clause-moves_fit c = tabling_fits c.new-line.result.job.valid c.loop-p.invariant (omega arith)

pub loop-p-preserved : goal.loop-p-preserved
loop-p-preserved c = tabling_turn c.loop-p.invariant c.fill_row-moves.ensures

pub returns-clause-count : goal.returns-clause-count
returns-clause-count c =
    subst (λ (job : ValidJob). c.loop-p.moves ≡ moves (the job)) c.new-line.ensures.0 (tabling_moves c.loop-p.invariant (omega arith))
