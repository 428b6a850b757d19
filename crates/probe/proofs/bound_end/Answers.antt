-- `bound_end` meets its contract: the limit has no room for a task, all that remains is within it, or the search finds the end.
use Prim.Native.Nat.{ℕ, ◌-◌}
use mathlib.Core.Path.{refl, ap}
use native.Mathlib.Omega.{arith}
use lib.ListN.{length}
use Rattle.parts.proofs.Laws.{prefix_rising, between_before}
use Rattle.probe.proofs.Reach.{ready, limit_fits, end_none, end_all, cap_fits, end_last}
use Rattle.probe.proofs.bound_end.Goals as goal

pub most_load-limit-requires : goal.most_load-limit-requires
most_load-limit-requires c =
    (limit_fits c.args.line.job.valid c.requires.lendable c.args.p c.requires.place.0, c.requires.lendable.speed_positive)

pub returns-then-limit-least : goal.returns-then-limit-least
returns-then-limit-least c =
    end_none (ready c.args.line) c.requires.lendable c.args.p c.args.a c.requires.place.0 c.requires.place.1 c.most_load-limit.ensures
    (omega (arith, c.from-least.ensures))

pub part_weight-requires-clause-rising : goal.part_weight-requires-clause-rising
part_weight-requires-clause-rising c = prefix_rising c.args.line.prefix

pub returns-then-from-room : goal.returns-then-from-room
returns-then-from-room c =
    end_all (ready c.args.line) c.requires.lendable c.args.p c.args.a c.requires.place.0 c.requires.place.1
    c.most_load-limit.ensures
    (omega (arith, c.from-least.ensures)) (ap (λ (n : ℕ). c.most_load-limit.result - n) c.from-least.ensures)
    (omega (arith, c.from.ensures, c.part_weight.ensures))

pub overflow_add-line : goal.overflow_add-line
overflow_add-line c =
    record {
      fits = cap_fits (ready c.args.line) c.requires.lendable c.args.p c.args.a c.requires.place.0 c.requires.place.1
          c.most_load-limit.ensures
          (omega (arith, c.from-least.ensures)) (ap (λ (n : ℕ). c.most_load-limit.result - n) c.from-least.ensures)
          (omega (arith, c.from.ensures, c.part_weight.ensures));
    }

pub last_from-requires-clause-rising : goal.last_from-requires-clause-rising
last_from-requires-clause-rising c = prefix_rising c.args.line.prefix

pub last_from-requires-clause-a_lt_n : goal.last_from-requires-clause-a_lt_n
last_from-requires-clause-a_lt_n c =
    let l = between_before c.args.line.sums.now c.args.a (length c.args.line.job.weights.now) c.requires.place.1 (omega (arith, c.from.ensures, c.part_weight.ensures)) in
    (l, omega arith)

pub returns : goal.returns
returns c =
    end_last (ready c.args.line) c.requires.lendable c.args.p c.args.a c.requires.place.0 c.requires.place.1
    c.most_load-limit.ensures
    (omega (arith, c.from-least.ensures))
    (ap (λ (n : ℕ). c.most_load-limit.result - n) c.from-least.ensures) refl c.last_from.ensures
