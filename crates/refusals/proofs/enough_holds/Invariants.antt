use Prim.Native.Nat.{ℕ, ◌*◌, ◌≤◌, ◌<◌}
use mathlib.Core.Path.{◌≡◌}
use Rattle.chain.specs.Lists.{sum_to}
use Rattle.chain.specs.Job.{hold_of}
use Rattle.parts.specs.Lent.{the}
use Rattle.refusals.proofs.enough_holds.Given as goal

abbrev pub invariant-loop-hold : goal.invariant-loop-hold
invariant-loop-hold l =
    (l.sum ≤ 65535 * l.hold-index) × (l.sum ≡ sum_to (hold_of (the l.job)) l.hold-index) × ((k : ℕ) → k < l.hold-index → 0 < hold_of (the l.job) k)
