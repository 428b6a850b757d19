use Prim.Native.Nat.{ℕ, ◌<◌}
use mathlib.Core.Path.{◌≡◌}
use lib.ListN.{get_or}
use Rattle.parts.specs.Lent.{the}
use Rattle.refusals.proofs.Division.{Good}
use Rattle.refusals.proofs.is_partition.Given as goal

abbrev pub invariant-loop-p : goal.invariant-loop-p
invariant-loop-p l = (get_or l.separators 0 0 ≡ 0) × ((k : ℕ) → k < l.p → Good (the l.job) l.separators k)
