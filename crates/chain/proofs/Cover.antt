-- What the first processors can take within a bound: the notion that walk, partitions and table are all held against.
-- Assumes nothing.
use Prim.Native.Nat.{ℕ, zero, suc, ◌≤◌}
use mathlib.Core.Path.{◌≡◌}
use lib.Dec.{T}
use Rattle.bound.specs.declared.Bound.{Bound}
use Rattle.chain.specs.Job.{Job, within}

-- The first i tasks can go to the processors below p, in order, with every part within the bound.
abbrev pub Cover : Job → Bound → ℕ → ℕ → Type 0
Cover job B zero i = i ≡ 0
Cover job B (suc p) i = (j : ℕ) × (j ≤ i) × Cover job B p j × T (within job p j i B)
