use mathlib.Core.Path.{◌≡◌}
use mathlib.Core.Bool.{◌&&◌}
use lib.ListN.{drop}
use Rattle.chain.specs.Refusal.{each_between}
use Rattle.refusals.proofs.each_between.Given as goal

abbrev pub invariant-loop-value : goal.invariant-loop-value
invariant-loop-value l = each_between l.lo l.hi l.values ≡ (l.all && each_between l.lo l.hi (drop l.value-index l.values))
