-- `last_near` meets its contract: all entries that are near, or all that are left.
use native.Mathlib.Omega.{arith}
use Rattle.parts.proofs.Laws.{rising_to}
use Rattle.parts.proofs.Search.{near_last, all-last}
use Rattle.parts.proofs.last_near.Goals as goal

pub last_counted-requires : goal.last_counted-requires
last_counted-requires c =
    record { rising = rising_to (omega arith) c.requires.rising; low_bound = c.requires.spanned.below }

pub returns-then-n-low-ge-NEAR : goal.returns-then-n-low-ge-NEAR
returns-then-n-low-ge-NEAR c =
    near_last c.requires.spanned (omega arith) (omega arith) c.last_counted.ensures

pub last_counted-requires-2 : goal.last_counted-requires-2
last_counted-requires-2 c =
    record { rising = rising_to (omega arith) c.requires.rising; low_bound = c.requires.spanned.below }

pub returns : goal.returns
returns c =
    all-last c.requires.spanned.to c.last_counted-2.ensures
