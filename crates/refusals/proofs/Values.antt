-- What an answer that has a value says of the number of the refusal.
-- Assumes nothing.
use Prim.Native.Nat.{ℕ}
use mathlib.Core.Path.{◌≡◌, refl}
use mathlib.Core.Bool.{Bool, true, false, cond}
use lib.Dec.{eqb}
use borrow.Author.Tests.{eqb-true}
use Rattle.std.specs.Prelude.{Ok, Err}
use Rattle.chain.specs.Numbers.{refusal_of, answered}

-- It is 0, and the value is the answer's.
pub answered_value : {A : Type 0} (n : ℕ) (x : A) {y : A} → answered n x ≡ Ok y → (n ≡ 0) × (y ≡ x)
unfolding answered
answered_value n x {y} e = go (eqb n 0) refl e
  where
    go : (b : Bool) → eqb n 0 ≡ b → cond b (Ok x) (Err (refusal_of n)) ≡ Ok y → (n ≡ 0) × (y ≡ x)
    go true f h = (eqb-true n 0 f, cc)
    go false f h = cc
