-- Tests taken one by one, as code takes them.
-- Assumes nothing.
use Prim.Native.Nat.{ℕ}
use mathlib.Core.Path.{◌≡◌, refl, ap}
use mathlib.Core.Bool.{Bool, true, false, cond}
use mathlib.Core.List.{List, [], ◌∷◌}
use Rattle.chain.specs.Refusal.{Test, test, first_refusal}

-- A test that fails gives its number.
pub fails : (k : ℕ) (ts : List Test) {b : Bool} → b ≡ false → first_refusal (test k b ∷ ts) ≡ k
unfolding first_refusal
fails k ts e = ap (λ (b : Bool). cond b (first_refusal ts) k) e

-- After one that passes, the others decide.
pub passes : (k : ℕ) (ts : List Test) {b : Bool} → b ≡ true → first_refusal (test k b ∷ ts) ≡ first_refusal ts
unfolding first_refusal
passes k ts e = ap (λ (b : Bool). cond b (first_refusal ts) k) e

pub passed-all : first_refusal [] ≡ 0
unfolding first_refusal
passed-all = refl
