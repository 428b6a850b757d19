-- Putting values into the first entries of a list, as many as it has.
-- Assumes nothing.
use Prim.Native.Nat.{ℕ, zero, suc, min}
use mathlib.Core.Path.{◌≡◌, refl, sym, ap, ◌∙◌}
use mathlib.Core.List.{List, [], ◌∷◌, ◌++◌}
use native.Mathlib.Omega.{arith}
use lib.ListN.{length, take, drop, set}
use Rattle.answers.specs.Answer.{values_put}

-- Behind the first entry, and into no entry.
put_behind : (i : ℕ) (vs : List ℕ) (x : ℕ) (xs : List ℕ) → values_put (suc i) vs (x ∷ xs) ≡ x ∷ values_put i vs xs
put_behind i [] x xs = refl
put_behind i (v ∷ vs) x xs = put_behind (suc i) vs x (set xs i v)

put_none : (i : ℕ) (vs : List ℕ) → values_put i vs [] ≡ []
put_none i [] = refl
put_none i (v ∷ vs) = put_none (suc i) vs

-- n of them, as many as there are of both.
pub put_front : (vs xs : List ℕ) (n : ℕ) → n ≡ min (length xs) (length vs) → take n vs ++ drop n xs ≡ values_put 0 vs xs
put_front [] xs zero e = refl
put_front [] xs (suc n) e = absurd (let z : ⊥ = omega arith in z)
put_front (v ∷ vs) [] zero e = sym (put_none 1 vs)
put_front (v ∷ vs) [] (suc n) e = absurd (let z : ⊥ = omega arith in z)
put_front (v ∷ vs) (x ∷ xs) zero e = absurd (let z : ⊥ = omega arith in z)
put_front (v ∷ vs) (x ∷ xs) (suc n) e = ap (λ (l : List ℕ). v ∷ l) (put_front vs xs n (omega arith)) ∙ sym (put_behind 0 vs v xs)
