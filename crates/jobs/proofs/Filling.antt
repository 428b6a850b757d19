-- A list that is filled by index, entry by entry.
-- Assumes nothing.
use Prim.Native.Nat.{ℕ, zero, suc, ◌≤◌, ◌<◌}
use mathlib.Core.Path.{◌≡◌, refl, sym, ap, ◌∙◌}
use mathlib.Core.List.{List, [], ◌∷◌, ◌++◌}
use mathlib.Core.Logic.{◌≢◌}
use native.Mathlib.Omega.{arith}
use lib.ListN.{length, take, drop, set}
use lib.Seq.{length-take-le, ext_get_or}
use Rattle.std.specs.Prelude.{Some}
use Rattle.std.specs.List.{slice_get}
use Rattle.std.proofs.lemmas.Option.{get_or_from_slice_get}
use Rattle.chain.specs.Lists.{tabulate}
use Rattle.chain.proofs.Indices.{length-tabulate, at_table}

pub tabulate_snoc : (f : ℕ → ℕ) (n : ℕ) → tabulate f (suc n) ≡ tabulate f n ++ f n ∷ []
unfolding tabulate
tabulate_snoc f zero = refl
tabulate_snoc f (suc n) = ap (λ (l : List ℕ). f 0 ∷ l) (tabulate_snoc (λ i. f (suc i)) n)

-- After a store the entry is there, and the others stay.
pub slice_get-set_same : {X : Type 0} (l : List X) (i : ℕ) (a : X) → i < length l → slice_get (set l i a) i ≡ Some a
slice_get-set_same [] i a h = absurd (let z : ⊥ = omega arith in z)
slice_get-set_same (x ∷ l) zero a h = refl
slice_get-set_same (x ∷ l) (suc i) a h = slice_get-set_same l i a (omega arith)

pub slice_get-set_other : {X : Type 0} (l : List X) (i k : ℕ) (a : X) → k ≢ i → slice_get (set l i a) k ≡ slice_get l k
slice_get-set_other [] i k a h = refl
slice_get-set_other (x ∷ l) zero zero a h = absurd (h refl)
slice_get-set_other (x ∷ l) zero (suc k) a h = refl
slice_get-set_other (x ∷ l) (suc i) zero a h = refl
slice_get-set_other (x ∷ l) (suc i) (suc k) a h = slice_get-set_other l i k a (λ e. h (ap suc e))

-- An index of the first p entries is below p.
module _ (l : List ℕ) {p i : ℕ} (h : p ≤ length l) where
  pub front_below : i < length (take p l) → i < p
  front_below k = omega (arith, length-take-le p l h)

  pub below_front : i < p → i < length (take p l)
  below_front k = omega (arith, length-take-le p l h)

-- The first p entries hold what f gives.
pub front_filled : (f : ℕ → ℕ) (old front : List ℕ) (p : ℕ) → p ≤ length old → length front ≡ length (take p old)
    → ((i : ℕ) → i < p → slice_get front i ≡ Some (f i)) → front ++ drop p old ≡ tabulate f p ++ drop p old
front_filled f old front p h e each =
    ap (λ (l : List ℕ). l ++ drop p old)
    (ext_get_or 0 front (tabulate f p) (long ∙ sym (length-tabulate f p))
    (λ i k. let b : i < p = omega (arith, long) in get_or_from_slice_get front i (f i) 0 (each i b) ∙ sym (at_table f p i b)))
  where
    long : length front ≡ p
    long = e ∙ length-take-le p old h
