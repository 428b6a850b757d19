-- The least of a range of bounds, the first among equals.
-- Assumes nothing.
use Prim.Native.Nat.{ℕ, zero, suc, ◌+◌, ◌-◌, ◌≤◌, ◌<◌}
use mathlib.Core.Path.{◌≡◌, refl, sym, ap, subst, ◌∙◌}
use mathlib.Core.Bool.{Bool, true, false}
use mathlib.Core.Logic.{◌⊎◌, inl, inr}
use native.Mathlib.Omega.{arith}
use Rattle.bound.specs.declared.Bound.{Bound}
use Rattle.bound.specs.Order.{infinite, le, ◌≺◌, lesser, least_below, Real}
use Rattle.bound.proofs.Order.{le_trans, lt-le, lt-le_trans, true_le, false_lt, le_true, le_false, le_speedless, speed_real, infinite_real, lesser_first, lesser_second, least_cases, least_le, least_same, least_next}
use Rattle.bidding.specs.Blocks.{least_from}

-- `lesser` takes the first of the least, however it is bracketed.
lesser_assoc : {B C D : Bound} → Real B → Real C → Real D → lesser B (lesser C D) ≡ lesser (lesser B C) D
lesser_assoc {B} {C} {D} b c d = go (le B C) (le C D) refl refl
  where
    go : (s t : Bool) → le B C ≡ s → le C D ≡ t → lesser B (lesser C D) ≡ lesser (lesser B C) D
    go true true x y =
        ap (lesser B) (sym (lesser_first C D y)) ∙ sym (lesser_first B C x)
        ∙ lesser_first B D (le_true (le_trans c (true_le x) (true_le y)))
        ∙ ap (λ (E : Bound). lesser E D) (lesser_first B C x)
    go true false x y = ap (lesser B) (sym (lesser_second C D y)) ∙ ap (λ (E : Bound). lesser E D) (lesser_first B C x)
    go false true x y =
        ap (lesser B) (sym (lesser_first C D y)) ∙ sym (lesser_second B C x) ∙ lesser_first C D y
        ∙ ap (λ (E : Bound). lesser E D) (lesser_second B C x)
    go false false x y =
        ap (lesser B) (sym (lesser_second C D y))
        ∙ sym (lesser_second B D (le_false (lt-le_trans b (false_lt y) (lt-le (false_lt x)))))
        ∙ lesser_second C D y ∙ ap (λ (E : Bound). lesser E D) (lesser_second B C x)

-- Bounds that have a speed or are the infinite one.
module _ (f : ℕ → Bound) (h : (p : ℕ) → (1 ≤ (f p).speed) ⊎ (f p ≡ infinite)) where
  real : (p : ℕ) → Real (f p)
  real p = elim (h p) [ inl s ↦ speed_real s | inr e ↦ subst Real (sym e) infinite_real ]

  below_real : (n : ℕ) → Real (least_below f n)
  unfolding least_below
  below_real zero = infinite_real
  below_real (suc n) = least_cases Real f n (λ p l. real p)

-- One more.
module _ (f : ℕ → Bound) (h : (p : ℕ) → (1 ≤ (f p).speed) ⊎ (f p ≡ infinite)) (a : ℕ) where
  one_more : (n : ℕ) → lesser (least_from f a n) (f (a + n)) ≡ least_from f a (suc n)
  unfolding least_below
  one_more n = least_next (λ i. f (a + i)) n (h (a + n))

  pub range_next : {p q : ℕ} → a ≤ p → q ≡ suc p → lesser (least_from f a (p - a)) (f p) ≡ least_from f a (q - a)
  range_next {p} {q} l e =
      ap (λ (i : ℕ). lesser (least_from f a (p - a)) (f i)) (let x : p ≡ a + (p - a) = omega arith in x)
      ∙ one_more (p - a) ∙ ap (least_from f a) (let x : suc (p - a) ≡ q - a = omega arith in x)

  -- The least before a and that of a range from a on make the least before its end.
  joins : (n : ℕ) → lesser (least_below f a) (least_from f a n) ≡ least_below f (a + n)
  unfolding least_below
  joins zero =
      sym (lesser_first (least_below f a) infinite (le_true (le_speedless (least_below f a) refl)))
      ∙ ap (least_below f) (let x : a ≡ a + 0 = omega arith in x)
  joins (suc n) =
      ap (lesser (least_below f a)) (sym (one_more n))
      ∙ lesser_assoc (below_real f h a) (below_real (λ i. f (a + i)) (λ i. h (a + i)) n) (real f h (a + n))
      ∙ ap (λ (E : Bound). lesser E (f (a + n))) (joins n)
      ∙ least_next f (a + n) (h (a + n))
      ∙ ap (least_below f) (let x : suc (a + n) ≡ a + suc n = omega arith in x)

  pub range_joins : {e : ℕ} → a ≤ e → lesser (least_below f a) (least_from f a (e - a)) ≡ least_below f e
  range_joins {e} l = joins (e - a) ∙ ap (least_below f) (let x : a + (e - a) ≡ e = omega arith in x)

  -- What is below the least is below each.
  above : {C : Bound} (n i : ℕ) → i < n → C ≺ least_from f a n → C ≺ f (a + i)
  unfolding least_below
  above zero i l x = absurd (let z : ⊥ = omega arith in z)
  above (suc n) i l x = lt-le_trans (real f h (a + i)) x (least_le (λ j. f (a + j)) (λ j. real f h (a + j)) n i (omega arith))

  pub range_above : {C : Bound} {e p : ℕ} → a ≤ p → p < e → C ≺ least_from f a (e - a) → C ≺ f p
  range_above {C} {e} {p} l m x =
      subst (λ (i : ℕ). C ≺ f i) (let y : a + (p - a) ≡ p = omega arith in y) (above (e - a) (p - a) (omega arith) x)

-- The least of equal ones is the same.
same : {f g : ℕ → Bound} (n : ℕ) → ((i : ℕ) → i < n → f i ≡ g i) → least_below f n ≡ least_below g n
unfolding least_below
same zero h = refl
same (suc n) h = least_same n (λ i l. h i (omega arith))

pub range_same : {f g : ℕ → Bound} {a e : ℕ} → ((p : ℕ) → a ≤ p → p < e → f p ≡ g p) → least_from f a (e - a) ≡ least_from g a (e - a)
range_same {f} {g} {a} {e} h = same (e - a) (λ i l. h (a + i) (omega arith) (omega arith))
