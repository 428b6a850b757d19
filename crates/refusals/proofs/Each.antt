-- Testing a list from the front: whether all before were in range, and what is left.
-- Assumes nothing.
use Prim.Native.Nat.{ℕ, zero, suc, ◌+◌, ◌≤◌, ◌<◌}
use mathlib.Core.Path.{◌≡◌, refl, sym, ap, ap₂, ◌∙◌}
use mathlib.Core.Bool.{Bool, true, false, ◌&&◌}
use mathlib.Core.List.{List, [], ◌∷◌}
use native.Mathlib.Omega.{arith}
use native.Mathlib.Numerals.{add-one}
use lib.Dec.{leb}
use lib.ListN.{length, get_or, drop}
use lib.Seq.{drop-cons}
use borrow.Author.Tests.{le-leb, lt-leb}
use Rattle.chain.specs.Refusal.{between, each_between}

pub between_low : (lo hi x : ℕ) → x < lo → between lo hi x ≡ false
between_low lo hi x h = rw (lt-leb lo x h)

pub between_high : (lo hi x : ℕ) → hi < x → between lo hi x ≡ false
between_high lo hi x h = rw (lt-leb x hi h) (and_false (leb lo x))
  where
    and_false : (b : Bool) → (b && false) ≡ false
    and_false true = refl
    and_false false = refl

pub between_in : (lo hi x : ℕ) → lo ≤ x → x ≤ hi → between lo hi x ≡ true
between_in lo hi x h k = rw (le-leb lo x h, le-leb x hi k)

-- Bool laws.
and_true : (b : Bool) → (b && true) ≡ b
and_true true = refl
and_true false = refl

and_assoc : (a b c : Bool) → (a && (b && c)) ≡ ((a && b) && c)
and_assoc true b c = refl
and_assoc false b c = refl

-- The entries before i and those from i on together are all.
pub each_next : (lo hi : ℕ) (xs : List ℕ) (i : ℕ) → i < length xs → (a : Bool) {whole b : Bool} → whole ≡ (a && each_between lo hi (drop i xs)) → b ≡ (a && between lo hi (get_or xs i 0))
    → whole ≡ (b && each_between lo hi (drop (i + 1) xs))
unfolding each_between
each_next lo hi xs i h a {whole} {b} e f =
    e ∙ ap (λ (l : List ℕ). a && each_between lo hi l) (drop-cons xs i 0 h)
    ∙ and_assoc a (between lo hi (get_or xs i 0)) (each_between lo hi (drop (suc i) xs))
    ∙ ap₂ (λ (c : Bool) (n : ℕ). c && each_between lo hi (drop n xs)) (sym f) (sym (add-one i))

each_none : (lo hi : ℕ) (xs : List ℕ) (i : ℕ) → length xs ≤ i → each_between lo hi (drop i xs) ≡ true
unfolding each_between
each_none lo hi [] zero h = refl
each_none lo hi [] (suc i) h = refl
each_none lo hi (x ∷ xs) zero h = absurd (let z : ⊥ = omega arith in z)
each_none lo hi (x ∷ xs) (suc i) h = each_none lo hi xs i (omega arith)

pub each_end : (lo hi : ℕ) (xs : List ℕ) (i : ℕ) → length xs ≤ i → (a : Bool) {whole : Bool} → whole ≡ (a && each_between lo hi (drop i xs)) → a ≡ whole
each_end lo hi xs i h a {whole} e = sym (e ∙ ap (λ (b : Bool). a && b) (each_none lo hi xs i h) ∙ and_true a)
