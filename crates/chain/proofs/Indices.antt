-- Searches over indices find what their names say.
-- Assumes nothing.
use Prim.Native.Nat.{ℕ, zero, suc, ◌+◌, ◌≤◌, ◌<◌}
use mathlib.Core.Path.{◌≡◌, refl, sym, ap, ap₂, subst, ◌∙◌}
use mathlib.Core.Bool.{Bool, true, false, not, cond, ◌&&◌}
use mathlib.Core.List.{List, [], ◌∷◌, ◌++◌, append-nil}
use mathlib.Core.Logic.{◌⊎◌, inl, inr}
use native.Mathlib.Omega.{arith}
use native.Mathlib.Decide.{dec_le}
use lib.Dec.{T, leb, T_not}
use lib.ListN.{length, get_or}
use borrow.Author.Tests.{leb-true, leb-false}
use Rattle.chain.specs.Lists.{tabulate, all, is_first, greatest_from, smallest_from, smallest_least}
use Rattle.chain.proofs.Tests.{T_of, T-not-of, and_left, and_right, and_both}

-- The greatest index from a to a + d: in range; f holds there unless it is a; f fails past it.
pub record Greatest (f : ℕ → Bool) (a d r : ℕ) : Type 0 where
  pub from : a ≤ r
  pub to : r ≤ a + d
  pub found : (r ≡ a) ⊎ (f r ≡ true)
  pub past : (k : ℕ) → r < k → k ≤ a + d → f k ≡ false

pub greatest_is : (f : ℕ → Bool) (a d : ℕ) → Greatest f a d (greatest_from f a d)
unfolding greatest_from
greatest_is f a zero =
    record { from = omega arith; to = omega arith; found = inl refl; past = λ k h l. absurd (let z : ⊥ = omega arith in z) }
greatest_is f a (suc d) = go (f (a + suc d)) refl (greatest_is f a d)
  where
    go : (t : Bool) → f (a + suc d) ≡ t → Greatest f a d (greatest_from f a d)
        → Greatest f a (suc d) (elim t [ true ↦ a + suc d | false ↦ greatest_from f a d ])
    go true e g =
        record { from = omega arith; to = omega arith; found = inr e; past = λ k h l. absurd (let z : ⊥ = omega arith in z) }
    go false e g =
        record {
          from = g.from;
          to = omega (arith, g.to);
          found = g.found;
          past = λ k h l. elim (dec_le k (a + d)) [ yes m ↦ g.past k h m | no m ↦ subst (λ (n : ℕ). f n ≡ false) (let z : a + suc d ≡ k = omega arith in z) e ];
        }

-- The smallest index from a to a + d: in range; f holds there unless it is a + d; f fails before it.
pub record Smallest (f : ℕ → Bool) (a d r : ℕ) : Type 0 where
  pub from : a ≤ r
  pub to : r ≤ a + d
  pub found : (r ≡ a + d) ⊎ (f r ≡ true)
  pub before : (k : ℕ) → a ≤ k → k < r → f k ≡ false

pub smallest_is : (f : ℕ → Bool) (a d : ℕ) → Smallest f a d (smallest_from f a d)
unfolding smallest_from
smallest_is f a zero =
    record { from = omega arith; to = omega arith; found = inl (omega arith); before = λ k h l. absurd (let z : ⊥ = omega arith in z) }
smallest_is f a (suc d) = go (f a) refl (smallest_is f (suc a) d)
  where
    go : (t : Bool) → f a ≡ t → Smallest f (suc a) d (smallest_from f (suc a) d)
        → Smallest f a (suc d) (elim t [ true ↦ a | false ↦ smallest_from f (suc a) d ])
    go true e g =
        record { from = omega arith; to = omega arith; found = inr e; before = λ k h l. absurd (let z : ⊥ = omega arith in z) }
    go false e g =
        record {
          from = omega (arith, g.from);
          to = omega (arith, g.to);
          found = elim g.found [ inl x ↦ inl (omega arith) | inr x ↦ inr x ];
          before = λ k h l. elim (dec_le (suc a) k) [ yes m ↦ g.before k m l | no m ↦ subst (λ (n : ℕ). f n ≡ false) (let z : a ≡ k = omega arith in z) e ];
        }

-- The smallest index from 0 to n at which f is least.
pub record SmallestLeast (f : ℕ → ℕ) (n r : ℕ) : Type 0 where
  pub to : r ≤ n
  pub least : (k : ℕ) → k ≤ n → f r ≤ f k
  pub before : (k : ℕ) → k < r → f r < f k

pub smallest_least_is : (f : ℕ → ℕ) (n : ℕ) → SmallestLeast f n (smallest_least f n)
unfolding smallest_least
smallest_least_is f zero =
    record {
      to = omega arith;
      least = λ k h. subst (λ (i : ℕ). f 0 ≤ f i) (let z : 0 ≡ k = omega arith in z) (omega arith);
      before = λ k h. absurd (let z : ⊥ = omega arith in z);
    }
smallest_least_is f (suc n) = go (leb (f (smallest_least f n)) (f (suc n))) refl (smallest_least_is f n)
  where
    go : (t : Bool) → leb (f (smallest_least f n)) (f (suc n)) ≡ t → SmallestLeast f n (smallest_least f n)
        → SmallestLeast f (suc n) (cond t (smallest_least f n) (suc n))
    go true e g =
        record {
          to = omega (arith, g.to);
          least = λ k h. elim (dec_le k n) [ yes m ↦ g.least k m | no m ↦ subst (λ (i : ℕ). f (smallest_least f n) ≤ f i) (let z : suc n ≡ k = omega arith in z) (leb-true (f (smallest_least f n)) (f (suc n)) e) ];
          before = g.before;
        }
    go false e g =
        record {
          to = omega arith;
          least = λ k h. elim (dec_le k n) [ yes m ↦ omega (arith, leb-false (f (smallest_least f n)) (f (suc n)) e, g.least k m) | no m ↦ subst (λ (i : ℕ). f (suc n) ≤ f i) (let z : suc n ≡ k = omega arith in z) (omega arith) ];
          before = λ k h. omega (arith, leb-false (f (smallest_least f n)) (f (suc n)) e, g.least k (omega arith));
        }

-- A test of every index below n.
pub all-at : (f : ℕ → Bool) (n : ℕ) → T (all f n) → (k : ℕ) → k < n → T (f k)
unfolding all
all-at f zero t k h = absurd (let z : ⊥ = omega arith in z)
all-at f (suc n) t k h =
    elim (dec_le (suc k) n) [ yes m ↦ all-at f n (and_left (all f n) (f n) t) k m | no m ↦ subst (λ (i : ℕ). T (f i)) (let z : n ≡ k = omega arith in z) (and_right (all f n) (f n) t) ]

pub all_of : (f : ℕ → Bool) (n : ℕ) → ((k : ℕ) → k < n → T (f k)) → T (all f n)
unfolding all
all_of f zero h = tt
all_of f (suc n) h = and_both (all f n) (f n) (all_of f n (λ k l. h k (omega arith))) (h n (omega arith))

pub all_same : {f g : ℕ → Bool} (n : ℕ) → ((k : ℕ) → k < n → f k ≡ g k) → all f n ≡ all g n
unfolding all
all_same zero h = refl
all_same (suc n) h = ap₂ (λ (x y : Bool). x && y) (all_same n (λ k l. h k (omega arith))) (h n (omega arith))

-- The first index at which f holds.
pub first_holds : (f : ℕ → Bool) (k : ℕ) → T (is_first f k) → T (f k)
unfolding is_first
first_holds f k t = and_left (f k) (all (λ j. not (f j)) k) t

pub first_fails : (f : ℕ → Bool) (k : ℕ) → T (is_first f k) → (j : ℕ) → j < k → T (not (f j))
unfolding is_first
first_fails f k t j h = all-at (λ j. not (f j)) k (and_right (f k) (all (λ j. not (f j)) k) t) j h

pub first_of : (f : ℕ → Bool) (k : ℕ) → T (f k) → ((j : ℕ) → j < k → T (not (f j))) → T (is_first f k)
unfolding is_first
first_of f k t h = and_both (f k) (all (λ j. not (f j)) k) t (all_of (λ j. not (f j)) k h)

-- There is only one.
pub first_unique : (f : ℕ → Bool) (k l : ℕ) → T (is_first f k) → T (is_first f l) → k ≡ l
first_unique f k l t u = elim (dec_le (suc k) l) [ yes h ↦ absurd (T_not (f k) (first_fails f l u k h) (first_holds f k t)) | no h ↦ other h ]
  where
    other : (suc k ≤ l → ⊥) → k ≡ l
    other h =
        elim (dec_le (suc l) k) [ yes m ↦ absurd (T_not (f l) (first_fails f k t l m) (first_holds f l u)) | no m ↦ omega arith ]

-- What stands in a list that is tabulated, and behind it.
pub length-tabulate : (f : ℕ → ℕ) (n : ℕ) → length (tabulate f n) ≡ n
unfolding tabulate
length-tabulate f zero = refl
length-tabulate f (suc n) = ap suc (length-tabulate (λ i. f (suc i)) n)

pub at-tabulate : (f : ℕ → ℕ) (n : ℕ) (l : List ℕ) (i : ℕ) → i < n → get_or (tabulate f n ++ l) i 0 ≡ f i
unfolding tabulate
at-tabulate f zero l i h = absurd (let z : ⊥ = omega arith in z)
at-tabulate f (suc n) l zero h = refl
at-tabulate f (suc n) l (suc i) h = at-tabulate (λ j. f (suc j)) n l i (omega arith)

pub at_table : (f : ℕ → ℕ) (n i : ℕ) → i < n → get_or (tabulate f n) i 0 ≡ f i
at_table f n i h = ap (λ (l : List ℕ). get_or l i 0) (sym (append-nil (tabulate f n))) ∙ at-tabulate f n [] i h

-- A list is the table of its entries.
pub table_of : (l : List ℕ) {n : ℕ} → length l ≡ n → tabulate (λ i. get_or l i 0) n ≡ l
unfolding tabulate
table_of l e = ap (tabulate (λ i. get_or l i 0)) (sym e) ∙ go l
  where
    go : (l : List ℕ) → tabulate (λ i. get_or l i 0) (length l) ≡ l
    go [] = refl
    go (x ∷ l) = ap (λ (m : List ℕ). x ∷ m) (go l)

pub after_tabulate : (f : ℕ → ℕ) (n : ℕ) (l : List ℕ) (i : ℕ) → get_or (tabulate f n ++ l) (n + i) 0 ≡ get_or l i 0
unfolding tabulate
after_tabulate f zero l i = ap (λ (j : ℕ). get_or l j 0) (let e : 0 + i ≡ i = omega arith in e)
after_tabulate f (suc n) l i =
    ap (λ (j : ℕ). get_or (f 0 ∷ (tabulate (λ i. f (suc i)) n ++ l)) j 0) (let e : suc n + i ≡ suc (n + i) = omega arith in e)
    ∙ after_tabulate (λ j. f (suc j)) n l i

-- Where f cannot fail at every index up to d, there is a first index, up to d, at which it holds.
pub first_exists : (f : ℕ → Bool) (d : ℕ) → (((j : ℕ) → j ≤ d → T (not (f j))) → ⊥) → (k : ℕ) × (k ≤ d) × T (is_first f k)
first_exists f d h = go (smallest_from f 0 d) (smallest_is f 0 d)
  where
    go : (r : ℕ) → Smallest f 0 d r → (k : ℕ) × (k ≤ d) × T (is_first f k)
    go r s = cases (f r) refl
      where
        earlier : (j : ℕ) → j < r → T (not (f j))
        earlier j l = T-not-of (s.before j (omega arith) l)

        cases : (t : Bool) → f r ≡ t → (k : ℕ) × (k ≤ d) × T (is_first f k)
        cases true e = (r, omega (arith, s.to), first_of f r (T_of e) earlier)
        cases false e = absurd (h (λ j l. elim (dec_le (suc j) r) [ yes m ↦ earlier j m | no m ↦ late j l m ]))
          where
            late : (j : ℕ) → j ≤ d → (suc j ≤ r → ⊥) → T (not (f j))
            late j l m =
                elim s.found [
                  | inl x ↦ subst (λ (i : ℕ). T (not (f i))) (let z : r ≡ j = omega arith in z) (T-not-of e)
                  | inr x ↦ absurd (T_not (f r) (T-not-of e) (T_of x))
                ]

-- A search that goes as far as the first index finds it.
pub smallest_first : (f : ℕ → Bool) (d k : ℕ) → k ≤ d → T (is_first f k) → smallest_from f 0 d ≡ k
smallest_first f d k h t = go (smallest_from f 0 d) (smallest_is f 0 d)
  where
    go : (r : ℕ) → Smallest f 0 d r → r ≡ k
    go r s = elim (dec_le (suc k) r) [ yes m ↦ absurd (T_not (f k) (T-not-of (s.before k (omega arith) m)) (first_holds f k t)) | no m ↦ other m ]
      where
        other : (suc k ≤ r → ⊥) → r ≡ k
        other m =
            elim s.found [
              | inl x ↦ omega (arith, h, x)
              | inr x ↦
                  elim (dec_le (suc r) k) [
                    | yes l ↦ absurd (T_not (f r) (first_fails f k t r l) (T_of x))
                    | no l ↦ omega arith
                  ]
            ]

-- What holds at each index below k and at k holds below k + 1.
pub below_next : {Q : ℕ → Type 0} {k : ℕ} → ((j : ℕ) → j < k → Q j) → Q k → (j : ℕ) → j < suc k → Q j
below_next {Q} {k} h x j l = elim (dec_le (suc j) k) [ yes m ↦ h j m | no m ↦ subst Q (let e : k ≡ j = omega arith in e) x ]
