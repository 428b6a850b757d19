-- How the steps of the search join.
-- Assumes nothing.
use Prim.Native.Nat.{ℕ, suc, ◌+◌, ◌-◌, ◌≤◌, ◌<◌}
use mathlib.Core.Path.{◌≡◌, subst}
use mathlib.Core.List.{List}
use native.Mathlib.Omega.{arith}
use native.Mathlib.Decide.{dec_le}
use native.Mathlib.Numerals.{add-one}
use lib.ListN.{get_or}
use Rattle.parts.specs.Rising.{Rising, near, Spanned, LastAtMost}

-- Where the entry is above the cap, so is every later one.
pub rising_above : {xs : List ℕ} {n cap : ℕ} → Rising xs n → (i j : ℕ) → i ≤ j → j ≤ n → cap < get_or xs i 0 → cap < get_or xs j 0
rising_above w i j h k e = omega (arith, w.up i j h k)

-- A halved step: the index stays, or it goes on by what the step has become.
pub half_stays : {xs : List ℕ} {a n cap low step : ℕ} (half : ℕ) → Spanned xs a n cap low step → (low + half ≤ n → cap < get_or xs (low + half) 0)
    → Spanned xs a n cap low half
half_stays half b h = record { from = b.from; to = b.to; below = b.below; above = h }

module _ {xs : List ℕ} {n cap : ℕ} (w : Rising xs n) {a low step : ℕ} (b : Spanned xs a n cap low step) where
  pub half_goes : (half : ℕ) → step ≤ half + half → low + half ≤ n → get_or xs (low + half) 0 ≤ cap → Spanned xs a n cap (low + half) half
  half_goes half h k e =
      record {
        from = omega (arith, b.from);
        to = k;
        below = e;
        above = λ l. rising_above w (low + step) (low + half + half) (omega arith) l (b.above (omega arith));
      }

  -- A step that is no greater than another is as good.
  pub step_at_most : (most : ℕ) → step ≤ most → Spanned xs a n cap low most
  step_at_most most h =
      record {
        from = b.from;
        to = b.to;
        below = b.below;
        above = λ l. rising_above w (low + step) (low + most) (omega arith) l (b.above (omega arith));
      }

-- Counting: at first the index itself; a turn adds the next entry.
pub counted_start : {xs : List ℕ} {low cap : ℕ} → get_or xs low 0 ≤ cap → LastAtMost xs low (low + 0) cap low
counted_start e =
    record { from = omega arith; to = omega arith; below = e; above = λ h. absurd (let z : ⊥ = omega arith in z) }

module _ {xs : List ℕ} {n cap low : ℕ} (k : ℕ) {r : ℕ} (w : Rising xs n) (c : LastAtMost xs low (low + k) cap r) (h : low + (k + 1) ≤ n) where
  pub counted_more : get_or xs (low + (k + 1)) 0 ≤ cap → LastAtMost xs low (low + (k + 1)) cap (r + 1)
  counted_more e =
      record {
        from = omega (arith, c.from);
        to = omega (arith, c.to);
        below = subst (λ (i : ℕ). get_or xs i 0 ≤ cap) (let z : low + (k + 1) ≡ r + 1 = omega (arith, all) in z) e;
        above = λ l. absurd (let z : ⊥ = omega (arith, all) in z);
      }
    where
      all : r ≡ low + k
      all =
          elim (dec_le (suc r) (low + k)) [
            | yes l ↦ absurd (let z : ⊥ = omega (arith, c.above l, w.up (suc r) (low + (k + 1)) (omega arith) h) in z)
            | no l ↦ omega (arith, c.to)
          ]

  pub counted_same : cap < get_or xs (low + (k + 1)) 0 → LastAtMost xs low (low + (k + 1)) cap r
  counted_same e =
      record {
        from = c.from;
        to = omega (arith, c.to);
        below = c.below;
        above = λ l.
            elim (dec_le (suc r) (low + k)) [
              | yes m ↦ c.above m
              | no m ↦ subst (λ (i : ℕ). cap < get_or xs i 0) (let z : low + (k + 1) ≡ suc r = omega (arith, c.to) in z) e
            ];
      }

-- What is last up to the entry before the eighth is last where the eighth is above the cap.
pub near_last : {xs : List ℕ} {a n cap low m r : ℕ} → Spanned xs a n cap low near → low + near ≤ n → low + near ≡ suc m → LastAtMost xs low m cap r
    → LastAtMost xs low n cap r
near_last {xs} {a} {n} {cap} {low} {m} {r} b h e c =
    record {
      from = c.from;
      to = omega (arith, c.to);
      below = c.below;
      above = λ l.
          elim (dec_le (suc r) m) [
            | yes k ↦ c.above k
            | no k ↦ subst (λ (i : ℕ). cap < get_or xs i 0) (let z : low + near ≡ suc r = omega (arith, c.to) in z) (b.above h)
          ];
    }

-- And what is last among an index and all that are left is last.
pub all-last : {xs : List ℕ} {n cap low r : ℕ} → low ≤ n → LastAtMost xs low (low + (n - low)) cap r → LastAtMost xs low n cap r
all-last {xs} {n} {cap} {low} {r} h c =
    subst (λ (m : ℕ). LastAtMost xs low m cap r) (let e : low + (n - low) ≡ n = omega arith in e) c

-- One look.
pub look_last : {xs : List ℕ} {a n cap : ℕ} → a ≤ n → get_or xs a 0 ≤ cap → (a < n → cap < get_or xs (a + 1) 0) → LastAtMost xs a n cap a
look_last {xs} {a} {n} {cap} h e f =
    record {
      from = omega arith;
      to = h;
      below = e;
      above = λ l. subst (λ (i : ℕ). cap < get_or xs i 0) (add-one a) (f l);
    }
