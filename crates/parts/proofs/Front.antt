-- A list that is written from the front, one entry after the other: what every loop that fills a lent list keeps.
-- Assumes nothing.
use Prim.Native.Nat.{ℕ, suc, ◌+◌, ◌-◌, ◌≤◌, ◌<◌}
use mathlib.Core.Path.{◌≡◌, refl, sym, ap, subst, ◌∙◌}
use mathlib.Core.List.{List, ◌++◌}
use native.Mathlib.Omega.{arith}
use native.Mathlib.Decide.{dec_le}
use native.Mathlib.Numerals.{add-one}
use lib.ListN.{length, get_or, set, take, drop, length-append, length-drop, length-set}
use lib.Seq.{get_or-set_same, get_or-set_other, get_or-drop, length-take-le, take_at, drop_at, ext_get_or}
use Rattle.bound.specs.declared.Bound.{Bound}
use Rattle.chain.specs.Lists.{tabulate}
use Rattle.chain.specs.Job.{Job, Partition, processors, bottleneck}
use Rattle.parts.specs.Kept.{KeptFrom}
use Rattle.chain.proofs.Indices.{length-tabulate, at-tabulate, table_of, after_tabulate}

-- ys is xs with f 0, .. f (n - 1) in front.
pub record Front (f : ℕ → ℕ) (n : ℕ) (xs ys : List ℕ) : Type 0 where
  pub same : length ys ≡ length xs
  pub done : (k : ℕ) → k < n → get_or ys k 0 ≡ f k
  pub rest : (k : ℕ) → n ≤ k → get_or ys k 0 ≡ get_or xs k 0

-- A store of the next value.
pub front_store : {f : ℕ → ℕ} {n : ℕ} {xs ys : List ℕ} (v : ℕ) → Front f n xs ys → n < length xs → v ≡ f n → Front f (suc n) xs (set ys n v)
front_store {f} {n} {xs} {ys} v w h e =
    record {
      same = length-set ys n v ∙ w.same;
      done = λ k l. elim (dec_le (suc k) n) [ yes m ↦ get_or-set_other ys n k v 0 (λ x. omega arith) ∙ w.done k m | no m ↦ last k (omega arith) ];
      rest = λ k l. get_or-set_other ys n k v 0 (λ x. omega arith) ∙ w.rest k (omega arith);
    }
  where
    last : (k : ℕ) → n ≡ k → get_or (set ys n v) k 0 ≡ f k
    last k x =
        subst (λ (i : ℕ). get_or (set ys n v) i 0 ≡ f i) x (get_or-set_same ys n v 0 (omega (arith, w.same)) ∙ e)

-- The same, as code counts.
pub front_next : {f : ℕ → ℕ} {n : ℕ} {xs ys : List ℕ} (v : ℕ) → Front f n xs ys → n < length xs → v ≡ f n → Front f (n + 1) xs (set ys n v)
front_next {f} {n} {xs} {ys} v w h e = subst (λ (k : ℕ). Front f k xs (set ys n v)) (sym (add-one n)) (front_store v w h e)

-- The list in the end.
pub front_end : {f : ℕ → ℕ} {n : ℕ} {xs ys : List ℕ} → Front f n xs ys → n ≤ length xs → ys ≡ tabulate f n ++ drop n xs
front_end {f} {n} {xs} {ys} w h =
    ext_get_or 0 ys (tabulate f n ++ drop n xs)
    (omega (arith, w.same, length-append (tabulate f n) (drop n xs), length-tabulate f n, length-drop n xs)) each
  where
    each : (k : ℕ) → k < length ys → get_or ys k 0 ≡ get_or (tabulate f n ++ drop n xs) k 0
    each k l =
        elim (dec_le (suc k) n) [
          | yes m ↦ w.done k m ∙ sym (at-tabulate f n (drop n xs) k m)
          | no m ↦
              w.rest k (omega arith)
              ∙ sym
              (ap (λ (i : ℕ). get_or (tabulate f n ++ drop n xs) i 0) (let e : k ≡ n + (k - n) = omega arith in e)
              ∙ after_tabulate f n (drop n xs) (k - n) ∙ get_or-drop n xs (k - n) 0 ∙ ap (λ (i : ℕ). get_or xs i 0) (let e : n + (k - n) ≡ k = omega arith in e))
        ]

-- Where the first n entries of another list are copied: they stand in front.
pub front_copied : {n k : ℕ} {xs ys : List ℕ} (l : List ℕ) → Front (λ j. get_or (take n l) j 0) k xs ys → k ≡ n → n ≤ length l → n ≤ length xs → ys ≡ take n l ++ drop n xs
front_copied {n} {k} {xs} {ys} l w e h m =
    front_end (subst (λ (i : ℕ). Front (λ j. get_or (take n l) j 0) i xs ys) e w) m
    ∙ ap (λ (t : List ℕ). t ++ drop n xs) (table_of (take n l) (length-take-le n l h))

-- And back: a list with those entries in front is written so.
pub front_of : (f : ℕ → ℕ) (n : ℕ) (xs : List ℕ) → n ≤ length xs → Front f n xs (tabulate f n ++ drop n xs)
front_of f n xs h =
    record {
      same = omega (arith, length-append (tabulate f n) (drop n xs), length-tabulate f n, length-drop n xs);
      done = λ k l. at-tabulate f n (drop n xs) k l;
      rest = λ k l.
          ap (λ (i : ℕ). get_or (tabulate f n ++ drop n xs) i 0) (let e : k ≡ n + (k - n) = omega arith in e)
          ∙ after_tabulate f n (drop n xs) (k - n) ∙ get_or-drop n xs (k - n) 0 ∙ ap (λ (i : ℕ). get_or xs i 0) (let e : n + (k - n) ≡ k = omega arith in e);
    }

-- What is behind the entries that were written is as it was,
pub front_kept : {f : ℕ → ℕ} {n m : ℕ} {xs ys : List ℕ} → Front f n xs ys → n ≤ m → KeptFrom m xs ys
front_kept {f} {n} {m} {xs} {ys} w h =
    record {
      same = w.same;
      rest = ext_get_or 0 (drop m ys) (drop m xs) (omega (arith, length-drop m ys, length-drop m xs, w.same))
          (λ k l. get_or-drop m ys k 0 ∙ w.rest (m + k) (omega arith) ∙ sym (get_or-drop m xs k 0));
    }

-- and where nothing changed, what is behind the first n entries.
pub kept_start : (n : ℕ) (xs : List ℕ) → KeptFrom n xs xs
kept_start n xs = record { same = refl; rest = refl }

-- It stays so where n entries are put in front, and it is then the new list's rest.
pub kept_written : {n : ℕ} {before now : List ℕ} (new later : List ℕ) → KeptFrom n before now → n ≤ length before → length new ≡ n → later ≡ new ++ drop n now
    → KeptFrom n before later
kept_written {n} {before} {now} new later b h l e =
    record {
      same = omega (arith, ap length e, length-append new (drop n now), length-drop n now, b.same);
      rest = ap (drop n) e ∙ drop_at new (drop n now) n l ∙ b.rest;
    }

pub kept_is : {n : ℕ} {before now later : List ℕ} (new : List ℕ) → KeptFrom n before now → later ≡ new ++ drop n now → later ≡ new ++ drop n before
kept_is {n} new b e = e ∙ ap (λ (l : List ℕ). new ++ l) b.rest

pub kept_trans : {n : ℕ} {a b c : List ℕ} → KeptFrom n a b → KeptFrom n b c → KeptFrom n a c
kept_trans x y = record { same = y.same ∙ x.same; rest = y.rest ∙ x.rest }

-- A list in whose front n entries were written: these entries,
pub taken : {n : ℕ} (new l : List ℕ) {ys : List ℕ} → length new ≡ n → ys ≡ new ++ l → take n ys ≡ new
taken {n} new l h e = ap (take n) e ∙ take_at new l n h

-- that they are a partition where they were one,
pub front_partition : {job : Job} (new l : List ℕ) {ys : List ℕ} → Partition job new → ys ≡ new ++ l → Partition job (take (suc (processors job)) ys)
front_partition {job} new l pa e = subst (Partition job) (sym (taken new l pa.count e)) pa

-- and that their bottleneck is that one's.
pub front-bottleneck : {job : Job} (new l : List ℕ) {ys : List ℕ} {B : Bound} → Partition job new → ys ≡ new ++ l
    → B ≡ bottleneck job (take (suc (processors job)) ys) → B ≡ bottleneck job new
front-bottleneck {job} new l pa e h = h ∙ ap (bottleneck job) (taken new l pa.count e)
