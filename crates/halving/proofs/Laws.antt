-- The split that is searched among the prefix sums is the job's; what two halves of a row leave between its ends; and the ends.
-- Assumes nothing.
use Prim.Native.Nat.{ℕ, zero, suc, ◌+◌, ◌-◌, ◌/◌, ◌^◌, ◌≤◌, ◌<◌}
use mathlib.Core.Path.{◌≡◌, refl, sym, ap, ap₂, subst, ◌∙◌}
use mathlib.Core.Bool.{Bool, true, false}
use mathlib.Core.List.{List, [], ◌∷◌, ◌++◌, append-nil, append_assoc}
use native.Mathlib.Omega.{arith}
use lib.Dec.{eqb}
use borrow.Author.Tests.{eqb-true, eqb-false}
use lib.ListN.{length, set, take, drop, length-append, length-set, length-take, length-drop}
use lib.Seq.{length-take-le, append_snoc, set_split, take-set-le, drop-set-lt, take-suc-set, drop-drop, take_at, drop_at}
use borrow.Rule.Slice.PartMut.{put_mid}
use Rattle.std.proofs.lemmas.List.{drop_all}
use Rattle.chain.specs.Lists.{smallest_least, levels, digits, digits_within}
use Rattle.chain.specs.Job.{Job, tasks, processors, at}
use Rattle.chain.specs.Halving.{uneven, split, splits_by, halving}
use Rattle.chain.proofs.Parts.{weight_split}
use Rattle.chain.proofs.Indices.{smallest_least_is}
use Rattle.chain.proofs.Halving.{Halved, halved_power, split_from, split_to}
use Rattle.parts.specs.Prefix.{Ready}
use Rattle.heuristic.specs.Target.{off_in, nearest_in}
use Rattle.heuristic.proofs.Nearest.{smallest_least_unique}
use Rattle.halving.specs.Row.{split_in}

-- What the search for a split gives.
pub split_found : (xs : List ℕ) (a b : ℕ) {x y r : ℕ} → x ≡ at xs a → y ≡ at xs b → r ≡ nearest_in xs 2 (x + y) a b → r ≡ split_in xs a b
unfolding split_in
split_found xs a b e f g = g ∙ ap₂ (λ (x y : ℕ). nearest_in xs 2 (x + y) a b) e f

-- A split lies in its part.
pub split_in_from : (xs : List ℕ) (a b : ℕ) → a ≤ split_in xs a b
unfolding split_in nearest_in
split_in_from xs a b = omega arith

pub split_in_to : (xs : List ℕ) (a b : ℕ) → a ≤ b → split_in xs a b ≤ b
unfolding split_in nearest_in
split_in_to xs a b h = omega (arith, (smallest_least_is (λ d. off_in xs 2 (at xs a + at xs b) (a + d)) (b - a)).to)

-- Functions that are equal up to n are least at the same index.
least_same : {f g : ℕ → ℕ} (n : ℕ) → ((k : ℕ) → k ≤ n → f k ≡ g k) → smallest_least f n ≡ smallest_least g n
least_same {f} {g} n e =
    let y = smallest_least_is f n in
    smallest_least_unique
    (record {
      to = y.to;
      least = λ k h. omega (arith, y.least k h, e k h, e (smallest_least f n) y.to);
      before = λ k h. omega (arith, y.before k h, e k (omega (arith, y.to)), e (smallest_least f n) y.to);
    })

-- It is the split of the job's part, and so are all splits.
module _ {job : Job} {xs : List ℕ} (ready : Ready job xs) where
  split_is : (a b : ℕ) → a ≤ b → b ≤ tasks job → split_in xs a b ≡ split job a b
  unfolding split_in nearest_in split uneven
  split_is a b h l =
      ap (λ (n : ℕ). a + n)
      (least_same {f = λ d. off_in xs 2 (at xs a + at xs b) (a + d)} {g = λ d. uneven job a b (a + d)} (b - a)
      (λ d k.
      omega (
        arith,
        ready.prefix.sums (a + d) (omega arith),
        ready.prefix.sums a (omega arith),
        ready.prefix.sums b l,
        weight_split job 0 a (a + d) (omega arith) (omega arith),
        weight_split job 0 a b (omega arith) h,
      )))

  pub splits_are : (k a b : ℕ) → a ≤ b → b ≤ tasks job → splits_by (split_in xs) k a b ≡ splits_by (split job) k a b
  unfolding splits_by
  splits_are zero a b h l = refl
  splits_are (suc k) a b h l =
      let i = split job a b in
      ap (λ (j : ℕ). splits_by (split_in xs) k a j ++ j ∷ splits_by (split_in xs) k j b) (split_is a b h l)
      ∙ ap₂ (λ (ys zs : List ℕ). ys ++ i ∷ zs) (splits_are k a i (split_from job a b) (omega (arith, split_to job a b h)))
      (splits_are k i b (split_to job a b h) l)

-- The separators between the processors of a row: xs is what stood there, m its middle, and v the split, which is put there. The first half
-- leaves H in front of it, and the second K behind it.
module _ (xs : List ℕ) (v : ℕ) {m : ℕ} (h : m < length xs) (H K : List ℕ) (left : length H ≡ m) where
  row_left : H ++ drop m (set xs m v) ≡ (H ++ v ∷ []) ++ drop (suc m) xs
  row_left =
      ap (λ (d : List ℕ). H ++ d) (ap (drop m) (set_split xs m v h) ∙ drop_at (take m xs) (v ∷ drop (suc m) xs) m (length-take-le m xs (omega arith)))
      ∙ sym (append_assoc H (v ∷ []) (drop (suc m) xs))

  pub row_split : put_mid (m + 1) (length (H ++ drop m (set xs m v)) - (m + 1)) (H ++ drop m (set xs m v)) K ≡ H ++ v ∷ K
  row_split =
      ap (λ (zs : List ℕ). put_mid (m + 1) (length zs - (m + 1)) zs K) row_left
      ∙ ap₂ (λ (t d : List ℕ). t ++ (K ++ d)) (take_at front rest (m + 1) front_length)
      (drop_all (length (front ++ rest) - (m + 1)) (drop (m + 1) (front ++ rest)) (omega (arith, length-drop (m + 1) (front ++ rest))))
      ∙ ap (λ (k : List ℕ). front ++ k) (append-nil K)
      ∙ append_assoc H (v ∷ []) K
    where
      front : List ℕ
      front = H ++ v ∷ []

      rest : List ℕ
      rest = drop (suc m) xs

      front_length : length front ≡ m + 1
      front_length = omega (arith, length-append H (v ∷ []), left)

-- What stands when the first half is written is as long as before.
pub written_length : (xs : List ℕ) (m v : ℕ) (H : List ℕ) → length H ≡ length (take m (set xs m v)) → length (H ++ drop m (set xs m v)) ≡ length xs
written_length xs m v H e =
    omega (arith, e, length-append H (drop m (set xs m v)), length-take m (set xs m v), length-drop m (set xs m v), length-set xs m v)

-- There is one between, by the code's test.
pub some_between : (xs : List ℕ) {b : Bool} → b ≡ eqb (length xs) 0 → b ≡ false → 1 ≤ length xs
some_between xs e f = omega (arith, eqb-false (length xs) 0 (sym e ∙ f))

-- Where a row has a power of two of processors above 1, each half has a power of two again.
module _ (xs : List ℕ) (power : 2 ^ levels (suc (length xs)) ≡ suc (length xs)) (some : 1 ≤ length xs) where
  halves : Halved (suc (length xs))
  halves = halved_power (suc (length xs)) power (omega arith)

  pub half_power : {l : ℕ} → suc l ≡ suc (length xs) / 2 → 2 ^ levels (suc l) ≡ suc l
  half_power {l} e =
      subst (λ (n : ℕ). 2 ^ levels n ≡ n) (sym e) (ap (λ (k : ℕ). 2 ^ k) halves.half ∙ halves.power)

  -- The first half, and the second, which begins behind the middle, where what the first leaves is as long.
  pub left_number : (v : ℕ) → suc (length (take (length xs / 2) (set xs (length xs / 2) v))) ≡ suc (length xs) / 2
  left_number v = omega (arith, length-take (length xs / 2) (set xs (length xs / 2) v), length-set xs (length xs / 2) v, halves.twice)

  pub right_number : (zs : List ℕ) → length zs ≡ length xs
      → suc (length (take (length zs - (length xs / 2 + 1)) (drop (length xs / 2 + 1) zs))) ≡ suc (length xs) / 2
  right_number zs e =
      omega (
        arith,
        length-take (length zs - (length xs / 2 + 1)) (drop (length xs / 2 + 1) zs),
        length-drop (length xs / 2 + 1) zs,
        halves.twice,
      )

  -- What the two halves leave is what the whole is to leave.
  pub row_halves : (cut : ℕ → ℕ → ℕ) (a b : ℕ) {i l r : ℕ} {H K : List ℕ} → i ≡ cut a b → suc l ≡ suc (length xs) / 2 → suc r ≡ suc (length xs) / 2
      → H ≡ splits_by cut (levels (suc l)) a i → K ≡ splits_by cut (levels (suc r)) i b
      → H ++ i ∷ K ≡ splits_by cut (levels (suc (length xs))) a b
  unfolding splits_by
  row_halves cut a b {i} {l} {r} e x y f g =
      ap₂ (λ (hs ks : List ℕ). hs ++ i ∷ ks) (f ∙ ap (λ (n : ℕ). splits_by cut n a i) (ap levels x ∙ halves.half))
      (g ∙ ap (λ (n : ℕ). splits_by cut n i b) (ap levels y ∙ halves.half))
      ∙ ap (λ (j : ℕ). splits_by cut k a j ++ j ∷ splits_by cut k j b) e
      ∙ ap (λ (n : ℕ). splits_by cut n a b) (sym halves.whole)
    where
      k : ℕ
      k = halves.doublings

-- A row of one processor: nothing is written.
pub row_alone : (cut : ℕ → ℕ → ℕ) (xs : List ℕ) (a b : ℕ) {t : Bool} → t ≡ eqb (length xs) 0 → t ≡ true → xs ≡ splits_by cut (levels (suc (length xs))) a b
unfolding levels digits digits_within splits_by
row_alone cut xs a b e f = none xs (eqb-true (length xs) 0 (sym e ∙ f))
  where
    none : (ys : List ℕ) → length ys ≡ 0 → ys ≡ splits_by cut (levels (suc (length ys))) a b
    none [] g = refl
    none (y ∷ ys) g = absurd (let z : ⊥ = omega arith in z)

-- The whole row, its two ends written before: with its separators between them.
module _ {job : Job} {xs : List ℕ} (s : List ℕ) {n : ℕ} (ready : Ready job xs) (h : processors job < length s) (e : n ≡ tasks job) where
  abbrev ends : List ℕ
  ends = set (set s 0 0) (processors job) n

  pub row_number : suc (length (take (processors job - 1) (drop 1 ends))) ≡ processors job
  row_number =
      omega (
        arith,
        ready.valid.some_processor,
        length-take (processors job - 1) (drop 1 ends),
        length-drop 1 ends,
        length-set (set s 0 0) (processors job) n,
        length-set s 0 0,
      )

  pub row_done : {K : List ℕ} → K ≡ splits_by (split_in xs) (levels (suc (length (take (processors job - 1) (drop 1 ends))))) 0 (tasks job)
      → put_mid 1 (processors job - 1) ends K ≡ halving job ++ drop (suc (processors job)) s
  unfolding halving
  row_done {K} f =
      ap₂ (λ (t d : List ℕ). t ++ (K ++ d)) ends_first ends_last
      ∙ ap (λ (ks : List ℕ). 0 ∷ (ks ++ tasks job ∷ drop (suc p) s)) (f ∙ ap (λ (k : ℕ). splits_by (split_in xs) (levels k) 0 (tasks job)) row_number ∙ are)
      ∙ ap (λ (ys : List ℕ). 0 ∷ ys) (sym (append_snoc (splits_by (split job) (levels p) 0 (tasks job)) (tasks job) (drop (suc p) s)))
    where
      p : ℕ
      p = processors job

      some : 1 ≤ p
      some = ready.valid.some_processor

      ends_first : take 1 ends ≡ 0 ∷ []
      ends_first = take-set-le 1 (set s 0 0) (processors job) n some ∙ take-suc-set s 0 0 (omega arith)

      ends_last : drop (processors job - 1) (drop 1 ends) ≡ tasks job ∷ drop (suc (processors job)) s
      ends_last =
          drop-drop (processors job - 1) 1 ends
          ∙ ap (λ (k : ℕ). drop k ends) (let z : 1 + (processors job - 1) ≡ processors job = omega (arith, some) in z)
          ∙ ap (drop (processors job)) (set_split (set s 0 0) (processors job) n (omega (arith, length-set s 0 0)))
          ∙ drop_at (take (processors job) (set s 0 0)) (n ∷ drop (suc (processors job)) (set s 0 0)) (processors job)
          (length-take-le (processors job) (set s 0 0) (omega (arith, length-set s 0 0)))
          ∙ ap₂ (λ (x : ℕ) (d : List ℕ). x ∷ d) e (drop-set-lt (suc (processors job)) s 0 0 (omega arith))

      are : splits_by (split_in xs) (levels (processors job)) 0 (tasks job) ≡ splits_by (split job) (levels (processors job)) 0 (tasks job)
      are = splits_are ready (levels (processors job)) 0 (tasks job) (omega arith) (omega arith)
