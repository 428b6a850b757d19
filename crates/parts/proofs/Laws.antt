-- What prefix sums say of parts.
-- Assumes nothing.
use Prim.Native.Nat.{ℕ, zero, suc, ◌+◌, ◌-◌, ◌≤◌, ◌<◌, ◌^◌}
use mathlib.Core.Path.{◌≡◌, refl, sym, ap, ap₂, subst, ◌∙◌}
use mathlib.Core.Bool.{Bool, true, false, cond}
use mathlib.Core.List.{List, [], ◌∷◌, ◌++◌}
use native.Mathlib.Omega.{arith}
use native.Mathlib.Numerals.{add-one}
use native.Mathlib.Nat.{lt_of_le_of_lt}
use native.Mathlib.Decide.{dec_le}
use lib.Dec.{ltb, lit<}
use borrow.Author.Tests.{lt-ltb, le-ltb, ltb-true, ltb-false}
use lib.ListN.{length, get_or, set, length-append, length-set, take, drop}
use lib.Seq.{get_or-set_same, drop-set-lt}
use Rattle.bound.specs.declared.Bound.{Bound}
use Rattle.bound.specs.Order.{over}
use Rattle.chain.specs.Lists.{sum, sum_to, tabulate}
use Rattle.chain.specs.Job.{Job, Valid, tasks, processors, speed_of, part_of, part_weight, part_load, total_weight, total_speed, part_bound}
use Rattle.chain.proofs.Sums.{sum-take, sum_is_sum_to, sum_grows}
use Rattle.chain.proofs.Parts.{part_none, weight_split, weight_le_total, load_none, load_some}
use Rattle.chain.proofs.Indices.{length-tabulate, at-tabulate}
use Rattle.chain.proofs.Extremes.{same_default}
use Rattle.chain.proofs.Ranges.{total_weight_limit, startup_total_fits, total_speed_limit, total_speed_fits, loads_fit}
use Rattle.parts.specs.Prefix.{prefixes, weight_between, load_between, Loadable, Prefix, Ready}
use Rattle.parts.specs.Rising.{Rising}
use Rattle.parts.proofs.Front.{Front, front_store, front_end}

-- The load that is read, of a part with tasks and of one without.
pub between_some : (c : ℕ) (xs : List ℕ) (a b : ℕ) → a < b → {w : ℕ} → w ≡ weight_between xs a b → c + w ≡ load_between c xs a b
unfolding load_between
between_some c xs a b h e = ap (λ (n : ℕ). c + n) e ∙ sym (ap (λ (t : Bool). cond t (c + weight_between xs a b) 0) (lt-ltb a b h))

pub between_none : (c : ℕ) (xs : List ℕ) (a b : ℕ) → a ≤ b → b ≤ a → {w : ℕ} → w ≡ weight_between xs a b → w ≡ load_between c xs a b
unfolding load_between weight_between
between_none c xs a b k h {w} e = none ∙ sym (ap (λ (t : Bool). cond t (c + weight_between xs a b) 0) (le-ltb a b h))
  where
    same : a ≡ b
    same = omega arith

    none : w ≡ 0
    none = omega (arith, e, ap (λ (i : ℕ). get_or xs i 0) same)

-- A part that weighs has tasks.
pub between_before : (xs : List ℕ) (a b : ℕ) → a ≤ b → 1 ≤ weight_between xs a b → a < b
unfolding weight_between
between_before xs a b h k =
    elim (dec_le b a) [
      | yes l ↦
          let e : a ≡ b = omega arith in
          omega (arith, ap (λ (i : ℕ). get_or xs i 0) e)
      | no l ↦ omega arith
    ]

-- The bound with the start-up work is that of a part which has tasks.
pub started_some : (c : ℕ) (xs : List ℕ) (e a b : ℕ) {B : Bound} → a < b → B ≡ over (c + weight_between xs a b) e → B ≡ over (load_between c xs a b) e
started_some c xs e a b h f = f ∙ ap (λ (w : ℕ). over w e) (between_some c xs a b h refl)

-- The speed of a processor is read off the list of speeds.
pub speed_read : (job : Job) (p : ℕ) → p < processors job → get_or job.speeds p 0 ≡ speed_of job p
unfolding speed_of
speed_read job p h = same_default job.speeds p 0 1 h

module _ {job : Job} {xs : List ℕ} (r : Prefix job xs) where
  -- Prefix sums grow, and their difference is the weight of the part between.
  pub prefix_split : (a b : ℕ) → a ≤ b → b ≤ tasks job → get_or xs b 0 ≡ get_or xs a 0 + part_weight job a b
  prefix_split a b h k =
      omega (arith, r.sums a (omega arith), r.sums b k, weight_split job 0 a b (omega arith) h)

  pub prefix_grows : (a b : ℕ) → a ≤ b → b ≤ tasks job → get_or xs a 0 ≤ get_or xs b 0
  prefix_grows a b h k = omega (arith, prefix_split a b h k)

  pub prefix_rising : Rising xs (tasks job)
  prefix_rising = record { enough = r.enough; up = prefix_grows }

  pub prefix_weight : (a b : ℕ) → a ≤ b → b ≤ tasks job → weight_between xs a b ≡ part_weight job a b
  unfolding weight_between
  prefix_weight a b h k = omega (arith, prefix_split a b h k)

  -- With the start-up work of a part that has tasks it is the load.
  pub prefix_load : (a b : ℕ) → a ≤ b → b ≤ tasks job → load_between job.startup xs a b ≡ part_load job a b
  unfolding load_between
  prefix_load a b h k = go (ltb a b) refl
    where
      go : (t : Bool) → ltb a b ≡ t → cond t (job.startup + weight_between xs a b) 0 ≡ part_load job a b
      go true e =
          let l : a < b = ltb-true a b e in
          omega (arith, load_some job a b l (omega arith), prefix_weight a b h k)
      go false e =
          let l : b ≤ a = ltb-false a b e in
          sym (load_none job a b (part_none job a b l))

  -- So the bound read off them is the part's.
  pub speed_bound : {e : ℕ} {B : Bound} (p a b : ℕ) → a ≤ b → b ≤ tasks job → e ≡ speed_of job p → B ≡ over (load_between job.startup xs a b) e
      → B ≡ part_bound job p a b
  unfolding part_bound
  speed_bound p a b h k e f = f ∙ ap₂ over (prefix_load a b h k) e

  pub prefix_bound : {e : ℕ} {B : Bound} (p a b : ℕ) → p < processors job → a ≤ b → b ≤ tasks job → e ≡ get_or job.speeds p 0
      → B ≡ over (load_between job.startup xs a b) e → B ≡ part_bound job p a b
  prefix_bound p a b l h k e f = speed_bound p a b h k (e ∙ speed_read job p l) f

-- What grows to n grows to any index before it; so the parts up to n can be read.
pub rising_to : {xs : List ℕ} {m n : ℕ} → m ≤ n → Rising xs n → Rising xs m
rising_to h w = record { enough = omega (arith, w.enough); up = λ i j k l. w.up i j k (omega arith) }

pub prefix_to : {job : Job} {xs : List ℕ} {b : ℕ} → Ready job xs → b ≤ tasks job → Rising xs b
prefix_to r h = rising_to h (prefix_rising r.prefix)

pub loads_to : {job : Job} {xs : List ℕ} {b : ℕ} → Ready job xs → b ≤ tasks job → Loadable job.startup xs b
loads_to {job} {xs} {b} r h =
    record { rising = prefix_to r h; fits = omega (arith, r.prefix.sums b h, weight_le_total job 0 b, startup_total_fits r.valid) }

-- A prefix sum by its list.
weight_front : (job : Job) (i : ℕ) → sum (take i job.weights) ≡ part_weight job 0 i
unfolding part_weight part_of
weight_front job i = ap (λ (n : ℕ). sum (take n job.weights)) (let e : i ≡ i - 0 = omega arith in e)

-- The prefix sums in front of any list are prefix sums.
pub prefixes_are : (job : Job) (l : List ℕ) → Prefix job (prefixes job.weights ++ l)
unfolding prefixes
prefixes_are job l =
    record {
      enough =
          omega (arith, length-append (prefixes job.weights) l, length-tabulate (λ i. sum (take i job.weights)) (suc (tasks job)));
      sums = λ i h. at-tabulate (λ i. sum (take i job.weights)) (suc (tasks job)) l i (omega arith) ∙ weight_front job i;
    }

-- So is every list in whose front they were written.
pub sums_ready : {job : Job} {xs : List ℕ} (l : List ℕ) → Valid job → xs ≡ prefixes job.weights ++ l → Ready job xs
sums_ready {job} {xs} l v e = record { valid = v; prefix = subst (Prefix job) (sym e) (prefixes_are job l) }

-- A prefix sum fits 32 bits, and so does all weight; all speed fits 64.
pub prefix_fits : {job : Job} → Valid job → (i : ℕ) → part_weight job 0 i < 2 ^ 32
prefix_fits {job} v i = omega (arith, weight_le_total job 0 i, total_weight_limit v, loads_fit)

pub weights_fit : {job : Job} → Valid job → total_weight job < 2 ^ 32
weights_fit v = lt_of_le_of_lt (total_weight_limit v) loads_fit

pub speeds_add_up : {job : Job} → Valid job → total_speed job < 2 ^ 64
speeds_add_up {job} v = let h : total_speed job ≤ 2 ^ 32 - 1 = omega (arith, total_speed_limit v, total_speed_fits) in lt_of_le_of_lt h (lit< tt)

-- One more weight: what the loop that fills the prefix sums adds.
prefix_next : (ws : List ℕ) (i : ℕ) → sum (take (suc i) ws) ≡ sum (take i ws) + get_or ws i 0
unfolding sum
prefix_next [] zero = refl
prefix_next [] (suc i) = refl
prefix_next (x ∷ ws) zero = omega arith
prefix_next (x ∷ ws) (suc i) = omega (arith, prefix_next ws i)

-- What the loop keeps: the sum so far, and the list with the sums up to it in front.
pub record Summed (ws before now : List ℕ) (i total : ℕ) : Type 0 where
  pub to : i ≤ length ws
  pub is : total ≡ sum (take i ws)
  pub front : Front (λ k. sum (take k ws)) (suc i) before now

-- It begins with a list in whose front 0 was stored, and what is behind the sums in the end is what was there before that.
pub summed_start : (ws xs : List ℕ) → 0 < length xs → Summed ws (set xs 0 0) (set xs 0 0) 0 0
unfolding sum
summed_start ws xs h =
    record { to = omega arith; is = refl; front = record { same = refl; done = first; rest = λ k l. refl } }
  where
    first : (k : ℕ) → k < 1 → get_or (set xs 0 0) k 0 ≡ sum (take k ws)
    first k l =
        subst (λ (i : ℕ). get_or (set xs 0 0) i 0 ≡ sum (take i ws)) (let e : 0 ≡ k = omega arith in e) (get_or-set_same xs 0 0 0 h)

pub summed_fits : {ws xs ys : List ℕ} {i total m : ℕ} → sum ws < m → Summed ws xs ys i total → total + get_or ws i 0 < m
summed_fits {ws} {i = i} h w = omega (arith, w.is, prefix_next ws i, sum-take (suc i) ws)

pub summed_turn : {ws xs ys : List ℕ} {i total : ℕ} → length ws < length xs → Summed ws xs ys i total → i < length ws
    → Summed ws xs (set ys (i + 1) (total + get_or ws i 0)) (i + 1) (total + get_or ws i 0)
summed_turn {ws} {xs} {ys} {i} {total} h w l =
    subst (λ (k : ℕ). Summed ws xs (set ys k (total + get_or ws i 0)) k (total + get_or ws i 0)) (sym (add-one i))
    (record { to = l; is = next; front = front_store (total + get_or ws i 0) w.front (omega arith) next })
  where
    next : total + get_or ws i 0 ≡ sum (take (suc i) ws)
    next = omega (arith, w.is, prefix_next ws i)

pub summed_end : {ws : List ℕ} (xs : List ℕ) {ys : List ℕ} {i total : ℕ} → length ws < length xs → Summed ws (set xs 0 0) ys i total → length ws ≤ i
    → ys ≡ prefixes ws ++ drop (suc (length ws)) xs
unfolding prefixes
summed_end {ws} xs {ys} {i} h w l =
    front_end
    (subst (λ (k : ℕ). Front (λ j. sum (take j ws)) (suc k) (set xs 0 0) ys) (let e : i ≡ length ws = omega (arith, w.to) in e) w.front)
    (omega (arith, length-set xs 0 0))
    ∙ ap (λ (l : List ℕ). tabulate (λ j. sum (take j ws)) (suc (length ws)) ++ l) (drop-set-lt (suc (length ws)) xs 0 0 (omega arith))

-- The sum of a list, so far.
pub record Total (xs : List ℕ) (p t : ℕ) : Type 0 where
  pub to : p ≤ length xs
  pub is : t ≡ sum_to (λ k. get_or xs k 0) p

pub total_start : (xs : List ℕ) → Total xs 0 0
unfolding sum_to
total_start xs = record { to = omega arith; is = refl }

pub total_next : {xs : List ℕ} {p t : ℕ} → Total xs p t → p < length xs → Total xs (p + 1) (t + get_or xs p 0)
unfolding sum_to
total_next {xs} {p} {t} w h =
    record { to = omega arith; is = subst (λ (k : ℕ). t + get_or xs p 0 ≡ sum_to (λ k. get_or xs k 0) k) (sym (add-one p)) (omega (arith, w.is)) }

pub total_end : {xs : List ℕ} {p t : ℕ} → Total xs p t → length xs ≤ p → t ≡ sum xs
total_end {xs} {p} {t} w h =
    w.is ∙ ap (sum_to (λ k. get_or xs k 0)) (let e : p ≡ length xs = omega (arith, w.to) in e) ∙ sym (sum_is_sum_to xs 0)

pub total_fits : {xs : List ℕ} {p t m : ℕ} → sum xs < m → Total xs p t → p < length xs → t + get_or xs p 0 < m
unfolding sum_to
total_fits {xs} {p} {t} {m} s w h =
    omega (arith, w.is, sum_grows (λ k. get_or xs k 0) (suc p) (length xs) h, sum_is_sum_to xs 0)
