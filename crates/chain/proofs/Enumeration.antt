-- The list of all partitions holds every partition and nothing else, and the least bottleneck is the least of their bottlenecks.
-- Assumes nothing.
use Prim.Native.Nat.{ℕ, zero, suc, ◌+◌, ◌-◌, ◌≤◌}
use mathlib.Core.Path.{◌≡◌, refl, sym, ap, subst}
use mathlib.Core.Bool.{Bool, true, false, cond}
use mathlib.Core.List.Memᴰ
use mathlib.Core.List.{List, [], ◌∷◌, map, Memᴰ}
use mathlib.Core.Logic.{◌⊎◌, inl, inr}
use native.Mathlib.Omega.{arith}
use native.Mathlib.Decide.{dec_le}
use lib.Dec.{T}
use lib.ListN.{length}
use Rattle.bound.specs.declared.Bound.{Bound}
use Rattle.bound.specs.Order.{lesser, ◌≼◌, Real}
use Rattle.bound.proofs.Order.{le_refl, le_trans, lesser_cases, lesser_left, lesser_right}
use Rattle.chain.specs.Job.{Job, tasks, processors, last, keeps, at, Partition, all_kept, bottleneck}
use Rattle.chain.specs.Plan.{spread, onward, those, partitions, least_bound, least_bottleneck}
use Rattle.chain.proofs.Parts.{Proper, Plannable}
use Rattle.chain.proofs.Tests.{T_of}
use Rattle.chain.proofs.Indices.{all-at, all_of}
use Rattle.chain.proofs.Bottleneck.{processors-last, bottleneck_real}
use Rattle.chain.proofs.Enough.{some_partition}

-- The rest of a partition from separator a on: q separators between a and the end, n.
pub record Onward (n q a : ℕ) (t : List ℕ) : Type 0 where
  pub count : length t ≡ suc q
  pub grows : (p : ℕ) → p ≤ q → at (a ∷ t) p ≤ at (a ∷ t) (suc p)
  pub end : at t q ≡ n

onward-last : (n a : ℕ) → a ≤ n → Onward n 0 a (n ∷ [])
onward-last n a h = record { count = refl; grows = grow; end = refl }
  where
    grow : (p : ℕ) → p ≤ 0 → at (a ∷ n ∷ []) p ≤ at (a ∷ n ∷ []) (suc p)
    grow zero l = h
    grow (suc p) l = absurd (let z : ⊥ = omega arith in z)

onward-cons : {n q a b : ℕ} {t : List ℕ} → a ≤ b → Onward n q b t → Onward n (suc q) a (b ∷ t)
onward-cons {n} {q} {a} {b} {t} h w = record { count = ap suc w.count; grows = grow; end = w.end }
  where
    grow : (p : ℕ) → p ≤ suc q → at (a ∷ b ∷ t) p ≤ at (a ∷ b ∷ t) (suc p)
    grow zero l = h
    grow (suc p) l = w.grows p (omega arith)

onward_tail : {n q a b : ℕ} {t : List ℕ} → Onward n (suc q) a (b ∷ t) → Onward n q b t
onward_tail w = record { count = omega (arith, w.count); grows = λ p l. w.grows (suc p) (omega arith); end = w.end }

onward-le : (n q a : ℕ) (t : List ℕ) → Onward n q a t → a ≤ n
onward-le n q a [] w = absurd (let z : ⊥ = omega (arith, w.count) in z)
onward-le n zero a (b ∷ t) w = omega (arith, w.grows 0 (omega arith), w.end)
onward-le n (suc q) a (b ∷ t) w = omega (arith, w.grows 0 (omega arith), onward-le n q b t (onward_tail w))

-- What stands in a spread: a first entry in the range, with a rest for it.
pub record Spread (rest : ℕ → List (List ℕ)) (a d : ℕ) (t : List ℕ) : Type 0 where
  pub first : ℕ
  pub tail : List ℕ
  pub from : a ≤ first
  pub to : first ≤ a + d
  pub whole : first ∷ tail ≡ t
  pub mem : Memᴰ tail (rest first)

spread_here : (rest : ℕ → List (List ℕ)) (a d : ℕ) (t : List ℕ) → Memᴰ t (map (λ s. a ∷ s) (rest a)) → Spread rest a d t
spread_here rest a d t m =
    let r = Memᴰ.of_map (λ s. a ∷ s) (rest a) m in
    record { first = a; tail = r.0; from = omega arith; to = omega arith; whole = r.2; mem = r.1 }

spread_sound : (rest : ℕ → List (List ℕ)) (a d : ℕ) (t : List ℕ) → Memᴰ t (spread rest a d) → Spread rest a d t
unfolding spread
spread_sound rest a zero t m = spread_here rest a 0 t m
spread_sound rest a (suc d) t m =
    elim (Memᴰ.append_cases (map (λ s. a ∷ s) (rest a)) m) [
      | inl h ↦ spread_here rest a (suc d) t h
      | inr h ↦ later (spread_sound rest (suc a) d t h)
    ]
  where
    later : Spread rest (suc a) d t → Spread rest a (suc d) t
    later r =
        record { first = r.first; tail = r.tail; from = omega (arith, r.from); to = omega (arith, r.to); whole = r.whole; mem = r.mem }

spread_at : (rest : ℕ → List (List ℕ)) (a b : ℕ) (t : List ℕ) → a ≡ b → Memᴰ t (rest b) → Memᴰ (b ∷ t) (map (λ s. a ∷ s) (rest a))
spread_at rest a b t e m =
    Memᴰ.cast (ap (λ (x : ℕ). x ∷ t) (sym e)) (Memᴰ.map (λ s. a ∷ s) (subst (λ (x : ℕ). Memᴰ t (rest x)) (sym e) m))

spread_complete : (rest : ℕ → List (List ℕ)) (a d b : ℕ) (t : List ℕ) → a ≤ b → b ≤ a + d → Memᴰ t (rest b)
    → Memᴰ (b ∷ t) (spread rest a d)
unfolding spread
spread_complete rest a zero b t h k m = spread_at rest a b t (omega arith) m
spread_complete rest a (suc d) b t h k m =
    elim (dec_le b a) [
      | yes l ↦ Memᴰ.append_left (spread rest (suc a) d) (spread_at rest a b t (omega arith) m)
      | no l ↦ Memᴰ.append_right (map (λ s. a ∷ s) (rest a)) (spread_complete rest (suc a) d b t (omega arith) (omega arith) m)
    ]

-- Every list that goes on from a is the rest of a partition from a on.
pub onward_sound : (n q a : ℕ) (t : List ℕ) → a ≤ n → Memᴰ t (onward n q a) → Onward n q a t
unfolding onward
onward_sound n zero a t h m = subst (Onward n 0 a) (sym (Memᴰ.eq_of_singleton m)) (onward-last n a h)
onward_sound n (suc q) a t h m =
    let r : Spread (onward n q) a (n - a) t = spread_sound (onward n q) a (n - a) t m in
    subst (Onward n (suc q) a) r.whole
    (onward-cons r.from (onward_sound n q r.first r.tail (omega (arith, r.to)) r.mem))

-- Every rest of a partition from a on is listed.
pub onward_complete : (n q a : ℕ) (t : List ℕ) → Onward n q a t → Memᴰ t (onward n q a)
unfolding onward
onward_complete n q a [] w = absurd (let z : ⊥ = omega (arith, w.count) in z)
onward_complete n zero a (b ∷ []) w = Memᴰ.head (ap (λ (x : ℕ). x ∷ []) w.end)
onward_complete n zero a (b ∷ c ∷ t) w = absurd (let z : ⊥ = omega (arith, w.count) in z)
onward_complete n (suc q) a (b ∷ t) w =
    let l : b ≤ n = onward-le n q b t (onward_tail w) in
    spread_complete (onward n q) a (n - a) b t (w.grows 0 (omega arith)) (omega arith) (onward_complete n q b t (onward_tail w))

-- The least of a list of real bounds is real, at most each, and one of them.
module _ (f : List ℕ → Bound) (real : (s : List ℕ) → Real (f s)) where
  least_of_real : (l : List (List ℕ)) → Real (least_bound (map f l))
  unfolding least_bound
  least_of_real [] = record { positive = omega arith }
  least_of_real (s ∷ []) = real s
  least_of_real (s ∷ t ∷ l) = lesser_cases Real (f s) (least_bound (map f (t ∷ l))) (real s) (least_of_real (t ∷ l))

  least_of_le : (l : List (List ℕ)) (s : List ℕ) → Memᴰ s l → least_bound (map f l) ≼ f s
  unfolding least_bound
  least_of_le [] s m = absurd (Memᴰ.not-nil m)
  least_of_le (t ∷ []) s m = subst (λ (x : List ℕ). f t ≼ f x) (sym (Memᴰ.eq_of_singleton m)) (le_refl (f t))
  least_of_le (t ∷ u ∷ l) s m =
      elim (Memᴰ.cases_cons m) [
        | inl e ↦ subst (λ (x : List ℕ). lesser (f t) (least_bound (map f (u ∷ l))) ≼ f x) (sym e) (lesser_left (f t) (least_bound (map f (u ∷ l))))
        | inr h ↦ le_trans (least_of_real (u ∷ l)) (lesser_right (f t) (least_bound (map f (u ∷ l)))) (least_of_le (u ∷ l) s h)
      ]

  least_of_is : (s : List ℕ) (l : List (List ℕ)) → (t : List ℕ) × Memᴰ t (s ∷ l) × (least_bound (map f (s ∷ l)) ≡ f t)
  unfolding least_bound
  least_of_is s [] = (s, Memᴰ.head refl, refl)
  least_of_is s (u ∷ l) =
      let r = least_of_is u l in
      lesser_cases (λ B. (t : List ℕ) × Memᴰ t (s ∷ u ∷ l) × (B ≡ f t)) (f s) (least_bound (map f (u ∷ l)))
      (s, Memᴰ.head refl, refl) (r.0, Memᴰ.tail r.1, r.2)

  least_of_attained : (l : List (List ℕ)) (s : List ℕ) → Memᴰ s l → (t : List ℕ) × Memᴰ t l × (least_bound (map f l) ≡ f t)
  least_of_attained [] s m = absurd (Memᴰ.not-nil m)
  least_of_attained (u ∷ l) s m = least_of_is u l

-- What stands among those of a list of which f holds: what stands there and has it.
those_sound : (f : List ℕ → Bool) (ss : List (List ℕ)) (s : List ℕ) → Memᴰ s (those f ss) → Memᴰ s ss × T (f s)
unfolding those
those_sound f [] s m = absurd (Memᴰ.not-nil m)
those_sound f (t ∷ ts) s m = go (f t) refl m (those_sound f ts s)
  where
    go : (b : Bool) → f t ≡ b → Memᴰ s (cond b (t ∷ those f ts) (those f ts)) → (Memᴰ s (those f ts) → Memᴰ s ts × T (f s))
        → Memᴰ s (t ∷ ts) × T (f s)
    go true e n below =
        elim (Memᴰ.cases_cons n) [
          | inl x ↦ (Memᴰ.head x, subst (λ (u : List ℕ). T (f u)) (sym x) (T_of e))
          | inr x ↦ (Memᴰ.tail (below x).0, (below x).1)
        ]
    go false e n below = (Memᴰ.tail (below n).0, (below n).1)

those_complete : (f : List ℕ → Bool) (ss : List (List ℕ)) (s : List ℕ) → Memᴰ s ss → T (f s) → Memᴰ s (those f ss)
unfolding those
those_complete f [] s m h = absurd (Memᴰ.not-nil m)
those_complete f (t ∷ ts) s m h = go (f t) refl (Memᴰ.cases_cons m) (λ x. those_complete f ts s x h)
  where
    go : (b : Bool) → f t ≡ b → (s ≡ t) ⊎ Memᴰ s ts → (Memᴰ s ts → Memᴰ s (those f ts)) → Memᴰ s (cond b (t ∷ those f ts) (those f ts))
    go true e (inl x) below = Memᴰ.head x
    go true e (inr x) below = Memᴰ.tail (below x)
    go false e (inl x) below = absurd (subst T e (subst (λ (u : List ℕ). T (f u)) x h))
    go false e (inr x) below = below x

module _ {job : Job} (ok : Proper job) where
  from_onward : (t : List ℕ) → Onward (tasks job) (last job) 0 t → T (all_kept job (0 ∷ t)) → Partition job (0 ∷ t)
  unfolding all_kept
  from_onward t w k =
      record {
        kept = all-at (λ p. keeps job p (at (0 ∷ t) p) (at (0 ∷ t) (suc p))) (processors job) k;
        count = omega (arith, w.count, ok.some);
        first = refl;
        grows = λ p h. w.grows p (omega arith);
        end = subst (λ (n : ℕ). at (0 ∷ t) n ≡ tasks job) (sym (processors-last ok)) w.end;
      }

  to_onward : (a : ℕ) (t : List ℕ) → Partition job (a ∷ t) → Onward (tasks job) (last job) a t
  to_onward a t w =
      record {
        count = omega (arith, w.count, ok.some);
        grows = λ p h. w.grows p (omega (arith, ok.some));
        end = subst (λ (n : ℕ). at (a ∷ t) n ≡ tasks job) (processors-last ok) w.end;
      }

  -- Every list of the enumeration is a partition.
  pub partitions_sound : (s : List ℕ) → Memᴰ s (partitions job) → Partition job s
  unfolding partitions
  partitions_sound s m =
      let n = those_sound (all_kept job) (map (λ s. 0 ∷ s) (onward (tasks job) (last job) 0)) s m in
      let r = Memᴰ.of_map (λ s. 0 ∷ s) (onward (tasks job) (last job) 0) n.0 in
      subst (Partition job) r.2
      (from_onward r.0 (onward_sound (tasks job) (last job) 0 r.0 (omega arith) r.1) (subst (λ (s : List ℕ). T (all_kept job s)) (sym r.2) n.1))

  listed : (s : List ℕ) → Partition job s → Memᴰ s (map (λ s. 0 ∷ s) (onward (tasks job) (last job) 0))
  listed [] w = absurd (let z : ⊥ = omega (arith, w.count) in z)
  listed (a ∷ t) w =
      Memᴰ.cast (ap (λ (x : ℕ). x ∷ t) w.first) (Memᴰ.map (λ s. 0 ∷ s) (onward_complete (tasks job) (last job) 0 t (subst (λ (x : ℕ). Onward (tasks job) (last job) x t) w.first (to_onward a t w))))

  -- Every partition stands in the enumeration.
  pub partitions_complete : (s : List ℕ) → Partition job s → Memᴰ s (partitions job)
  unfolding partitions all_kept
  partitions_complete s w =
      those_complete (all_kept job) (map (λ s. 0 ∷ s) (onward (tasks job) (last job) 0)) s (listed s w)
      (all_of (λ p. keeps job p (at s p) (at s (suc p))) (processors job) w.kept)

  -- No partition has a bottleneck below the least.
  pub least_is_least : (s : List ℕ) → Partition job s → least_bottleneck job ≼ bottleneck job s
  unfolding least_bottleneck
  least_is_least s w = least_of_le (bottleneck job) (bottleneck_real ok) (partitions job) s (partitions_complete s w)

-- Some partition has the least bottleneck, as the same pair.
pub least_attained : {job : Job} → Plannable job → (s : List ℕ) × Partition job s × (least_bottleneck job ≡ bottleneck job s)
unfolding least_bottleneck
least_attained {job} can =
    let m = some_partition can in
    let r = least_of_attained (bottleneck job) (bottleneck_real can.proper) (partitions job) m.0 (partitions_complete can.proper m.0 m.1) in
    (r.0, partitions_sound can.proper r.0 r.1, r.2)
