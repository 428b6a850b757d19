-- What the loops keep: the sum of the speeds, the search's index, the heuristic's separators and the bottleneck so far.
-- Assumes nothing.
use Prim.Native.Nat.{ℕ, suc, ◌+◌, ◌-◌, ◌*◌, ◌/◌, ◌≤◌, ◌<◌, ◌^◌}
use mathlib.Core.Path.{◌≡◌, refl, sym, ap, ap₂, subst, ◌∙◌}
use mathlib.Core.List.{List, ◌++◌}
use mathlib.Core.Logic.{◌⊎◌, inl, inr}
use native.Mathlib.Omega.{arith}
use native.Mathlib.Decide.{dec_le}
use native.Mathlib.Numerals.{add-one}
use native.Mathlib.Nat.{lt_of_le_of_lt, div-le_of_le-mul}
use lib.Dec.{lit<}
use lib.ListN.{length, get_or, set, drop, length-set}
use lib.Seq.{get_or-set_same, drop-set-lt}
use borrow.Author.Tests.{le-leb, lt-leb}
use Rattle.chain.specs.Lists.{tabulate, sum_to}
use Rattle.chain.specs.Job.{Job, Valid, tasks, processors, last, speed_of, total_weight, total_speed, at}
use Rattle.chain.specs.Heuristic.{nearest, heuristic}
use Rattle.chain.proofs.Parts.{Proper, valid_proper, weight_all}
use Rattle.chain.proofs.Indices.{table_of}
use Rattle.chain.proofs.Ideal.{total_speed_is}
use Rattle.chain.proofs.Heuristic.{nearest-le, nearest_first, nearest_grows, heuristic-at, heuristic_end, heuristic_count}
use Rattle.chain.proofs.Ranges.{speeds_to_limit, index_fits, total_speed_positive, total_speed_fits, heuristic_products}
use Rattle.parts.specs.Prefix.{Prefix, Ready}
use Rattle.parts.specs.Rising.{Rising, LastAtMost}
use Rattle.parts.proofs.Front.{Front, front_store, front_end}
use Rattle.parts.proofs.Laws.{speed_read, prefix_fits}
use Rattle.heuristic.specs.Target.{first_at_least, FirstAbove, nearest_in, PastFrom, nearest_to, Target, NonePast, FirstPast}
use Rattle.heuristic.proofs.Nearest.{smallest_unique, sum_of_behind, first_past_is, nearest_hinted, past_from, target_of, nearest_to_target, target_grows, target_most, none_first, none_more}

-- The sum of the speeds of the first p processors.
pub record SpeedTo (job : Job) (p total : ℕ) : Type 0 where
  pub to : p ≤ processors job
  pub total_is : total ≡ sum_to (speed_of job) p

pub speed_start : {job : Job} → SpeedTo job 0 0
unfolding sum_to
speed_start = record { to = omega arith; total_is = refl }

-- A turn adds the speed of processor p.
pub speed_fits : {job : Job} {p total e : ℕ} → Valid job → SpeedTo job p total → p < processors job → e ≡ get_or job.speeds p 0 → total + e < 2 ^ 64
unfolding sum_to
speed_fits {job} {p} v w h x =
    omega (arith, w.total_is, speed_read job p h, speeds_to_limit v (suc p) h, total_speed_fits)

pub speed_turn : {job : Job} {p total e : ℕ} → SpeedTo job p total → p < processors job → e ≡ get_or job.speeds p 0 → SpeedTo job (p + 1) (total + e)
unfolding sum_to
speed_turn {job} {p} {total} {e} w h x =
    subst (λ (k : ℕ). SpeedTo job k (total + e)) (sym (add-one p))
    (record { to = h; total_is = ap₂ ◌+◌ w.total_is (x ∙ speed_read job p h) })

-- Summed up over all processors it is the speed of all.
pub speed_end : {job : Job} {p total : ℕ} → SpeedTo job p total → processors job ≤ p → total ≡ total_speed job
speed_end {job} {p} w h =
    w.total_is ∙ ap (sum_to (speed_of job)) (let e : p ≡ processors job = omega (arith, w.to) in e) ∙ sym (total_speed_is job)

-- Every entry from a to i is less than the limit.
record Passed (xs : List ℕ) (a b limit i : ℕ) : Type 0 where
  from : a ≤ i
  to : i ≤ b
  less : (k : ℕ) → a ≤ k → k < i → at xs k < limit

-- i is the smallest index whose entry is not, or b.
passed_end : {xs : List ℕ} {a b limit i : ℕ} → Passed xs a b limit i → ((i ≡ b) ⊎ (limit ≤ at xs i)) → i ≡ first_at_least xs a b limit
unfolding first_at_least
passed_end {xs} {a} {b} {limit} {i} w f =
    smallest_unique
    (record {
      from = w.from;
      to = omega (arith, w.from, w.to);
      found = elim f [ inl e ↦ inl (omega (arith, w.from, w.to)) | inr e ↦ inr (le-leb limit (at xs i) e) ];
      before = λ k l m. lt-leb limit (at xs k) (w.less k l m);
    })

-- Where the first entry is at least the limit, or there is none, it is a.
pub level_first : (xs : List ℕ) {a b limit : ℕ} → a ≤ b → ((a ≡ b) ⊎ (limit ≤ at xs a)) → a ≡ first_at_least xs a b limit
level_first xs h f =
    passed_end (record { from = omega arith; to = h; less = λ k l m. absurd (let z : ⊥ = omega arith in z) }) f

-- Where the prefix sum before b is less, so is every one before it: it is b.
pub level_all : {xs : List ℕ} {a b limit : ℕ} → Rising xs b → a < b → at xs (b - 1) < limit → b ≡ first_at_least xs a b limit
level_all {xs} {a} {b} {limit} w h e =
    passed_end
    (record { from = omega arith; to = omega arith; less = λ i l m. omega (arith, w.up i (b - 1) (omega arith) (omega arith)) })
    (inl refl)

-- Else it is the index after the last less than the limit.
pub level_after : {xs : List ℕ} {a b limit r : ℕ} → Rising xs b → a < b → at xs a < limit → limit ≤ at xs (b - 1)
    → LastAtMost xs a (b - 1) (limit - 1) r → r + 1 ≡ first_at_least xs a b limit
level_after {xs} {a} {b} {limit} {r} p g l m w =
    passed_end
    (record {
      from = omega (arith, w.from);
      to = omega arith;
      less = λ k x y. omega (arith, p.up k r (omega arith) (omega (arith, w.to)), w.below);
    })
    (inr (subst (λ (i : ℕ). limit ≤ at xs i) (sym (add-one r)) (omega (arith, w.above short))))
  where
    short : r < b - 1
    short =
        elim (dec_le (b - 1) r) [
          | yes x ↦
              absurd
              (let e : r ≡ b - 1 = omega (arith, w.to) in
              let y : at xs (b - 1) ≤ limit - 1 = subst (λ (i : ℕ). at xs i ≤ limit - 1) e w.below in
              let z : ⊥ = omega arith in
              z)
          | no x ↦ omega arith
        ]

-- The search for the first index past a target: its cap fits, it begins at most there, and it finds that index.
module _ {job : Job} {xs : List ℕ} {total target : ℕ} (ready : Ready job xs) (t : Target job total target) where
  pub cap_fits : target / total < 2 ^ 32
  cap_fits =
      rw t.speed
      (lt_of_le_of_lt (div-le_of_le-mul (total_speed job) (omega (arith, t.most)))
      (subst (λ (n : ℕ). n < 2 ^ 32) (weight_all job) (prefix_fits ready.valid (tasks job))))

  pub total_positive : 1 ≤ total
  total_positive = omega (arith, t.speed, total_speed_positive ready.valid)

  pub start_below : {i : ℕ} → NonePast job target i → at xs (i - 1) ≤ target / total
  start_below {i} b =
      subst (λ (n : ℕ). at xs (i - 1) ≤ target / n) (sym t.speed)
      (sum_of_behind ready (i - 1) (omega (arith, b.to)) (b.before (i - 1) (omega (arith, b.from))))

  pub first_past_of : {i : ℕ} → NonePast job target i → {r : ℕ} → FirstAbove xs i (tasks job) (target / total) r → FirstPast job target r
  first_past_of {i} b {r} w =
      subst (λ (n : ℕ). FirstPast job target n) next
      (first_past_is ready b (subst (λ (n : ℕ). LastAtMost xs (i - 1) (tasks job) (target / n) (r - 1)) t.speed found))
    where
      next : suc (r - 1) ≡ r
      next = omega (arith, b.from, w.from)

      found : LastAtMost xs (i - 1) (tasks job) (target / total) (r - 1)
      found =
          record {
            from = omega (arith, w.from);
            to = omega (arith, w.to, w.from, b.from);
            below = w.below;
            above = λ h. subst (λ (n : ℕ). target / total < at xs n) (sym next) (w.above (omega (arith, next)));
          }

-- The heuristic's separators up to p: the speed so far, the first index not known to be past the target and the nearest index.
pub record Placed (job : Job) (before now : List ℕ) (total weight p speed past s : ℕ) : Type 0 where
  pub room : processors job < length before
  pub total_is : total ≡ total_speed job
  pub weight_is : weight ≡ total_weight job
  pub to : p ≤ last job
  pub speeds : SpeedTo job p speed
  pub behind : NonePast job (target_of job p) past
  pub near : s ≡ nearest job p
  pub narrow : s < 2 ^ 32
  pub front : Front (at (heuristic job)) (suc p) before now

pub placed_start : {job : Job} {sums : List ℕ} (xs : List ℕ) {total weight : ℕ} → Prefix job sums → processors job < length xs → total ≡ total_speed job
    → weight ≡ at sums (tasks job) → Placed job (set xs 0 0) (set xs 0 0) total weight 0 0 1 0
unfolding heuristic
placed_start {job} {sums} xs r h x y =
    record {
      room = omega (arith, length-set xs 0 0);
      total_is = x;
      weight_is = y ∙ r.sums (tasks job) (omega arith) ∙ weight_all job;
      to = omega arith;
      speeds = speed_start;
      behind = none_first job (target_of job 0);
      near = sym (nearest_first job);
      narrow = lit< tt;
      front = record { same = refl; done = first; rest = λ k l. refl };
    }
  where
    first : (k : ℕ) → k < 1 → get_or (set xs 0 0) k 0 ≡ at (heuristic job) k
    first k l =
        subst (λ (i : ℕ). get_or (set xs 0 0) i 0 ≡ at (heuristic job) i) (let e : 0 ≡ k = omega arith in e)
        (get_or-set_same xs 0 0 0 (omega arith))

-- A turn: the next target, what its callees ask, and what they give.
module _ {job : Job} {xs ys : List ℕ} {total weight p speed past s e : ℕ} (v : Valid job) (w : Placed job xs ys total weight p speed past s)
    (h : p < last job) (x : e ≡ get_or job.speeds p 0)
  where
    next : SpeedTo job (p + 1) (speed + e)
    next = speed_turn w.speeds (omega arith) x

    pub placed_aim : weight * (speed + e) ≡ target_of job (suc p)
    placed_aim = ap₂ ◌*◌ w.weight_is (next.total_is ∙ ap (sum_to (speed_of job)) (add-one p))

    pub placed_fits : weight * (speed + e) < 2 ^ 64
    placed_fits = subst (λ (n : ℕ). n < 2 ^ 64) (sym placed_aim) (heuristic_products v 0 (suc p) (omega arith)).1

    pub placed_target : Target job total (weight * (speed + e))
    placed_target =
        record { speed = w.total_is; most = subst (λ (n : ℕ). n ≤ total_weight job * total_speed job) (sym placed_aim) (target_most job (suc p) (omega arith)) }

    pub placed_behind : NonePast job (weight * (speed + e)) past
    placed_behind =
        subst (λ (n : ℕ). NonePast job n past) (sym placed_aim) (none_more job (target_grows job p (suc p) (omega arith)) w.behind)

    placed_near : s ≤ nearest_to job (weight * (speed + e))
    placed_near =
        subst (λ (n : ℕ). s ≤ nearest_to job n) (sym placed_aim)
        (omega (arith, w.near, nearest_grows job p (suc p) (omega arith), nearest_to_target job (suc p)))

    -- The search for the nearest index, over the prefix sums.
    module _ {sums : List ℕ} (ready : Ready job sums) where
      pub placed_products : at sums (tasks job) * total < 2 ^ 64
      placed_products =
          subst (λ (n : ℕ). at sums (tasks job) * n < 2 ^ 64) (sym w.total_is)
          (subst (λ (n : ℕ). n * total_speed job < 2 ^ 64) (sym (ready.prefix.sums (tasks job) (omega arith))) (heuristic_products v (tasks job) 0 (omega arith)).0)

      pub placed_past : {r : ℕ} → FirstPast job (weight * (speed + e)) r → PastFrom sums total (weight * (speed + e)) s (tasks job) r
      placed_past {r} f = subst (λ (n : ℕ). PastFrom sums n (weight * (speed + e)) s (tasks job) r) (sym w.total_is) (past_from ready f placed_near)

      pub placed_found : {q : ℕ} → q ≡ nearest_in sums total (weight * (speed + e)) s (tasks job) → q ≡ nearest_to job (weight * (speed + e))
      placed_found y = y ∙ ap (λ (n : ℕ). nearest_in sums n (weight * (speed + e)) s (tasks job)) w.total_is ∙ nearest_hinted ready (weight * (speed + e)) s placed_near

    module _ {r q : ℕ} (f : FirstPast job (weight * (speed + e)) r) (y : q ≡ nearest_to job (weight * (speed + e))) where
      nearest_next : q ≡ nearest job (suc p)
      nearest_next = y ∙ ap (nearest_to job) placed_aim ∙ sym (nearest_to_target job (suc p))

      pub placed_narrow : q < 2 ^ 32
      placed_narrow = index_fits v (omega (arith, nearest_next, nearest-le job (suc p)))

      pub placed_turn : Placed job xs (set ys (p + 1) q) total weight (p + 1) (speed + e) r q
      placed_turn =
          subst (λ (k : ℕ). SpeedTo job k (speed + e) → Placed job xs (set ys k q) total weight k (speed + e) r q) (sym (add-one p))
          (λ n.
          record {
            room = w.room;
            total_is = w.total_is;
            weight_is = w.weight_is;
            to = h;
            speeds = n;
            behind = subst (λ (t : ℕ). NonePast job t r) placed_aim f.behind;
            near = nearest_next;
            narrow = placed_narrow;
            front = front_store q w.front (omega (arith, w.room)) (nearest_next ∙ sym (heuristic-at job (suc p) h));
          }) next

-- The end: N behind the last of them.
pub placed_end : {job : Job} (xs : List ℕ) {ys : List ℕ} {total weight p speed past s : ℕ} → Valid job → processors job < length xs
    → Placed job (set xs 0 0) ys total weight p speed past s → last job ≤ p
    → set ys (last job + 1) (tasks job) ≡ heuristic job ++ drop (suc (processors job)) xs
placed_end {job} xs {ys} {total} {weight} {p} {speed} {past} {s} v room w h =
    front_end whole (omega (arith, length-set xs 0 0))
    ∙ ap₂ ◌++◌ table (drop-set-lt (suc (processors job)) xs 0 0 (omega arith))
  where
    ok : Proper job
    ok = valid_proper v

    whole : Front (at (heuristic job)) (suc (processors job)) (set xs 0 0) (set ys (last job + 1) (tasks job))
    whole =
        subst (λ (k : ℕ). Front (at (heuristic job)) (suc (processors job)) (set xs 0 0) (set ys k (tasks job)))
        (let e : processors job ≡ last job + 1 = omega (arith, ok.some) in e)
        (front_store (tasks job)
        (subst (λ (k : ℕ). Front (at (heuristic job)) k (set xs 0 0) ys)
        (let e : suc p ≡ processors job = omega (arith, w.to, ok.some) in e) w.front) w.room (sym (heuristic_end ok)))

    length_is : length (heuristic job) ≡ suc (processors job)
    length_is = heuristic_count ok

    table : tabulate (at (heuristic job)) (suc (processors job)) ≡ heuristic job
    table = table_of (heuristic job) length_is
