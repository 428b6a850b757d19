-- The smallest index nearest to a target: it is the first index past the target, or the smallest index with the same prefix
-- sum as the one before that. And searches find one index only.
-- Assumes nothing.
use Prim.Native.Nat.{ℕ, suc, ◌+◌, ◌-◌, ◌*◌, ◌/◌, ◌≤◌, ◌<◌}
use mathlib.Core.Path.{◌≡◌, refl, sym, ap, subst, ◌∙◌}
use mathlib.Core.Bool.{Bool, true, false}
use mathlib.Core.List.{List}
use mathlib.Core.Logic.{inl, inr}
use native.Mathlib.Omega.{arith}
use native.Mathlib.Decide.{dec_le}
use native.Mathlib.Nat.{lt_of_mul-lt-mul_right, mul-le-mul_left, mul-le-mul_right, mul-lt-mul_of_pos_right, le-div_iff_mul-le, div-lt_iff_lt-mul}
use lib.Dec.{leb}
use borrow.Author.Tests.{lt-leb, leb-true, leb-false}
use Rattle.chain.specs.Lists.{sum_to, smallest_from, smallest_least, distance}
use Rattle.chain.specs.Job.{Job, tasks, processors, speed_of, part_weight, total_weight, total_speed, at}
use Rattle.chain.specs.Heuristic.{miss, nearest}
use Rattle.chain.proofs.Parts.{weight_split, weight_empty}
use Rattle.chain.proofs.Indices.{Smallest, smallest_is, SmallestLeast, smallest_least_is}
use Rattle.chain.proofs.Ideal.{total_speed_is}
use Rattle.chain.proofs.Sums.{sum_grows}
use Rattle.chain.proofs.Ranges.{total_speed_positive}
use Rattle.parts.specs.Prefix.{Ready}
use Rattle.parts.specs.Rising.{Rising, LastAtMost}
use Rattle.parts.proofs.Laws.{prefix_grows}
use Rattle.heuristic.specs.Target.{first_at_least, off_in, nearest_in, PastFrom, Nearer, off, nearest_to, NonePast, FirstPast}

-- There is only one smallest index at which a test holds,
pub smallest_one : {f : ℕ → Bool} {a d r q : ℕ} → Smallest f a d r → Smallest f a d q → r ≤ q
smallest_one {f} {a} {d} {r} {q} x y = elim (dec_le r q) [ yes h ↦ h | no h ↦ absurd (elim y.found [ inl e ↦ omega (arith, x.to) | inr e ↦ wrong e (omega arith) ]) ]
  where
    wrong : f q ≡ true → q < r → ⊥
    wrong e h = let k : f q ≡ false = x.before q y.from h in let z : ◌≡◌ {A = ℕ} 0 1 = cc in omega arith

pub smallest_unique : {f : ℕ → Bool} {a d r : ℕ} → Smallest f a d r → r ≡ smallest_from f a d
smallest_unique {f} {a} {d} x = omega (arith, smallest_one x (smallest_is f a d), smallest_one (smallest_is f a d) x)

-- and only one smallest index at which a function is least.
pub smallest_least_unique : {f : ℕ → ℕ} {n r : ℕ} → SmallestLeast f n r → r ≡ smallest_least f n
smallest_least_unique {f} {n} {r} x =
    elim (dec_le (suc r) q) [
      | yes h ↦ absurd (let z : ⊥ = omega (arith, y.before r h, x.least q y.to) in z)
      | no h ↦ elim (dec_le (suc q) r) [ yes m ↦ absurd (let z : ⊥ = omega (arith, x.before q m, y.least r x.to) in z) | no m ↦ omega arith ]
    ]
  where
    q : ℕ
    q = smallest_least f n

    y : SmallestLeast f n q
    y = smallest_least_is f n

-- Of two numbers on one side of the target the one between is nearer.
below : (a b t : ℕ) → a ≤ b → b ≤ t → distance b t ≤ distance a t
below a b t h k = omega arith

below_strictly : (a b t : ℕ) → a < b → b ≤ t → distance b t < distance a t
below_strictly a b t h k = omega arith

above : (a b t : ℕ) → t ≤ a → a ≤ b → distance a t ≤ distance b t
above a b t h k = omega arith

-- A function that grows up to n, a target t and the first index g past it: the smallest nearest index from s to n, counted from s.
module _ (x : ℕ → ℕ) (s n t g : ℕ) (up : (i j : ℕ) → i ≤ j → j ≤ n → x i ≤ x j) (from : 1 ≤ g) (to : g ≤ suc n) (behind : x (g - 1) ≤ t)
    (past : g ≤ n → t < x g)
  where
    before : (k : ℕ) → k < g → distance (x (g - 1)) t ≤ distance (x k) t
    before k l = below (x k) (x (g - 1)) t (up k (g - 1) (omega arith) (omega arith)) behind

    after : (k : ℕ) → g ≤ k → k ≤ n → distance (x g) t ≤ distance (x k) t
    after k l m = above (x g) (x k) t (omega (arith, past (omega arith))) (up g k l m)

    -- Where it is nearer than the index before it, it is that index.
    high_least : s ≤ g → g ≤ n → distance (x g) t < distance (x (g - 1)) t → SmallestLeast (λ d. distance (x (s + d)) t) (n - s) (g - s)
    high_least l h nearer =
        record {
          to = omega arith;
          least = λ k m. subst (λ (i : ℕ). distance (x i) t ≤ distance (x (s + k)) t) here (elim (dec_le g (s + k)) [ yes q ↦ after (s + k) q (omega arith) | no q ↦ omega (arith, before (s + k) (omega arith)) ]);
          before = λ k m. subst (λ (i : ℕ). distance (x i) t < distance (x (s + k)) t) here (omega (arith, before (s + k) (omega arith)));
        }
      where
        here : g ≡ s + (g - s)
        here = omega arith

    -- Where it is not, that is the smallest index with the value of the index before it.
    low_least : (g ≤ n → distance (x (g - 1)) t ≤ distance (x g) t) → (r : ℕ) → s ≤ r → r ≤ g - 1 → x r ≡ x (g - 1)
        → ((k : ℕ) → s ≤ k → k < r → x k < x r) → SmallestLeast (λ d. distance (x (s + d)) t) (n - s) (r - s)
    low_least near r h l e less =
        record {
          to = omega arith;
          least = λ k i. subst (λ (j : ℕ). distance (x j) t ≤ distance (x (s + k)) t) here (least (s + k) (omega arith));
          before = λ k i. subst (λ (j : ℕ). distance (x j) t < distance (x (s + k)) t) here (below_strictly (x (s + k)) (x r) t (less (s + k) (omega arith) (omega arith)) (omega arith));
        }
      where
        here : r ≡ s + (r - s)
        here = omega arith

        least : (k : ℕ) → k ≤ n → distance (x r) t ≤ distance (x k) t
        least k i =
            subst (λ (v : ℕ). distance v t ≤ distance (x k) t) (sym e)
            (elim (dec_le g k) [ yes j ↦ omega (arith, near (omega arith), after k j i) | no j ↦ before k (omega arith) ])

-- The same in a list whose entries grow up to n.
module _ {xs : List ℕ} {factor target s n g : ℕ} (rising : Rising xs n) (some : 1 ≤ factor) (p : PastFrom xs factor target s n g) where
  abbrev times : ℕ → ℕ
  times i = at xs i * factor

  times_grows : (i j : ℕ) → i ≤ j → j ≤ n → times i ≤ times j
  times_grows i j h k = mul-le-mul_right factor (rising.up i j h k)

  -- The first index past the target, where it is nearer than the one before it.
  pub in_high : g ≤ n → off_in xs factor target g < off_in xs factor target (g - 1) → g ≡ nearest_in xs factor target s n
  unfolding nearest_in
  in_high h nearer =
      let l : SmallestLeast (λ d. off_in xs factor target (s + d)) (n - s) (g - s) =
      high_least times s n target g times_grows p.past.some p.past.to p.past.below p.past.above p.from h nearer
      in
      omega (arith, smallest_least_unique l, p.from)

  -- Where the one before it is as near, the search starts before it,
  pub in_before : (g ≤ n → off_in xs factor target (g - 1) ≤ off_in xs factor target g) → s ≤ g - 1
  in_before near =
      elim (dec_le g s) [
        | yes h ↦ absurd (let q = p.nearer h in let z : ⊥ = omega (arith, q.1, near q.0) in z)
        | no h ↦ omega (arith, p.past.some)
      ]

  -- and it is the smallest index with the entry of the one before it.
  pub in_low : (g ≤ n → off_in xs factor target (g - 1) ≤ off_in xs factor target g) → first_at_least xs s (g - 1) (at xs (g - 1)) ≡ nearest_in xs factor target s n
  unfolding first_at_least nearest_in
  in_low near = go (smallest_from f s (g - 1 - s)) (smallest_is f s (g - 1 - s))
    where
      f : ℕ → Bool
      f k = leb (at xs (g - 1)) (at xs k)

      go : (q : ℕ) → Smallest f s (g - 1 - s) q → q ≡ s + smallest_least (λ d. off_in xs factor target (s + d)) (n - s)
      go q y =
          let l : SmallestLeast (λ d. off_in xs factor target (s + d)) (n - s) (q - s) =
          low_least times s n target g times_grows p.past.some p.past.to p.past.below p.past.above near q y.from within (ap (λ (w : ℕ). w * factor) same) less
          in
          omega (arith, smallest_least_unique l, y.from)
        where
          within : q ≤ g - 1
          within = omega (arith, y.to, in_before near)

          least : at xs (g - 1) ≤ at xs q
          least =
              elim y.found [
                | inl e ↦ subst (λ (k : ℕ). at xs (g - 1) ≤ at xs k) (let z : g - 1 ≡ q = omega (arith, in_before near) in z) (omega arith)
                | inr e ↦ leb-true (at xs (g - 1)) (at xs q) e
              ]

          same : at xs q ≡ at xs (g - 1)
          same = omega (arith, least, rising.up q (g - 1) within (omega (arith, p.past.to)))

          less : (k : ℕ) → s ≤ k → k < q → times k < times q
          less k i j = mul-lt-mul_of_pos_right (omega (arith, leb-false (at xs (g - 1)) (at xs k) (y.before k i j), same)) some

  -- The entry before is less.
  step : g ≤ n → at xs (g - 1) < at xs g
  step h = lt_of_mul-lt-mul_right factor (omega (arith, p.past.below, p.past.above h))

  -- The nearer of the two is in range, and the smallest index with its entry is the smallest nearest.
  pub nearer_in : {r : ℕ} → Nearer xs factor target n g r → (s ≤ r) × (r ≤ n)
  nearer_in (inl (e, h, l)) = (omega (arith, p.from), omega arith)
  nearer_in (inr (e, near)) = (omega (arith, in_before near), omega (arith, p.past.to))

  pub nearer_found : {r q : ℕ} → Nearer xs factor target n g r → q ≡ first_at_least xs s r (at xs r) → q ≡ nearest_in xs factor target s n
  unfolding first_at_least
  nearer_found {r} {q} (inl (e, h, l)) f =
      f ∙ ap (λ (i : ℕ). first_at_least xs s i (at xs i)) e ∙ sym (smallest_unique alone) ∙ in_high h l
    where
      alone : Smallest (λ i. leb (at xs g) (at xs i)) s (g - s) g
      alone =
          record {
            from = p.from;
            to = omega (arith, p.from);
            found = inl (omega (arith, p.from));
            before = λ k i j. lt-leb (at xs g) (at xs k) (omega (arith, rising.up k (g - 1) (omega arith) (omega (arith, p.past.to)), step h));
          }
  nearer_found {r} {q} (inr (e, near)) f = f ∙ ap (λ (i : ℕ). first_at_least xs s i (at xs i)) e ∙ in_low near

module _ (job : Job) where
  -- What the first tasks weigh, times all speed.
  abbrev scaled : ℕ → ℕ
  scaled i = part_weight job 0 i * total_speed job

  scaled_grows : (i j : ℕ) → i ≤ j → scaled i ≤ scaled j
  scaled_grows i j h =
      mul-le-mul_right (total_speed job) (omega (arith, weight_split job 0 i j (omega arith) h))

  nearest_to_is : (target : ℕ) → SmallestLeast (off job target) (tasks job) (nearest_to job target)
  unfolding nearest_to
  nearest_to_is target = smallest_least_is (off job target) (tasks job)

  -- The target of the first p processors.
  abbrev pub target_of : ℕ → ℕ
  target_of p = total_weight job * sum_to (speed_of job) p

  pub nearest_to_target : (p : ℕ) → nearest job p ≡ nearest_to job (target_of p)
  unfolding nearest miss nearest_to
  nearest_to_target p = refl

  pub target_grows : (p q : ℕ) → p ≤ q → target_of p ≤ target_of q
  target_grows p q h = mul-le-mul_left (total_weight job) (sum_grows (speed_of job) p q h)

  pub target_most : (p : ℕ) → p ≤ processors job → target_of p ≤ total_weight job * total_speed job
  target_most p h = rw (total_speed_is job) (target_grows p (processors job) h)

  -- At first no index is past the target, and none that was passed before a greater one.
  pub none_first : (target : ℕ) → NonePast job target 1
  none_first target =
      record {
        from = omega arith;
        to = omega arith;
        before = λ k h. rw (let e : k ≡ 0 = omega arith in e, weight_empty job 0) (omega arith);
      }

  pub none_more : {t u i : ℕ} → t ≤ u → NonePast job t i → NonePast job u i
  none_more h b = record { from = b.from; to = b.to; before = λ k l. omega (arith, b.before k l) }

module _ {job : Job} {xs : List ℕ} (r : Ready job xs) where
  speed_positive : 0 < total_speed job
  speed_positive = total_speed_positive r.valid

  -- An index is not past the target where its prefix sum is at most the target over all speed.
  pub sum_of_behind : {target : ℕ} (i : ℕ) → i ≤ tasks job → part_weight job 0 i * total_speed job ≤ target → at xs i ≤ target / total_speed job
  sum_of_behind {target} i h e =
      subst (λ (n : ℕ). n ≤ target / total_speed job) (sym (r.prefix.sums i h)) ((le-div_iff_mul-le speed_positive).1 e)

  -- The index after the last such one is the first past the target.
  pub first_past_is : {target i q : ℕ} → NonePast job target i → LastAtMost xs (i - 1) (tasks job) (target / total_speed job) q → FirstPast job target (suc q)
  first_past_is {target} {i} {q} b w =
      record { behind = record { from = omega arith; to = omega (arith, w.to); before = before }; past = past }
    where
      before : (k : ℕ) → k < suc q → part_weight job 0 k * total_speed job ≤ target
      before k h =
          (le-div_iff_mul-le speed_positive).0
          (omega (arith, r.prefix.sums k (omega (arith, w.to)), prefix_grows r.prefix k q (omega arith) w.to, w.below))

      past : suc q ≤ tasks job → target < part_weight job 0 (suc q) * total_speed job
      past h = (div-lt_iff_lt-mul speed_positive).0 (omega (arith, r.prefix.sums (suc q) h, w.above h))

  module _ {target g : ℕ} (p : FirstPast job target g) where
    -- Where the index before the first past the target is as near, the nearest is not past that.
    nearest_before : (g ≤ tasks job → off job target (g - 1) ≤ off job target g) → nearest_to job target ≤ g - 1
    nearest_before near =
        elim (dec_le m (g - 1)) [ yes l ↦ l | no l ↦ absurd (wrong (omega (arith, p.behind.from)) (nearest_to_is job target).to) ]
      where
        m : ℕ
        m = nearest_to job target

        wrong : g ≤ m → m ≤ tasks job → ⊥
        wrong h k =
            omega (
              arith,
              (nearest_to_is job target).before (g - 1) (omega (arith, p.behind.from)),
              near (omega arith),
              above (scaled job g) (scaled job m) target (omega (arith, p.past (omega arith))) (scaled_grows job g m h),
            )

  -- A sum times all speed.
  sum_is : (i : ℕ) → i ≤ tasks job → at xs i * total_speed job ≡ scaled job i
  sum_is i h = ap (λ (w : ℕ). w * total_speed job) (r.prefix.sums i h)

  off_is : (target i : ℕ) → i ≤ tasks job → off_in xs (total_speed job) target i ≡ off job target i
  off_is target i h = ap (λ (w : ℕ). distance w target) (sum_is i h)

  -- Searched from an index on that is not past the nearest, the nearest is found.
  pub nearest_hinted : (target s : ℕ) → s ≤ nearest_to job target → nearest_in xs (total_speed job) target s (tasks job) ≡ nearest_to job target
  unfolding nearest_in
  nearest_hinted target s h =
      let y = nearest_to_is job target in
      let l : SmallestLeast (λ d. off_in xs (total_speed job) target (s + d)) (tasks job - s) (m - s) =
      record {
        to = omega (arith, y.to);
        least = λ k i. rw (here, off_is target (s + k) (omega arith)) (y.least (s + k) (omega arith));
        before = λ k i. rw (here, off_is target (s + k) (omega (arith, y.to))) (y.before (s + k) (omega arith));
      }
      in
      omega (arith, smallest_least_unique l, y.to)
    where
      m : ℕ
      m = nearest_to job target

      here : off_in xs (total_speed job) target (s + (m - s)) ≡ off job target m
      here = ap (off_in xs (total_speed job) target) (let e : s + (m - s) ≡ m = omega arith in e) ∙ off_is target m (nearest_to_is job target).to

  -- What the search asks.
  pub past_from : {target g s : ℕ} → FirstPast job target g → s ≤ nearest_to job target → PastFrom xs (total_speed job) target s (tasks job) g
  past_from {target} {g} {s} p h =
      record {
        past =
            record {
              some = p.behind.from;
              to = p.behind.to;
              below = omega (arith, sum_is (g - 1) (omega (arith, p.behind.to, p.behind.from)), p.behind.before (g - 1) (omega (arith, p.behind.from)));
              above = λ l. omega (arith, sum_is g l, p.past l);
            };
        from = omega (arith, nearest_to_lem);
        nearer = λ l.
            let k : g ≤ tasks job = omega (arith, (nearest_to_is job target).to) in
            (k, rw (off_is target g k, off_is target (g - 1) (omega arith)) (nearer l));
      }
    where
      nearest_to_lem : nearest_to job target ≤ g
      nearest_to_lem =
          elim (dec_le (nearest_to job target) g) [
            | yes k ↦ k
            | no k ↦
                let y = nearest_to_is job target in
                absurd
                (let z : ⊥ = omega (
                  arith,
                  y.before g (omega arith),
                  above (scaled job g) (scaled job (nearest_to job target)) target (omega (arith, p.past (omega (arith, y.to))))
                      (scaled_grows job g (nearest_to job target) (omega arith)),
                ) in
                z)
          ]

      nearer : g ≤ s → off job target g < off job target (g - 1)
      nearer l =
          elim (dec_le (off job target (g - 1)) (off job target g)) [
            | yes k ↦ absurd (let z : ⊥ = omega (arith, nearest_before p (λ i. k), p.behind.from) in z)
            | no k ↦ omega arith
          ]
