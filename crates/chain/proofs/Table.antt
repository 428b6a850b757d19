-- The table holds what it should: each value is the least over every last part, and is at most a bound exactly when the
-- first processors can take the tasks within it. The crossings grow, so the pointer's moves are the crossings at the end.
-- Assumes nothing.
use Prim.Native.Nat.{ℕ, zero, suc, ◌-◌, ◌≤◌, ◌<◌}
use mathlib.Core.Path.{◌≡◌, refl, sym, ap, ap₂, subst, ◌∙◌}
use mathlib.Core.Bool.{Bool, true, false, cond}
use mathlib.Core.Logic.{◌≢◌, inl, inr}
use native.Mathlib.Omega.{arith}
use native.Mathlib.Decide.{dec_le, ℕ_discrete}
use lib.Dec.{T, ltb}
use borrow.Author.Tests.{lt-ltb, le-ltb, eq-eqb, ne_eqb}
use Rattle.bound.specs.declared.Bound.{Bound}
use Rattle.bound.specs.Order.{le, ◌≼◌, ◌≺◌, pick, greater, lesser, Real, Finite}
use Rattle.bound.proofs.Order.{finite_or_not, le_speedless, le_refl, le_trans, lt-le, lt-le_trans, not_both, le_true, true_le, false_lt, greater_cases, greater_left, greater_right, greater_first, greater_second, greater-le, le-greater_left, le-greater_right, lesser_cases, lesser_left, lesser_right}
use Rattle.chain.specs.Lists.{sum_to}
use Rattle.chain.specs.Job.{Edition, Job, tasks, last, hold_of, keeps, offer}
use Rattle.chain.specs.Dynamic.{start_of, candidate, crossing_of, lesser_at, table_value, crossing, moves_to, moves}
use Rattle.chain.specs.Plan.{allowance}
use Rattle.chain.specs.declared.Method.TheVariants.{Table}
use Rattle.chain.proofs.Sums.{sum_same, sum-le}
use Rattle.chain.proofs.Indices.{Smallest, smallest_is}
use Rattle.chain.proofs.Parts.{Proper}
use Rattle.chain.proofs.Within.{keeps_cases, keeps_unlimited, keeps-limited, offer_cases, within-offer, offer-within, offer_empty, offer_right, offer_left, offer_real}
use Rattle.chain.proofs.Cover.{Cover}
use Rattle.chain.proofs.CoverLaws.{cover_down}

-- A row that grows against parts that fall, the last of which is at most everything.
record Against (f g : ℕ → Bound) (i : ℕ) : Type 0 where
  grows : (j k : ℕ) → j ≤ k → f j ≼ f k
  falls : (j k : ℕ) → j ≤ k → k ≤ i → g k ≼ g j
  ends : (B : Bound) → g i ≼ B
  row_real : (j : ℕ) → Real (f j)
  part_is_real : (j : ℕ) → Real (g j)

-- The lesser at the crossing and before it is one of the two, and at most each.
module _ (h : ℕ → Bound) (a c : ℕ) where
  lesser-at_cases : (Q : Bound → Type 0) → ((j : ℕ) → j ≤ c → Q (h j)) → Q (lesser_at h a c)
  unfolding lesser_at
  lesser-at_cases Q k = go (ltb a c)
    where
      go : (t : Bool) → Q (pick t (lesser (h c) (h (c - 1))) (h c))
      go true = lesser_cases Q (h c) (h (c - 1)) (k c (omega arith)) (k (c - 1) (omega arith))
      go false = k c (omega arith)

  lesser-at_first : c ≤ a → lesser_at h a c ≡ h c
  unfolding lesser_at
  lesser-at_first l = ap (λ (t : Bool). pick t (lesser (h c) (h (c - 1))) (h c)) (le-ltb a c l)

  lesser-at_later : a < c → lesser_at h a c ≡ lesser (h c) (h (c - 1))
  unfolding lesser_at
  lesser-at_later l = ap (λ (t : Bool). pick t (lesser (h c) (h (c - 1))) (h c)) (lt-ltb a c l)

  lesser-at_here : lesser_at h a c ≼ h c
  unfolding lesser_at
  lesser-at_here = go (ltb a c)
    where
      go : (t : Bool) → pick t (lesser (h c) (h (c - 1))) (h c) ≼ h c
      go true = lesser_left (h c) (h (c - 1))
      go false = le_refl (h c)

  lesser-at_before : a < c → lesser_at h a c ≼ h (c - 1)
  lesser-at_before l = subst (λ (B : Bound). B ≼ h (c - 1)) (sym (lesser-at_later l)) (lesser_right (h c) (h (c - 1)))

-- Where j begins: at i or before, further on as i grows; an offer from before it is at least everything.
module _ (job : Job) (p : ℕ) where
  pub start_unlimited : (i : ℕ) → hold_of job p ≡ 0 → start_of job p i ≡ 0
  unfolding start_of
  start_unlimited i e = ap (λ (t : Bool). cond t 0 (i - hold_of job p)) (eq-eqb (hold_of job p) 0 e)

  pub start_limited : (i : ℕ) → hold_of job p ≢ 0 → start_of job p i ≡ i - hold_of job p
  unfolding start_of
  start_limited i n = ap (λ (t : Bool). cond t 0 (i - hold_of job p)) (ne_eqb (hold_of job p) 0 n)

  pub start_le : (i : ℕ) → start_of job p i ≤ i
  start_le i =
      elim (ℕ_discrete (hold_of job p) 0) [ yes e ↦ omega (arith, start_unlimited i e) | no n ↦ omega (arith, start_limited i n) ]

  pub start_grows : (i k : ℕ) → i ≤ k → start_of job p i ≤ start_of job p k
  start_grows i k h =
      elim (ℕ_discrete (hold_of job p) 0) [
        | yes e ↦ omega (arith, start_unlimited i e)
        | no n ↦ omega (arith, start_limited i n, start_limited k n)
      ]

  -- A part keeps the hold exactly where it begins there or further on.
  pub start_keeps : (i j : ℕ) → start_of job p i ≤ j → T (keeps job p j i)
  start_keeps i j h =
      elim (ℕ_discrete (hold_of job p) 0) [
        | yes e ↦ keeps_unlimited job p j i e
        | no n ↦ keeps-limited job p j i (omega (arith, start_limited i n))
      ]

  pub keeps_start : (i j : ℕ) → T (keeps job p j i) → start_of job p i ≤ j
  keeps_start i j t =
      elim (ℕ_discrete (hold_of job p) 0) [
        | yes e ↦ omega (arith, start_unlimited i e)
        | no n ↦ elim (keeps_cases job p j i t) [ inl e ↦ absurd (n e) | inr l ↦ omega (arith, start_limited i n) ]
      ]

  pub before_start : (i j : ℕ) → j < start_of job p i → (B : Bound) → B ≼ offer job p j i
  before_start i j h B =
      offer_cases job (λ C. B ≼ C) p j i (λ t. absurd (let z : ⊥ = omega (arith, keeps_start i j t) in z)) (λ t. le_speedless B refl)

module _ {f g : ℕ → Bound} {i : ℕ} (w : Against f g i) where
  top : ℕ → Bound
  top j = greater (f j) (g j)

  top_real : (j : ℕ) → Real (top j)
  unfolding top
  top_real j = greater_cases Real (f j) (g j) (w.row_real j) (w.part_is_real j)

  -- From the crossing on the row dominates, and grows.
  from_crossing : (c j : ℕ) → g c ≼ f c → c ≤ j → top c ≼ top j
  unfolding top
  from_crossing c j x h =
      le_trans (w.row_real j) (le_trans (w.row_real c) (greater-le (le_refl (f c)) x) (w.grows c j h)) (greater_left (f j) (g j))

  -- Before the crossing the part dominates, and falls.
  before_crossing : (c j : ℕ) → f c ≺ g c → j ≤ c → c ≤ i → top c ≼ top j
  unfolding top
  before_crossing c j x h l =
      le_trans (w.part_is_real j) (le_trans (w.part_is_real c) (greater-le (lt-le x) (le_refl (g c))) (w.falls j c h l))
      (greater_right (f j) (g j))

  at-crossing : (a c : ℕ) → a ≤ i → Smallest (λ j. le (g j) (f j)) a (i - a) c → g c ≼ f c
  at-crossing a c l s =
      elim s.found [ inl e ↦ subst (λ (n : ℕ). g n ≼ f n) (let z : i ≡ c = omega arith in z) (w.ends (f i)) | inr e ↦ true_le e ]

  least_at : (a c : ℕ) → a ≤ i → Smallest (λ j. le (g j) (f j)) a (i - a) c → (j : ℕ) → a ≤ j → j ≤ i → lesser_at top a c ≼ top j
  least_at a c l s j k h =
      elim (dec_le c j) [
        | yes m ↦ le_trans (top_real c) (lesser-at_here top a c) (from_crossing c j (at-crossing a c l s) m)
        | no m ↦
            le_trans (top_real (c - 1)) (lesser-at_before top a c (omega arith))
            (before_crossing (c - 1) j (false_lt (s.before (c - 1) (omega arith) (omega arith))) (omega arith) (omega (arith, s.to)))
      ]

module _ (job : Job) (p i : ℕ) where
  -- The test by which the pointer stops at k.
  abbrev pub stops : ℕ → Bool
  stops k = le (offer job (suc p) k i) (table_value job p k)

  pub crossing_is : Smallest stops (start_of job (suc p) i) (i - start_of job (suc p) i) (crossing job p i)
  unfolding crossing crossing_of
  crossing_is = smallest_is stops (start_of job (suc p) i) (i - start_of job (suc p) i)

  -- It holds at the crossing,
  pub crossing_stops : stops (crossing job p i) ≡ true
  crossing_stops =
      elim crossing_is.found [
        | inl e ↦
            subst (λ (k : ℕ). stops k ≡ true) (let z : i ≡ crossing job p i = omega (arith, start_le job (suc p) i) in z)
            (le_true (offer_empty job (suc p) i (table_value job p i)))
        | inr e ↦ e
      ]

  -- so a pointer at or before the crossing that stops is there,
  pub crossing_here : (k : ℕ) → start_of job (suc p) i ≤ k → k ≤ crossing job p i → stops k ≡ true → k ≡ crossing job p i
  crossing_here k l h e = elim (dec_le (crossing job p i) k) [ yes m ↦ omega arith | no m ↦ before (crossing_is.before k l (omega arith)) ]
    where
      before : stops k ≡ false → k ≡ crossing job p i
      before f = let z : ◌≡◌ {A = ℕ} 0 1 = cc in absurd (let w : ⊥ = omega arith in w)

  -- and one that does not has a move to make.
  pub crossing_past : (k : ℕ) → k ≤ crossing job p i → stops k ≡ false → suc k ≤ crossing job p i
  crossing_past k h e = elim (dec_le (suc k) (crossing job p i)) [ yes m ↦ m | no m ↦ same (let z : crossing job p i ≡ k = omega arith in z) ]
    where
      same : crossing job p i ≡ k → suc k ≤ crossing job p i
      same x =
          let f : stops k ≡ true = subst (λ (n : ℕ). stops n ≡ true) x crossing_stops in
          let z : ◌≡◌ {A = ℕ} 0 1 = cc in
          absurd (let w : ⊥ = omega arith in w)

  -- The value of the next row: at the crossing the row before is the greater, before it the part is.
  pub value_first : crossing job p i ≤ start_of job (suc p) i → table_value job (suc p) i ≡ table_value job p (crossing job p i)
  unfolding table_value crossing candidate
  value_first h =
      lesser-at_first (candidate job (table_value job p) (suc p) i) (start_of job (suc p) i) (crossing job p i) h
      ∙ sym (greater_first (table_value job p (crossing job p i)) (offer job (suc p) (crossing job p i) i) crossing_stops)

  pub value_later : start_of job (suc p) i < crossing job p i
      → table_value job (suc p) i ≡ lesser (table_value job p (crossing job p i)) (offer job (suc p) (crossing job p i - 1) i)
  unfolding table_value crossing candidate
  value_later h =
      let c : ℕ = crossing job p i in
      lesser-at_later (candidate job (table_value job p) (suc p) i) (start_of job (suc p) i) c h
      ∙ sym
      (ap₂ lesser (greater_first (table_value job p c) (offer job (suc p) c i) crossing_stops)
      (greater_second (table_value job p (c - 1)) (offer job (suc p) (c - 1) i) (crossing_is.before (c - 1) (omega arith) (omega arith))))

module _ {job : Job} (ok : Proper job) where
  candidate_real : (p i j : ℕ) → Real (table_value job p j) → Real (candidate job (table_value job p) (suc p) i j)
  unfolding candidate
  candidate_real p i j r = greater_cases Real (table_value job p j) (offer job (suc p) j i) r (offer_real job ok (suc p) j i)

  -- Every value is a real fraction.
  pub table_real : (p i : ℕ) → Real (table_value job p i)
  unfolding table_value
  table_real zero i = offer_real job ok 0 0 i
  table_real (suc p) i =
      lesser-at_cases (candidate job (table_value job p) (suc p) i) (start_of job (suc p) i)
      (crossing_of job (table_value job p) (suc p) i) Real (λ j h. candidate_real p i j (table_real p j))

  -- The crossing is an index up to i.
  pub crossing-le : (p i : ℕ) → crossing job p i ≤ i
  crossing-le p i = omega (arith, (crossing_is job p i).to, start_le job (suc p) i)

  -- The crossing only moves on.
  pub crossing_grows : (p i k : ℕ) → i ≤ k → crossing job p i ≤ crossing job p k
  crossing_grows p i k h = elim (dec_le (crossing job p i) (crossing job p k)) [ yes m ↦ m | no m ↦ absurd (impossible m) ]
    where
      impossible : (crossing job p i ≤ crossing job p k → ⊥) → ⊥
      impossible m =
          let c : ℕ = crossing job p k in
          let l : c < i = omega (arith, crossing-le p i) in
          let x : table_value job p c ≺ offer job (suc p) c i =
          false_lt ((crossing_is job p i).before c (omega (arith, (crossing_is job p k).from, start_grows job (suc p) i k h)) (omega arith)) in
          let y : offer job (suc p) c i ≼ offer job (suc p) c k = offer_right job (suc p) c i k (omega arith) h in
          elim (crossing_is job p k).found [
            | inl e ↦ omega (arith, start_le job (suc p) k)
            | inr e ↦ not_both (lt-le_trans (offer_real job ok (suc p) c k) x y) (true_le e)
          ]

  -- The value is one of the candidates.
  pub table_attained : (p i : ℕ) → (j : ℕ) × (j ≤ i) × (table_value job (suc p) i ≡ candidate job (table_value job p) (suc p) i j)
  unfolding table_value crossing
  table_attained p i =
      lesser-at_cases (candidate job (table_value job p) (suc p) i) (start_of job (suc p) i) (crossing job p i)
      (λ B. (j : ℕ) × (j ≤ i) × (B ≡ candidate job (table_value job p) (suc p) i j)) (λ j h. (j, omega (arith, crossing-le p i), refl))

  -- Once the row before grows, the value is at most every candidate.
  least_from_lem : (p : ℕ) → ((i k : ℕ) → i ≤ k → table_value job p i ≼ table_value job p k) → (i j : ℕ) → j ≤ i
      → table_value job (suc p) i ≼ candidate job (table_value job p) (suc p) i j
  unfolding table_value crossing candidate top
  least_from_lem p up i j h =
      elim (dec_le (start_of job (suc p) i) j) [
        | yes k ↦ least_at against (start_of job (suc p) i) (crossing job p i) (start_le job (suc p) i) (crossing_is job p i) j k h
        | no k ↦
            le_trans (offer_real job ok (suc p) j i) (before_start job (suc p) i j (omega arith) (table_value job (suc p) i))
            (greater_right (table_value job p j) (offer job (suc p) j i))
      ]
    where
      against : Against (table_value job p) (λ j. offer job (suc p) j i) i
      against =
          record {
            grows = up;
            falls = λ j k h l. offer_left job (suc p) j k i h l;
            ends = λ B. offer_empty job (suc p) i B;
            row_real = table_real p;
            part_is_real = λ j. offer_real job ok (suc p) j i;
          }

  -- A row is known by covers: its value is at most B exactly when the first i tasks can go to the processors 0 to p within B.
  abbrev ByCover : ℕ → ℕ → Bound → Type 0
  ByCover p i B = (Finite B → table_value job p i ≼ B → Cover job B (suc p) i) × (Cover job B (suc p) i → table_value job p i ≼ B)

  -- Such a row grows.
  grows_from : (p : ℕ) → ((i : ℕ) (B : Bound) → ByCover p i B) → (i k : ℕ) → i ≤ k → table_value job p i ≼ table_value job p k
  grows_from p row i k h =
      let B : Bound = table_value job p k in
      elim (finite_or_not B) [
        | inl f ↦ (row i B).1 (cover_down job B (suc p) k i ((row k B).0 f (le_refl B)) h)
        | inr e ↦ le_speedless (table_value job p i) e
      ]

  -- After such a row comes another.
  cover_next : (p : ℕ) → ((i : ℕ) (B : Bound) → ByCover p i B) → (i : ℕ) (B : Bound) → ByCover (suc p) i B
  unfolding candidate
  cover_next p row i B = (λ f h. forth f (table_attained p i) h, back)
    where
      forth : Finite B → (j : ℕ) × (j ≤ i) × (table_value job (suc p) i ≡ candidate job (table_value job p) (suc p) i j)
          → table_value job (suc p) i ≼ B → Cover job B (suc (suc p)) i
      forth f (j, l, e) h =
          let a : Bound = table_value job p j in
          let b : Bound = offer job (suc p) j i in
          let r : Real (greater a b) = candidate_real p i j (table_real p j) in
          let k : greater a b ≼ B = subst (λ C. C ≼ B) e h in
          (j, l, (row j B).0 f (le-greater_left a b r k), offer-within job (suc p) j i f (le-greater_right a b r k))

      back : Cover job B (suc (suc p)) i → table_value job (suc p) i ≼ B
      back (j, l, c, t) =
          le_trans (candidate_real p i j (table_real p j)) (least_from_lem p (grows_from p row) i j l)
          (greater-le ((row j B).1 c) (within-offer job (suc p) j i t))

  -- The value is at most B, a number, exactly when the first i tasks can go to the processors 0 to p within B.
  pub table_cover : (p i : ℕ) (B : Bound)
      → (Finite B → table_value job p i ≼ B → Cover job B (suc p) i) × (Cover job B (suc p) i → table_value job p i ≼ B)
  unfolding table_value
  table_cover zero i B = (λ f h. (0, omega arith, refl, offer-within job 0 0 i f h), back)
    where
      back : Cover job B 1 i → offer job 0 0 i ≼ B
      back (j, l, e, t) = subst (λ (n : ℕ). offer job 0 n i ≼ B) e (within-offer job 0 j i t)
  table_cover (suc p) i B = cover_next p (table_cover p) i B

  -- Each row grows with the index.
  pub table_grows : (p i k : ℕ) → i ≤ k → table_value job p i ≼ table_value job p k
  table_grows p i k h = grows_from p (table_cover p) i k h

  -- The value is at most every candidate, so it is the least of them.
  pub table_least : (p i j : ℕ) → j ≤ i → table_value job (suc p) i ≼ candidate job (table_value job p) (suc p) i j
  table_least p i j h = least_from_lem p (table_grows p) i j h

  -- The moves in a row until i are the crossing at i.
  pub moves_to_crossing : (p i : ℕ) → moves_to job p i ≡ crossing job p i
  unfolding moves_to
  moves_to_crossing p zero = refl
  moves_to_crossing p (suc i) = omega (arith, moves_to_crossing p i, crossing_grows p i (suc i) (omega arith))

  -- The moves made are the crossings at the last task, one a row, added up.
  pub moves_are_crossings : moves job ≡ sum_to (λ p. crossing job p (tasks job)) (last job)
  unfolding moves
  moves_are_crossings = sum_same (λ p. moves_to_crossing p (tasks job)) (last job)

  -- The moves made are within the allowance.
  pub moves_allowed : (edition : Edition) → moves job ≤ allowance edition Table job
  unfolding allowance
  moves_allowed edition =
      omega (arith, moves_are_crossings, sum-le (tasks job) (λ p. crossing-le p (tasks job)) (last job))
