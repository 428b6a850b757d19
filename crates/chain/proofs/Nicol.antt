-- Nicol's search: as long as no empty part fits, all the rest on the next processor fits, so every candidate does; and a bound that fits
-- is no less than some candidate. So the least candidate is the least bound that fits, and nought is where an empty part fits.
-- Assumes nothing.
use Prim.Native.Nat.{ℕ, zero, suc, ◌+◌, ◌-◌, ◌≤◌, ◌<◌}
use mathlib.Core.Path.{◌≡◌, refl, sym, ap, subst}
use mathlib.Core.Bool.{Bool, true, false, not}
use mathlib.Core.Logic.{◌⊎◌, inl, inr}
use native.Mathlib.Omega.{arith}
use native.Mathlib.Decide.{dec_le}
use lib.Dec.{T, ltb, T_not, not_T}
use borrow.Author.Tests.{lt-ltb, le-ltb}
use Rattle.bound.specs.declared.Bound.{Bound}
use Rattle.bound.specs.Order.{nought, ◌≼◌, ◌≺◌, ◌≈◌, pick, greater, Real, Finite}
use Rattle.bound.proofs.Order.{finite_real, le_refl, le_trans, le_or_lt, lt-le_trans, not_both, nought-le, greater_cases, greater_left, greater_right, least_cases, least_le}
use Rattle.chain.specs.Lists.{is_first}
use Rattle.chain.specs.Job.{Job, tasks, last, part_bound}
use Rattle.chain.specs.Probe.{separator, fits}
use Rattle.chain.specs.Nicol.{fits_at, first_fit, start_on, candidate_on, least_candidate, empty_fits, Comes}
use Rattle.chain.proofs.Tests.{T_of, T-not-of}
use Rattle.chain.proofs.Parts.{Proper, Plannable, part_empty, part_right, part_finite, part_real}
use Rattle.chain.proofs.Within.{Free, free_keeps, within_of, within_bound, within_empty, within_shrink}
use Rattle.chain.proofs.Indices.{Smallest, smallest_is, first_holds, first_fails}
use Rattle.chain.proofs.Cover.{Cover}
use Rattle.chain.proofs.CoverLaws.{cover_raise}
use Rattle.chain.proofs.Walk.{separator-within, fits_last, cover_fits, fits_raise}
use Rattle.chain.proofs.Enough.{fails_finite, free_plannable}
use Rattle.chain.proofs.Best.{Least}

module _ (job : Job) where
  pub first_fit_is : (p a : ℕ) → Smallest (fits_at job p a) a (tasks job - a) (first_fit job p a)
  unfolding first_fit
  first_fit_is p a = smallest_is (fits_at job p a) a (tasks job - a)

  pub first_fit_to : (p a : ℕ) → a ≤ tasks job → first_fit job p a ≤ tasks job
  first_fit_to p a h = omega (arith, (first_fit_is p a).to)

  -- Every part starts within the tasks.
  pub start_to : (p : ℕ) → start_on job p ≤ tasks job
  unfolding start_on
  start_to zero = omega arith
  start_to (suc p) = omega (arith, first_fit_to p (start_on job p) (start_to p))

  -- The candidates of the processors before the last, and of the last.
  pub candidate_before : (p : ℕ) → p < last job → candidate_on job p ≡ part_bound job p (start_on job p) (first_fit job p (start_on job p))
  unfolding candidate_on
  candidate_before p h =
      ap
      (λ (t : Bool).
      pick t (part_bound job p (start_on job p) (first_fit job p (start_on job p))) (part_bound job p (start_on job p) (tasks job)))
      (lt-ltb p (last job) h)

  pub candidate-last : candidate_on job (last job) ≡ part_bound job (last job) (start_on job (last job)) (tasks job)
  unfolding candidate_on
  candidate-last =
      ap
      (λ (t : Bool).
      pick t (part_bound job (last job) (start_on job (last job)) (first_fit job (last job) (start_on job (last job))))
      (part_bound job (last job) (start_on job (last job)) (tasks job)))
      (le-ltb (last job) (last job) (omega arith))

  -- A property of every part's bound is the candidate's.
  candidate_cases : (Q : Bound → Type 0) (p : ℕ) → ((a b : ℕ) → Q (part_bound job p a b)) → Q (candidate_on job p)
  unfolding candidate_on
  candidate_cases Q p h = go (ltb p (last job))
    where
      go : (t : Bool) → Q (pick t (part_bound job p (start_on job p) (first_fit job p (start_on job p))) (part_bound job p (start_on job p) (tasks job)))
      go true = h (start_on job p) (first_fit job p (start_on job p))
      go false = h (start_on job p) (tasks job)

  pub least_candidate_cases : (Q : Bound → Type 0) → ((p a b : ℕ) → Q (part_bound job p a b)) → Q (least_candidate job)
  unfolding least_candidate
  least_candidate_cases Q h = least_cases Q (candidate_on job) (last job) (λ p l. candidate_cases Q p (h p))

  -- What all tasks can go to, up to processor p, they can go to with more processors.
  cover_on : (B : Bound) (p d : ℕ) → Cover job B (suc p) (tasks job) → Cover job B (suc (p + d)) (tasks job)
  cover_on B p zero c = subst (λ (i : ℕ). Cover job B (suc i) (tasks job)) (let e : p ≡ p + 0 = omega arith in e) c
  cover_on B p (suc d) c =
      subst (λ (i : ℕ). Cover job B (suc i) (tasks job)) (let e : suc (p + d) ≡ p + suc d = omega arith in e)
      (tasks job, omega arith, cover_on B p d c, within_empty job (suc (p + d)) (tasks job) B)

module _ {job : Job} (ok : Proper job) where
  -- What fits at the bound of a part fits at that of a longer one.
  pub fits-at_raise : (p a : ℕ) {i j : ℕ} → a ≤ i → i ≤ j → T (fits_at job p a i) → T (fits_at job p a j)
  unfolding fits_at
  fits-at_raise p a {i} {j} h k t = fits_raise job (part_real job ok p a i) (part_right job p a i j h k) t

  pub fails_at_lower : (p a : ℕ) {i j : ℕ} → a ≤ i → i ≤ j → T (not (fits_at job p a j)) → T (not (fits_at job p a i))
  fails_at_lower p a {i} {j} h k t = not_T (fits_at job p a i) (λ u. T_not (fits_at job p a j) t (fits-at_raise p a h k u))

  candidate_real : (p : ℕ) → Real (candidate_on job p)
  candidate_real p = candidate_cases job Real p (part_real job ok p)

  -- Where one empty part fits, every one does, and nought is the least bound that fits.
  pub empty_any : (p q : ℕ) → T (empty_fits job p) → T (empty_fits job q)
  unfolding empty_fits fits_at
  empty_any p q t =
      fits_raise job (part_real job ok p (start_on job p) (start_on job p))
      (part_empty job p (start_on job p) (part_bound job q (start_on job q) (start_on job q))) t

  pub empty_least : (p : ℕ) → T (empty_fits job p) → Least job nought
  unfolding empty_fits fits_at
  empty_least p t =
      record {
        finite = record { speed_positive = omega arith };
        fitting = fits_raise job (part_real job ok p (start_on job p) (start_on job p)) (part_empty job p (start_on job p) nought) t;
        least = λ C u. nought-le C;
      }

  -- It is then the smallest.
  pub empty_found : (p : ℕ) → T (empty_fits job p) → first_fit job p (start_on job p) ≡ start_on job p
  unfolding empty_fits
  empty_found p t =
      let a : ℕ = start_on job p in
      elim (dec_le (suc a) (first_fit job p a)) [
        | yes x ↦ absurd (T_not (fits_at job p a a) (T-not-of ((first_fit_is job p a).before a (omega arith) x)) t)
        | no x ↦ omega (arith, (first_fit_is job p a).from)
      ]

  -- So the search ends early at the first processor or nowhere.
  pub early_first : (p : ℕ) → T (is_first (empty_fits job) p) → p ≡ 0
  early_first zero t = refl
  early_first (suc p) t =
      absurd
      (T_not (empty_fits job 0) (first_fails (empty_fits job) (suc p) t 0 (omega arith)) (empty_any (suc p) 0 (first_holds (empty_fits job) (suc p) t)))

  -- A bound that fits is no less than some candidate: below those before p its walk is no further than p's start,
  not_past : (C : Bound) (p : ℕ) → p ≤ last job → ((q : ℕ) → q < p → C ≺ candidate_on job q) → separator job C p ≤ start_on job p
  unfolding separator start_on
  not_past C zero l h = omega arith
  not_past C (suc p) l h = step (not_past C p (omega arith) (λ q k. h q (omega arith)))
    where
      a : ℕ
      a = start_on job p

      step : separator job C p ≤ start_on job p → separator job C (suc p) ≤ first_fit job p (start_on job p) - 1
      step m =
          elim (dec_le (separator job C (suc p)) (first_fit job p a - 1)) [
            | yes x ↦ x
            | no x ↦
                absurd
                (not_both (h p (omega arith))
                (subst (λ (D : Bound). D ≼ C) (sym (candidate_before job p l))
                (within_bound job p a (first_fit job p a)
                (within_shrink job p (separator job C p) a (first_fit job p a) (separator job C (suc p)) C m
                (first_fit_is job p a).from (omega arith) (separator-within job C p)))))
          ]

  -- so below all of them the last would be within it.
  pub least_candidate_below : (C : Bound) → T (fits job C) → least_candidate job ≼ C
  unfolding least_candidate
  least_candidate_below C t = elim (le_or_lt (least_candidate job) C) [ inl x ↦ x | inr x ↦ absurd (below x) ]
    where
      below : C ≺ least_candidate job → ⊥
      below x =
          not_both (each (last job) (omega arith))
          (subst (λ (D : Bound). D ≼ C) (sym (candidate-last job))
          (within_bound job (last job) (start_on job (last job)) (tasks job)
          (within_shrink job (last job) (separator job C (last job)) (start_on job (last job)) (tasks job) (tasks job) C
          (not_past C (last job) (omega arith) (λ q k. each q (omega arith))) (start_to job (last job)) (omega arith) (fits_last job C t))))
        where
          each : (p : ℕ) → p ≤ last job → C ≺ candidate_on job p
          each p h = lt-le_trans (candidate_real p) x (least_le (candidate_on job) candidate_real (last job) p h)

-- What comes to a processor comes to those before it.
pub comes_sooner : {job : Job} {p q : ℕ} → q ≤ p → Comes job p → Comes job q
comes_sooner h c = record { none = λ i l. c.none i (omega arith) }

-- A bound no less than M that fails, within which the processors before p can take what they keep.
record Below (job : Job) (M : Bound) (p : ℕ) : Type 0 where
  bound : Bound
  fails : T (not (fits job bound))
  above : M ≼ bound
  covers : Cover job bound p (start_on job p)

module _ {job : Job} (ok : Proper job) (free : Free job) where
  can : Plannable job
  can = free_plannable ok free

  -- All the rest on processor p fits, since a bound that fails would else be enough for all.
  rest_from : (p : ℕ) → p ≤ last job → ((M : Bound) → T (not (fits job M)) → Below job M p) → T (fits_at job p (start_on job p) (tasks job))
  unfolding fits_at
  rest_from p l below = go (fits job B) refl
    where
      B : Bound
      B = part_bound job p (start_on job p) (tasks job)

      enough : Below job B p → ⊥
      enough w =
          T_not (fits job w.bound) w.fails
          (cover_fits job w.bound
          (subst (λ (i : ℕ). Cover job w.bound (suc i) (tasks job)) (let e : p + (last job - p) ≡ last job = omega arith in e)
          (cover_on job w.bound p (last job - p)
          (start_on job p, start_to job p, w.covers, within_of job p (start_on job p) (tasks job) w.above (free_keeps free p (start_on job p) (tasks job))))))

      go : (t : Bool) → fits job B ≡ t → T t
      go true e = tt
      go false e = absurd (enough (below B (T-not-of e)))

  -- Where the empty part fails and all the rest fits, the part that is found has tasks.
  after_from : (p : ℕ) → T (not (empty_fits job p)) → T (fits_at job p (start_on job p) (tasks job)) → start_on job p < first_fit job p (start_on job p)
  unfolding empty_fits
  after_from p t u = go (first_fit_is job p (start_on job p)).found
    where
      a : ℕ
      a = start_on job p

      found : T (fits_at job p a (first_fit job p a)) → a < first_fit job p a
      found f =
          elim (dec_le (suc a) (first_fit job p a)) [
            | yes x ↦ x
            | no x ↦
                absurd
                (T_not (fits_at job p a a) t
                (subst (λ (i : ℕ). T (fits_at job p a i)) (let e : first_fit job p a ≡ a = omega (arith, (first_fit_is job p a).from) in e) f))
          ]

      go : (first_fit job p a ≡ a + (tasks job - a)) ⊎ (fits_at job p a (first_fit job p a) ≡ true) → a < first_fit job p a
      go (inl e) =
          found
          (subst (λ (i : ℕ). T (fits_at job p a i)) (let z : tasks job ≡ first_fit job p a = omega (arith, start_to job p) in z) u)
      go (inr e) = found (T_of e)

  below_start : (p : ℕ) → p ≤ last job → Comes job p → (M : Bound) → T (not (fits job M)) → Below job M p
  unfolding start_on fits_at
  below_start zero l c M t = record { bound = M; fails = t; above = le_refl M; covers = refl }
  below_start (suc p) l c M t = step (below_start p (omega arith) (comes_sooner (omega arith) c))
    where
      a : ℕ
      a = start_on job p

      step : ((M : Bound) → T (not (fits job M)) → Below job M p) → Below job M (suc p)
      step before =
          record {
            bound = greater w.bound C;
            fails = greater_cases (λ B. T (not (fits job B))) w.bound C w.fails short;
            above = le_trans real w.above (greater_left w.bound C);
            covers = (
              a,
              from,
              cover_raise job real (greater_left w.bound C) p a w.covers,
              within_of job p a (first_fit job p a - 1) (greater_right w.bound C) (free_keeps free p a (first_fit job p a - 1)),
            );
          }
        where
          w : Below job M p
          w = before M t

          real : Real w.bound
          real = finite_real (fails_finite can w.bound w.fails)

          C : Bound
          C = part_bound job p a (first_fit job p a - 1)

          further : a < first_fit job p a
          further = after_from p (c.none p (omega arith)) (rest_from p (omega arith) before)

          from : a ≤ first_fit job p a - 1
          from = omega (arith, further)

          short : T (not (fits job C))
          short = T-not-of ((first_fit_is job p a).before (first_fit job p a - 1) from (omega (arith, further)))

  -- As long as the search comes to p, all the rest on p fits,
  pub rest_fits : (p : ℕ) → p ≤ last job → Comes job p → T (fits_at job p (start_on job p) (tasks job))
  rest_fits p l c = rest_from p l (below_start p l c)

  -- so does what is found,
  pub found_fits : (p : ℕ) → p ≤ last job → Comes job p → T (fits_at job p (start_on job p) (first_fit job p (start_on job p)))
  found_fits p l c =
      elim (first_fit_is job p (start_on job p)).found [
        | inl e ↦
            subst (λ (i : ℕ). T (fits_at job p (start_on job p) i))
            (let z : tasks job ≡ first_fit job p (start_on job p) = omega (arith, start_to job p, e) in z) (rest_fits p l c)
        | inr e ↦ T_of e
      ]

  -- which is past the start exactly where the empty part fails,
  pub found_after : (p : ℕ) → p ≤ last job → Comes job (suc p) → start_on job p < first_fit job p (start_on job p)
  found_after p l c = after_from p (c.none p (omega arith)) (rest_fits p l (comes_sooner (omega arith) c))

  pub found_empty : (p : ℕ) → p ≤ last job → Comes job p → first_fit job p (start_on job p) ≡ start_on job p → T (empty_fits job p)
  unfolding empty_fits
  found_empty p l c e = subst (λ (i : ℕ). T (fits_at job p (start_on job p) i)) e (found_fits p l c)

  -- and every candidate.
  pub candidate-fits : (p : ℕ) → p ≤ last job → Comes job p → T (fits job (candidate_on job p))
  unfolding fits_at
  candidate-fits p l c =
      elim (dec_le (suc p) (last job)) [
        | yes x ↦ subst (λ (B : Bound). T (fits job B)) (sym (candidate_before job p x)) (found_fits p l c)
        | no x ↦
            subst (λ (i : ℕ). T (fits job (candidate_on job i))) (let e : last job ≡ p = omega arith in e)
            (subst (λ (B : Bound). T (fits job B)) (sym (candidate-last job))
            (rest_fits (last job) (omega arith) (comes_sooner (omega arith) c)))
      ]

  -- The least candidate is the least bound that fits.
  pub candidates_least : Comes job (last job) → Least job (least_candidate job)
  unfolding least_candidate
  candidates_least c =
      record {
        finite = least_candidate_cases job Finite (part_finite job ok);
        fitting = least_cases (λ B. T (fits job B)) (candidate_on job) (last job) (λ p l. candidate-fits p l (comes_sooner l c));
        least = least_candidate_below ok;
      }

  -- Every candidate is no less than the least bound that fits, and one is equal to it.
  pub candidate_above : {L : Bound} → Least job L → (p : ℕ) → p ≤ last job → Comes job p → L ≼ candidate_on job p
  candidate_above b p l c = b.least (candidate_on job p) (candidate-fits p l c)

  pub candidate_met : {L : Bound} → Least job L → Comes job (last job) → (p : ℕ) × (p ≤ last job) × (candidate_on job p ≈ L)
  unfolding least_candidate
  candidate_met {L} b c = go taken
    where
      taken : (p : ℕ) × (p ≤ last job) × (least_candidate job ≡ candidate_on job p)
      taken =
          least_cases (λ B. (p : ℕ) × (p ≤ last job) × (B ≡ candidate_on job p)) (candidate_on job) (last job) (λ p h. (p, h, refl))

      go : (p : ℕ) × (p ≤ last job) × (least_candidate job ≡ candidate_on job p) → (p : ℕ) × (p ≤ last job) × (candidate_on job p ≈ L)
      go (p, l, e) = (
        p,
        l,
        record {
          to = subst (λ (B : Bound). B ≼ L) e (least_candidate_below ok L b.fitting);
          from = candidate_above b p l (comes_sooner l c);
        },
      )
