-- What the loops of Nicol's search keep.
-- Assumes nothing.
use Prim.Native.Nat.{ℕ, suc, ◌+◌, ◌-◌, ◌/◌, ◌≤◌, ◌<◌, ◌^◌}
use mathlib.Core.Path.{◌≡◌, refl, sym, ap, ap₂, subst, ◌∙◌}
use mathlib.Core.Bool.{Bool, true, false, not}
use mathlib.Core.Logic.{◌≢◌, inl}
use native.Mathlib.Omega.{arith}
use lib.Dec.{T, eqb, not_T}
use borrow.Author.Tests.{eq-eqb, ne_eqb}
use Rattle.bound.specs.declared.Bound.{Bound}
use Rattle.bound.specs.Order.{nought, infinite, lesser, least_below}
use Rattle.bound.proofs.Order.{least_next}
use Rattle.chain.specs.declared.Outcome.TheVariants.{Fits, Fails}
use Rattle.chain.specs.Ranges.{Small, Lendable, Narrow}
use Rattle.chain.specs.Lists.{sum_to, is_first, digits}
use Rattle.chain.specs.Job.{First, Job, Valid, tasks, last, held, part_bound}
use Rattle.chain.specs.Probe.{fits, probe}
use Rattle.chain.specs.Nicol.{Range, fits_at, first_fit, start_on, candidate_on, least_candidate, empty_fits, Comes, next_range, range_after, single, settled}
use Rattle.chain.specs.Plan.{TrialsTo, NicolEnds, early, whole, nicol_trials}
use Rattle.chain.proofs.Tests.{T_of, T-not-of, T_true, T_false}
use Rattle.chain.proofs.Parts.{valid_proper}
use Rattle.chain.proofs.Within.{free_of}
use Rattle.chain.proofs.Indices.{all_of, first_of, first_unique, below_next}
use Rattle.chain.proofs.Nicol.{comes_sooner, start_to, first_fit_to, first_fit_is, candidate_before, candidate-last, least_candidate_cases, empty_found, found_empty}
use Rattle.chain.proofs.NicolTrials.{Ranged, ranged_at, unsettled_below, settled_found, trials_first, trials_allowed, trials_are}
use Rattle.chain.proofs.Ranges.{part_small, small_narrow, small_lendable, nought_lendable, infinite_narrow, lesser_narrow}
use Rattle.chain.proofs.Counts.{tasks-digits, nicol_fits}
use Rattle.probe.proofs.Answer.{fits_outcome, fails_outcome}

-- What the answer of a trial says of the part.
module _ (job : Job) (p a j : ℕ) {B : Bound} (e : B ≡ part_bound job p a j) where
  pub told_fits : {n : ℕ} → probe job B ≡ Fits n → true ≡ fits_at job p a j
  unfolding fits_at
  told_fits f = sym (T_true (fits job (part_bound job p a j)) (subst (λ (C : Bound). T (fits job C)) e (fits_outcome job B f).0))

  pub told_fails : {C : Bound} → probe job B ≡ Fails C → false ≡ fits_at job p a j
  unfolding fits_at
  told_fails f =
      sym (T_false (fits job (part_bound job p a j)) (subst (λ (C : Bound). T (not (fits job C))) e (fails_outcome job B f).0))

-- The range after k trials, which were all needed.
pub record Halving (job : Job) (p low high k : ℕ) : Type 0 where
  pub low_is : low ≡ (range_after job p (start_on job p) k).low
  pub high_is : high ≡ (range_after job p (start_on job p) k).high
  pub apart : (j : ℕ) → j < k → T (not (settled job p j))

pub halving_start : {job : Job} {p a n : ℕ} → a ≡ start_on job p → n ≡ tasks job → Halving job p a n 0
unfolding range_after
halving_start e f = record { low_is = e; high_is = f; apart = λ j h. absurd (let z : ⊥ = omega arith in z) }

module _ {job : Job} (v : Valid job) (free : T (not (held job))) {p low high k : ℕ} (l : p < last job) (c : Comes job p) (w : Halving job p low high k) where
  ranged : Ranged job p (start_on job p) (2 ^ k) (range_after job p (start_on job p) k)
  ranged = ranged_at (valid_proper v) (free_of free) p (omega arith) c k

  -- It lies between the start and N.
  pub halving_from : start_on job p ≤ low
  halving_from = omega (arith, w.low_is, ranged.from)

  pub halving_ordered : low ≤ high
  halving_ordered = omega (arith, w.low_is, w.high_is, ranged.ordered)

  pub halving_to : high ≤ tasks job
  halving_to = omega (arith, w.high_is, ranged.to)

  -- The range as a record, and that it is one index where its ends meet.
  is_range : range_after job p (start_on job p) k ≡ record { low = low; high = high }
  is_range = ap₂ (λ (x y : ℕ). record { low = x; high = y }) (sym w.low_is) (sym w.high_is)

  settled_is : settled job p k ≡ eqb low high
  unfolding settled single
  settled_is = ap single is_range

  unsettled : low < high → T (not (settled job p k))
  unsettled h = T-not-of (settled_is ∙ ne_eqb low high (λ z. omega arith))

  -- A trial of a range with more than one index is within digits(N),
  pub halving_room : low < high → k < digits (tasks job)
  halving_room h = unsettled_below (valid_proper v) (free_of free) p (omega arith) c k (unsettled h)

  -- and gives the next range.
  module _ {a m : ℕ} (x : a ≡ start_on job p) (h : low < high) (e : m ≡ (low + high) / 2) where
    turn : Bool → Range
    turn t = elim t [ true ↦ record { low = low; high = m } | false ↦ record { low = suc m; high = high } ]

    next_is : {t : Bool} → t ≡ fits_at job p a m → range_after job p (start_on job p) (suc k) ≡ turn t
    unfolding range_after next_range turn
    next_is {t} f =
        ap (next_range job p (start_on job p)) is_range
        ∙ ap
        (λ (x : ℕ). elim (fits_at job p (start_on job p) x) [ true ↦ record { low = low; high = x } | false ↦ record { low = suc x; high = high } ])
        (sym e)
        ∙ ap turn (sym (f ∙ ap (λ (i : ℕ). fits_at job p i m) x))

    more : (j : ℕ) → j < suc k → T (not (settled job p j))
    more = below_next {Q = λ j. T (not (settled job p j))} w.apart (unsettled h)

    pub halving-fits : {k' : ℕ} → true ≡ fits_at job p a m → k' ≡ suc k → Halving job p low m k'
    unfolding turn
    halving-fits f z =
        subst (Halving job p low m) (sym z)
        (record { low_is = sym (ap (λ (R : Range). R.low) (next_is f)); high_is = sym (ap (λ (R : Range). R.high) (next_is f)); apart = more })

    pub halving_fails : {low' k' : ℕ} → false ≡ fits_at job p a m → low' ≡ suc m → k' ≡ suc k → Halving job p low' high k'
    unfolding turn
    halving_fails {low'} f y z =
        subst (Halving job p low' high) (sym z)
        (record {
          low_is = y ∙ sym (ap (λ (R : Range). R.low) (next_is f));
          high_is = sym (ap (λ (R : Range). R.high) (next_is f));
          apart = more;
        })

  -- Where the ends meet, they are at the smallest index that fits, and the trials are those of the processor.
  pub halving_end : {a : ℕ} → a ≡ start_on job p → high ≤ low → (low ≡ first_fit job p a) × T (is_first (settled job p) k)
  halving_end x h =
      let t : T (settled job p k) = T_of (settled_is ∙ eq-eqb low high (let e : low ≡ high = omega (arith, halving_ordered) in e)) in
      (w.low_is ∙ settled_found (valid_proper v) (free_of free) p (omega arith) c k t ∙ ap (first_fit job p) (sym x), first_of (settled job p) k t w.apart)

-- The trials of a processor fit 32 bits.
pub halving_count : {job : Job} {p low high k : ℕ} → Valid job → T (not (held job)) → p < last job → Comes job p → Halving job p low high k → low < high → k + 1 < 2 ^ 32
halving_count v f l c w h = omega (arith, halving_room v f l c w h, tasks-digits v)

-- The search at processor p: where its part starts, the trials until now and the least candidate until now.
pub record Searching (job : Job) (p a count : ℕ) (least : Bound) : Type 0 where
  pub to : p ≤ last job
  pub start_is : a ≡ start_on job p
  pub comes : Comes job p
  pub counted : count ≡ sum_to (nicol_trials job) p
  pub least_is : least ≡ least_below (candidate_on job) p
  pub small : Narrow least

pub searching_start : (job : Job) → Searching job 0 0 0 infinite
unfolding start_on least_below sum_to
searching_start job =
    record {
      to = omega arith;
      start_is = refl;
      comes = record { none = λ q h. absurd (let z : ⊥ = omega arith in z) };
      counted = refl;
      least_is = refl;
      small = infinite_narrow;
    }

module _ {job : Job} (v : Valid job) (free : T (not (held job))) {p a count : ℕ} {least : Bound} (w : Searching job p a count least) where
  pub searching_inside : a ≤ tasks job
  searching_inside = omega (arith, w.start_is, start_to job p)

  -- The last processor's candidate is the last.
  pub searching_end : {B C : Bound} → last job ≤ p → B ≡ part_bound job p a (tasks job) → C ≡ lesser least B → NicolEnds job count C × Lendable C
  unfolding least_candidate
  searching_end {B} {C} h e f = (
    whole (all_of (λ q. not (empty_fits job q)) (last job) (λ q k. w.comes.none q (omega (arith, k, h)))) trials found,
    subst Lendable (sym found) (small_lendable (least_candidate_cases job Small (part_small v))),
  )
    where
      here : p ≡ last job
      here = omega (arith, w.to)

      trials : TrialsTo job (last job) count
      trials =
          subst (TrialsTo job (last job)) (sym (w.counted ∙ ap (sum_to (nicol_trials job)) here))
          (trials_are (valid_proper v) (free_of free) (last job) (omega arith) (λ q k. comes_sooner (omega (arith, k, h)) w.comes))

      found : C ≡ least_candidate job
      found =
          f
          ∙ ap (lesser least) (e ∙ ap (λ (i : ℕ). part_bound job p i (tasks job)) w.start_is ∙ ap (λ (q : ℕ). part_bound job q (start_on job q) (tasks job)) here ∙ sym (candidate-last job))
          ∙ ap (λ (D : Bound). lesser D (candidate_on job (last job))) (w.least_is ∙ ap (least_below (candidate_on job)) here)
          ∙ least_next (candidate_on job) (last job)
          (inl (subst (λ (D : Bound). 1 ≤ D.speed) (sym (candidate-last job)) (part_small v (last job) (start_on job (last job)) (tasks job)).speed_positive))

  -- What processor p, before the last, finds,
  module _ {end : ℕ} (l : p < last job) (e : end ≡ first_fit job p a) where
    end_is : end ≡ first_fit job p (start_on job p)
    end_is = e ∙ ap (first_fit job p) w.start_is

    pub end_after : a ≤ end
    end_after = omega (arith, e, (first_fit_is job p a).from)

    pub end_inside : end ≤ tasks job
    end_inside = omega (arith, e, first_fit_to job p a searching_inside)

    -- with its trials,
    module _ (k : ℕ) (t : T (is_first (settled job p) k)) where
      total : count + k ≡ sum_to (nicol_trials job) (suc p)
      unfolding sum_to
      total =
          omega (
            arith,
            w.counted,
            first_unique (settled job p) k (nicol_trials job p) t (trials_first (valid_proper v) (free_of free) p w.to w.comes),
          )

      trials_to : TrialsTo job (suc p) (count + k)
      trials_to =
          subst (TrialsTo job (suc p)) (sym total)
          (trials_are (valid_proper v) (free_of free) (suc p) l (λ q h. comes_sooner (omega arith) w.comes))

      pub count_fits : count + k < 2 ^ 32
      count_fits =
          omega (
            arith,
            trials_allowed (valid_proper v) (free_of free) First (suc p) (count + k) l (λ q h. comes_sooner (omega arith) w.comes) trials_to,
            nicol_fits First v,
          )

      -- ends the search where the part is empty,
      pub searching_early : end ≡ a → NicolEnds job (count + k) nought × Lendable nought
      searching_early f = (
        early p l
            (first_of (empty_fits job) p
            (found_empty (valid_proper v) (free_of free) p w.to w.comes (sym end_is ∙ f ∙ w.start_is)) w.comes.none) trials_to refl,
        nought_lendable,
      )

      -- and else brings it to the next processor.
      pub searching_next : {p' a' count' : ℕ} {C D : Bound} → end ≢ a → C ≡ part_bound job p a end → D ≡ lesser least C → p' ≡ suc p → a' ≡ end - 1 → count' ≡ count + k
          → Searching job p' a' count' D
      unfolding start_on least_below
      searching_next {p'} {a'} {count'} {C} {D} n f g x y z =
          subst (λ (q : ℕ). Searching job q a' count' D) (sym x)
          (record {
            to = l;
            start_is = y ∙ ap (λ (i : ℕ). i - 1) end_is;
            comes =
                record {
                  none = below_next {Q = λ q. T (not (empty_fits job q))} w.comes.none
                      (not_T (empty_fits job p) (λ u. n (end_is ∙ empty_found (valid_proper v) p u ∙ sym w.start_is)));
                };
            counted = z ∙ total;
            least_is =
                g ∙ ap (lesser least) is_candidate ∙ ap (λ (E : Bound). lesser E (candidate_on job p)) w.least_is
                ∙ least_next (candidate_on job) p (inl (subst (λ (E : Bound). 1 ≤ E.speed) (sym f ∙ is_candidate) (part_small v p a end).speed_positive));
            small = subst Narrow (sym g) (lesser_narrow w.small (subst Narrow (sym f) (small_narrow (part_small v p a end))));
          })
        where
          is_candidate : C ≡ candidate_on job p
          is_candidate = f ∙ ap₂ (part_bound job p) w.start_is end_is ∙ sym (candidate_before job p l)
