-- The laws of parts within a bound, and of what is offered for a part. Walk, covers, bids, table and best partitions rest on
-- these and on the order of bounds, and open neither.
-- Assumes nothing.
use Prim.Native.Nat.{ℕ, zero, suc, ◌-◌, ◌≤◌, ◌<◌}
use mathlib.Core.Path.{◌≡◌, refl, sym, ap, subst, ◌∙◌}
use mathlib.Core.Bool.{Bool, true, false, not, ◌||◌}
use mathlib.Core.List.{List, [], ◌∷◌}
use mathlib.Core.Logic.{◌⊎◌, inl, inr}
use native.Mathlib.Omega.{arith}
use native.Mathlib.Nat.{mul-le-mul_right}
use lib.Dec.{T, eqb, leb, eqb→eq, leb→le, le→leb, T_not, not_T}
use lib.ListN.{get_or}
use borrow.Author.Tests.{not-true, not-false}
use Rattle.bound.specs.declared.Bound.{Bound}
use Rattle.bound.specs.Order.{infinite, le, ◌≼◌, ◌≺◌, pick, Real, Finite}
use Rattle.bound.proofs.Order.{open_le, make_le, le_trans, le_or_lt, not_both, le_speedless, infinite_real, below_infinite}
use Rattle.chain.specs.Lists.{each_of}
use Rattle.chain.specs.Job.{Job, processors, fastest, hold_of, held, part_bound, keeps, within, offer, at, Partition, bound_at, Within}
use Rattle.chain.proofs.Tests.{T_of, T-not-of, T_true, T_false, and_left, and_right, and_both, same_test}
use Rattle.chain.proofs.Parts.{Proper, load_right, load_left, part_empty, part_right, part_left, part_real}
use Rattle.chain.proofs.Extremes.{speed_fastest}

-- One of two tests that passes.
either : (x y : Bool) → T (x || y) → T x ⊎ T y
either true y t = inl tt
either false y t = inr t

one_left : (x y : Bool) → T x → T (x || y)
one_left true y t = tt
one_left false y t = absurd t

one_right : (x y : Bool) → T y → T (x || y)
one_right true y t = tt
one_right false y t = t

module _ (job : Job) where
  -- A part keeps a hold exactly where there is no limit, or it has no more tasks than that.
  pub keeps_cases : (p a b : ℕ) → T (keeps job p a b) → (hold_of job p ≡ 0) ⊎ (b - a ≤ hold_of job p)
  unfolding keeps
  keeps_cases p a b t =
      elim (either (eqb (hold_of job p) 0) (leb (b - a) (hold_of job p)) t)
      [ inl e ↦ inl (eqb→eq (hold_of job p) 0 e) | inr l ↦ inr (leb→le (b - a) (hold_of job p) l) ]

  pub keeps_unlimited : (p a b : ℕ) → hold_of job p ≡ 0 → T (keeps job p a b)
  unfolding keeps
  keeps_unlimited p a b e = one_left (eqb (hold_of job p) 0) (leb (b - a) (hold_of job p)) (subst (λ (n : ℕ). T (eqb n 0)) (sym e) tt)

  pub keeps-limited : (p a b : ℕ) → b - a ≤ hold_of job p → T (keeps job p a b)
  unfolding keeps
  keeps-limited p a b h = one_right (eqb (hold_of job p) 0) (leb (b - a) (hold_of job p)) (le→leb (b - a) (hold_of job p) h)

  -- An empty part keeps every hold, and so does a part of a part that does.
  pub keeps_empty : (p a : ℕ) → T (keeps job p a a)
  keeps_empty p a = keeps-limited p a a (omega arith)

  pub keeps_shrink : (p a b c d : ℕ) → a ≤ b → c ≤ d → T (keeps job p a d) → T (keeps job p b c)
  keeps_shrink p a b c d h k t =
      elim (keeps_cases p a d t) [ inl e ↦ keeps_unlimited p b c e | inr l ↦ keeps-limited p b c (omega arith) ]

  -- A part whose bound is at most another and that keeps the hold is within it, and a part within it has such a bound and keeps the hold.
  pub within_of : (p a b : ℕ) {B : Bound} → part_bound job p a b ≼ B → T (keeps job p a b) → T (within job p a b B)
  unfolding within
  within_of p a b {B} h k = and_both (le (part_bound job p a b) B) (keeps job p a b) h.holds k

  pub within_bound : (p a b : ℕ) {B : Bound} → T (within job p a b B) → part_bound job p a b ≼ B
  unfolding within
  within_bound p a b {B} t = record { holds = and_left (le (part_bound job p a b) B) (keeps job p a b) t }

  pub within-keeps : (p a b : ℕ) (B : Bound) → T (within job p a b B) → T (keeps job p a b)
  unfolding within
  within-keeps p a b B t = and_right (le (part_bound job p a b) B) (keeps job p a b) t

  pub past_of : (p a b : ℕ) {B : Bound} → B ≺ part_bound job p a b → T (not (within job p a b B))
  past_of p a b {B} h = not_T (within job p a b B) (λ t. not_both h (within_bound p a b t))

  pub past_keeps : (p a b : ℕ) (B : Bound) → T (not (keeps job p a b)) → T (not (within job p a b B))
  past_keeps p a b B h = not_T (within job p a b B) (λ t. T_not (keeps job p a b) h (within-keeps p a b B t))

  -- An empty part is within every bound,
  pub within_empty : (p a : ℕ) (B : Bound) → T (within job p a a B)
  within_empty p a B = within_of p a a (part_empty job p a B) (keeps_empty p a)

  -- a part of a part within a bound is within it,
  pub within_shrink : (p a b c d : ℕ) (B : Bound) → a ≤ b → b ≤ c → c ≤ d → T (within job p a d B) → T (within job p b c B)
  unfolding part_bound
  within_shrink p a b c d B h k l t =
      within_of p b c
      (make_le
      (omega
      (arith, mul-le-mul_right B.speed (load_left job a b c h k), mul-le-mul_right B.speed (load_right job a c d (omega arith) l), open_le (within_bound p a d t))))
      (keeps_shrink p a b c d h l (within-keeps p a d B t))

  -- and a part within a bound is within every greater one.
  pub within_raise : (p a b : ℕ) {B C : Bound} → Real B → B ≼ C → T (within job p a b B) → T (within job p a b C)
  within_raise p a b {B} r h t = within_of p a b (le_trans r (within_bound p a b t) h) (within-keeps p a b B t)

  -- The offer for a part that keeps the hold is its bound, else it is the infinite one.
  pub offer_part : (p a b : ℕ) → T (keeps job p a b) → offer job p a b ≡ part_bound job p a b
  unfolding offer
  offer_part p a b k = ap (λ (t : Bool). pick t (part_bound job p a b) infinite) (T_true (keeps job p a b) k)

  pub offer_none : (p a b : ℕ) → T (not (keeps job p a b)) → offer job p a b ≡ infinite
  unfolding offer
  offer_none p a b k = ap (λ (t : Bool). pick t (part_bound job p a b) infinite) (T_false (keeps job p a b) k)

  -- So a property of both is the offer's.
  pub offer_cases : (Q : Bound → Type 0) (p a b : ℕ) → (T (keeps job p a b) → Q (part_bound job p a b)) → (T (not (keeps job p a b)) → Q infinite) → Q (offer job p a b)
  unfolding offer
  offer_cases Q p a b f g = go (keeps job p a b) f g
    where
      go : (t : Bool) → (T t → Q (part_bound job p a b)) → (T (not t) → Q infinite) → Q (pick t (part_bound job p a b) infinite)
      go true f g = f tt
      go false f g = g tt

  -- A part is within a bound that is a number exactly when the offer for it is at most that.
  pub within-offer : (p a b : ℕ) {B : Bound} → T (within job p a b B) → offer job p a b ≼ B
  within-offer p a b {B} t = subst (λ (C : Bound). C ≼ B) (sym (offer_part p a b (within-keeps p a b B t))) (within_bound p a b t)

  pub offer-within : (p a b : ℕ) {B : Bound} → Finite B → offer job p a b ≼ B → T (within job p a b B)
  offer-within p a b {B} f =
      offer_cases (λ C. C ≼ B → T (within job p a b B)) p a b (λ k h. within_of p a b h k)
      (λ k h. absurd (not_both (below_infinite f.speed_positive) h))

  pub past_offer : (p a b : ℕ) {B : Bound} → Finite B → T (not (within job p a b B)) → B ≺ offer job p a b
  past_offer p a b {B} f t =
      elim (le_or_lt (offer job p a b) B) [ inl h ↦ absurd (T_not (within job p a b B) t (offer-within p a b f h)) | inr h ↦ h ]

  pub offer-test : (p a b : ℕ) {B : Bound} → Finite B → le (offer job p a b) B ≡ within job p a b B
  offer-test p a b {B} f =
      same_test (le (offer job p a b) B) (within job p a b B) (λ t. offer-within p a b f (record { holds = t })) (λ t. (within-offer p a b t).holds)

  -- The offer for an empty part is at most everything; it is no less for a longer part.
  pub offer_empty : (p a : ℕ) (B : Bound) → offer job p a a ≼ B
  offer_empty p a B = within-offer p a a (within_empty p a B)

  offer_longer : (p a b c d : ℕ) → a ≤ b → b ≤ c → c ≤ d → part_bound job p b c ≼ part_bound job p a d → offer job p b c ≼ offer job p a d
  offer_longer p a b c d h k l le =
      offer_cases (λ C. offer job p b c ≼ C) p a d
      (λ t. subst (λ (C : Bound). C ≼ part_bound job p a d) (sym (offer_part p b c (keeps_shrink p a b c d h l t))) le)
      (λ t. le_speedless (offer job p b c) refl)

  pub offer_right : (p a b c : ℕ) → a ≤ b → b ≤ c → offer job p a b ≼ offer job p a c
  offer_right p a b c h k = offer_longer p a a b c (omega arith) h k (part_right job p a b c h k)

  pub offer_left : (p a b c : ℕ) → a ≤ b → b ≤ c → offer job p b c ≼ offer job p a c
  offer_left p a b c h k = offer_longer p a b c c h k (omega arith) (part_left job p a b c h k)

  pub offer_real : Proper job → (p a b : ℕ) → Real (offer job p a b)
  offer_real ok p a b = offer_cases Real p a b (λ t. part_real job ok p a b) (λ t. infinite_real)

  -- Its speed is that of a processor, or none.
  pub offer-limited : (p a b : ℕ) → p < processors job → (offer job p a b).speed ≤ fastest job
  unfolding part_bound
  offer-limited p a b h = offer_cases (λ C. C.speed ≤ fastest job) p a b (λ t. speed_fastest job p h) (λ t. omega arith)

  -- A partition is within a bound exactly when every part's bound is at most that.
  pub parts_within : {s : List ℕ} {B : Bound} → Partition job s → ((p : ℕ) → p < processors job → bound_at job s p ≼ B) → Within job s B
  unfolding bound_at
  parts_within {s} w h = record { each = λ p l. within_of p (at s p) (at s (suc p)) (h p l) (w.kept p l) }

  pub bounds_within : {s : List ℕ} {B : Bound} → Within job s B → (p : ℕ) → p < processors job → bound_at job s p ≼ B
  unfolding bound_at
  bounds_within {s} w p h = within_bound p (at s p) (at s (suc p)) (w.each p h)

-- An offer, k being what the test of the hold says: the part's bound, or none.
module _ (job : Job) (p a b : ℕ) {k : Bool} (tested : k ≡ keeps job p a b) where
  pub offered : not k ≡ false → {C : Bound} → C ≡ part_bound job p a b → C ≡ offer job p a b
  offered h e = e ∙ sym (offer_part job p a b (T_of (sym tested ∙ not-false k h)))

  pub not_offered : not k ≡ true → infinite ≡ offer job p a b
  not_offered h = sym (offer_none job p a b (T-not-of (sym tested ∙ not-true k h)))

-- A job without holds: no processor has a limit.
pub record Free (job : Job) : Type 0 where
  pub none : (p : ℕ) → hold_of job p ≡ 0

each_nought : (hs : List ℕ) → T (each_of (λ h. eqb h 0) hs) → (p : ℕ) → get_or hs p 0 ≡ 0
unfolding each_of
each_nought [] t p = refl
each_nought (h ∷ hs) t zero = eqb→eq h 0 (and_left (eqb h 0) (each_of (λ h. eqb h 0) hs) t)
each_nought (h ∷ hs) t (suc p) = each_nought hs (and_right (eqb h 0) (each_of (λ h. eqb h 0) hs) t) p

not-held : (t : Bool) → T (not (not t)) → T t
not-held true x = tt
not-held false x = x

pub free_of : {job : Job} → T (not (held job)) → Free job
unfolding held hold_of
free_of {job} t = record { none = each_nought job.holds (not-held (each_of (λ h. eqb h 0) job.holds) t) }

pub free_keeps : {job : Job} → Free job → (p a b : ℕ) → T (keeps job p a b)
free_keeps {job} f p a b = keeps_unlimited job p a b (f.none p)
