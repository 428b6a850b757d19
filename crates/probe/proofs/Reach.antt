-- The end of a part: what the search over prefix sums finds is as far as the part reaches.
-- Assumes nothing.
use Prim.Native.Nat.{ℕ, suc, ◌+◌, ◌-◌, ◌*◌, ◌/◌, ◌^◌, ◌≤◌, ◌<◌}
use mathlib.Core.Path.{◌≡◌, sym, ap, subst, ◌∙◌}
use mathlib.Core.Bool.{Bool, true, false, not, cond}
use mathlib.Core.List.{List}
use mathlib.Core.Logic.{◌≢◌, inl, inr}
use native.Mathlib.Omega.{arith}
use native.Mathlib.Nat.{le-div_iff_mul-le, mul-le-mul_right}
use native.Mathlib.Decide.{dec_le, ℕ_discrete}
use lib.Dec.{T, eqb, ltb, not_T}
use borrow.Author.Tests.{lt-ltb, le-ltb, eq-eqb, ne_eqb}
use lib.ListN.{get_or}
use Rattle.bound.specs.declared.Bound.{Bound}
use Rattle.bound.specs.Order.{◌≼◌, ◌≺◌}
use Rattle.bound.proofs.Order.{open_le, make_le, le_or_lt}
use Rattle.chain.specs.Job.{Job, Valid, tasks, processors, speed_of, hold_of, held, part_load, part_bound, keeps}
use Rattle.chain.specs.Probe.{reach}
use Rattle.chain.proofs.Within.{free_of, keeps_cases, keeps_unlimited, keeps-limited, within_of, past_of, past_keeps}
use Rattle.chain.proofs.Parts.{load_le, load_some, load_right, part_empty}
use Rattle.chain.proofs.Walk.{reach_unique}
use Rattle.chain.specs.Ranges.{Lendable}
use Rattle.chain.proofs.Ranges.{part_small, probe_products}
use Rattle.parts.specs.Prefix.{weight_between, Ready}
use Rattle.parts.proofs.Laws.{speed_read, prefix_weight, prefix_fits}
use Rattle.parts.specs.Rising.{LastAtMost}
use Rattle.parts.specs.Lent.{the}
use Rattle.parts.specs.declared.line.Line.{Line}
use Rattle.probe.specs.Walk.{EndsBy, kept_end}

-- A line is ready.
pub ready : (line : Line) → Ready (the line.job) line.sums.now
ready line = record { valid = line.job.valid; prefix = line.prefix }

module _ (job : Job) (p a b : ℕ) (B : Bound) (s : 1 ≤ B.speed) where
  -- A part's bound is at most the bound exactly when its load is at most the limit, a whole number.
  limit_within : part_load job a b ≤ B.load * speed_of job p / B.speed → part_bound job p a b ≼ B
  unfolding part_bound
  limit_within h = make_le ((le-div_iff_mul-le s).0 h)

  within_limit : part_bound job p a b ≼ B → part_load job a b ≤ B.load * speed_of job p / B.speed
  unfolding part_bound
  within_limit h = (le-div_iff_mul-le s).1 (open_le h)

  limit_past : B.load * speed_of job p / B.speed < part_load job a b → B ≺ part_bound job p a b
  limit_past h = elim (le_or_lt (part_bound job p a b) B) [ inl x ↦ absurd (let z : ⊥ = omega (arith, within_limit x) in z) | inr x ↦ x ]

-- The product before the division fits.
pub limit_fits : {job : Job} {B : Bound} → Valid job → Lendable B → (p : ℕ) → p < processors job → B.load * get_or job.speeds p 0 < 2 ^ 64
unfolding part_bound
limit_fits {job} {B} v l p h =
    subst (λ (e : ℕ). B.load * e < 2 ^ 64) (sym (speed_read job p h)) (probe_products (part_small v p 0 0) l).1

-- What the search finds, at the limit l that the division gives.
module _ {job : Job} {xs : List ℕ} (r : Ready job xs) {B : Bound} (lent : Lendable B) (p a : ℕ) (k : p < processors job)
    (h : a ≤ tasks job) {l : ℕ} (e : l ≡ B.load * get_or job.speeds p 0 / B.speed) where
  limit_is : l ≡ B.load * speed_of job p / B.speed
  limit_is = e ∙ ap (λ (n : ℕ). B.load * n / B.speed) (speed_read job p k)

  -- Where the start-up work is more than the limit, the part takes no task.
  pub end_none : l < job.startup → EndsBy job p a B a
  end_none x =
      record {
        from = omega arith;
        to = h;
        below = part_empty job p a B;
        above = λ y. limit_past job p a (suc a) B lent.speed_positive (omega (arith, limit_is, load_some job a (suc a) (omega arith) y));
      }

  -- Else m is left for the weight.
  module _ (g : job.startup ≤ l) {m : ℕ} (f : m ≡ l - job.startup) where
    -- Where all that remains is at most that, the part goes to the last task.
    pub end_all : weight_between xs a (tasks job) ≤ m → EndsBy job p a B (tasks job)
    end_all x =
        record {
          from = h;
          to = omega arith;
          below =
              limit_within job p a (tasks job) B lent.speed_positive
              (omega (arith, limit_is, load_le job a (tasks job), prefix_weight r.prefix a (tasks job) h (omega arith)));
          above = λ y. absurd (let z : ⊥ = omega arith in z);
        }

    -- Where it is more, the prefix sum raised by it fits,
    pub cap_fits : m < weight_between xs a (tasks job) → get_or xs a 0 + m < 2 ^ 32
    unfolding weight_between
    cap_fits x = omega (arith, r.prefix.sums (tasks job) (omega arith), prefix_fits r.valid (tasks job))

    -- and the last index at most that is the part's end.
    pub end_last : {c b : ℕ} → c ≡ get_or xs a 0 + m → LastAtMost xs a (tasks job) c b → EndsBy job p a B b
    unfolding weight_between
    end_last {c} {b} x w =
        record {
          from = w.from;
          to = w.to;
          below =
              limit_within job p a b B lent.speed_positive
              (omega (arith, limit_is, w.below, load_le job a b, prefix_weight r.prefix a b w.from w.to, w.from, r.prefix.enough));
          above = λ y.
              limit_past job p a (suc b) B lent.speed_positive
              (omega (arith, limit_is, w.above y, load_some job a (suc b) (omega (arith, w.from)) (omega (arith, w.from)), prefix_weight r.prefix a (suc b) (omega (arith, w.from)) y));
        }

-- The end of a part, by the bound and the hold.
kept_free : (h a b : ℕ) → h ≡ 0 → kept_end h a b ≡ b
unfolding kept_end
kept_free h a b e = ap (λ (t : Bool). cond t b (cond (ltb h (b - a)) (a + h) b)) (eq-eqb h 0 e)

kept_short : (h a b : ℕ) → h ≢ 0 → h < b - a → kept_end h a b ≡ a + h
unfolding kept_end
kept_short h a b n l =
    ap (λ (t : Bool). cond t b (cond (ltb h (b - a)) (a + h) b)) (ne_eqb h 0 n) ∙ ap (λ (t : Bool). cond t (a + h) b) (lt-ltb h (b - a) l)

kept_long : (h a b : ℕ) → h ≢ 0 → b - a ≤ h → kept_end h a b ≡ b
unfolding kept_end
kept_long h a b n l =
    ap (λ (t : Bool). cond t b (cond (ltb h (b - a)) (a + h) b)) (ne_eqb h 0 n) ∙ ap (λ (t : Bool). cond t (a + h) b) (le-ltb h (b - a) l)

-- For `search`: at each return of `kept_end` its law, the other way round.
pub kept_free_is : (h a b : ℕ) → h ≡ 0 → b ≡ kept_end h a b
kept_free_is h a b e = sym (kept_free h a b e)

pub kept_short_is : (h a b : ℕ) → h ≢ 0 → h < b - a → a + h ≡ kept_end h a b
kept_short_is h a b n l = sym (kept_short h a b n l)

pub kept_long_is : (h a b : ℕ) → h ≢ 0 → b - a ≤ h → b ≡ kept_end h a b
kept_long_is h a b n l = sym (kept_long h a b n l)

-- A part of a part whose bound is at most B has such a bound too.
bound_right : (job : Job) (p a b c : ℕ) (B : Bound) → a ≤ b → b ≤ c → part_bound job p a c ≼ B → part_bound job p a b ≼ B
unfolding part_bound
bound_right job p a b c B h k l =
    make_le (omega (arith, mul-le-mul_right B.speed (load_right job a b c h k), open_le l))

-- It is as far as the part reaches.
pub kept_reach : (job : Job) (p a b : ℕ) (B : Bound) → EndsBy job p a B b → kept_end (hold_of job p) a b ≡ reach job p a B
kept_reach job p a b B w =
    elim (ℕ_discrete (hold_of job p) 0) [
      | yes e ↦ kept_free (hold_of job p) a b e ∙ whole (keeps_unlimited job p a b e)
      | no n ↦
          elim (dec_le (b - a) (hold_of job p)) [
            | yes l ↦ kept_long (hold_of job p) a b n l ∙ whole (keeps-limited job p a b l)
            | no l ↦ kept_short (hold_of job p) a b n (omega arith) ∙ cut n (omega arith)
          ]
    ]
  where
    whole : T (keeps job p a b) → b ≡ reach job p a B
    whole t = reach_unique job p a b B w.from w.to (within_of job p a b w.below t) (λ l. past_of job p a (suc b) (w.above l))

    cut : hold_of job p ≢ 0 → hold_of job p < b - a → a + hold_of job p ≡ reach job p a B
    cut n l =
        let c : ℕ = a + hold_of job p in
        reach_unique job p a c B (omega arith) (omega (arith, w.to))
        (within_of job p a c (bound_right job p a c b B (omega arith) (omega arith) w.below) (keeps-limited job p a c (omega arith)))
        (λ m. past_keeps job p a (suc c) B (over n))
      where
        over : hold_of job p ≢ 0 → T (not (keeps job p a (suc (a + hold_of job p))))
        over n =
            not_T (keeps job p a (suc (a + hold_of job p)))
            (λ t. elim (keeps_cases job p a (suc (a + hold_of job p)) t) [ inl e ↦ n e | inr l ↦ let z : ⊥ = omega arith in z ])

-- Without holds it is the end by the bound itself.
pub free_reach : (job : Job) (p a b : ℕ) (B : Bound) → T (not (held job)) → EndsBy job p a B b → b ≡ reach job p a B
free_reach job p a b B f w = kept_free_is (hold_of job p) a b ((free_of f).none p) ∙ kept_reach job p a b B w

-- Code that is compiled for no holds is run where none is set.
pub unheld : (job : Job) {n : ℕ} → (T (held job) → T (not (eqb n 0))) → n ≡ 0 → T (not (held job))
unheld job {n} f h = go (held job) (λ t. subst (λ (k : ℕ). T (not (eqb k 0))) h (f t))
  where
    go : (b : Bool) → (T b → T (not (eqb 0 0))) → T (not b)
    go true g = g tt
    go false g = tt
