-- The test of a division, as the code makes it: the first separator, each pair, the last.
-- Assumes nothing.
use Prim.Native.Nat.{ℕ, suc, ◌+◌, ◌≤◌, ◌<◌}
use mathlib.Core.Path.{◌≡◌, sym, ap, subst, ◌∙◌}
use mathlib.Core.Bool.{Bool, false, not}
use mathlib.Core.List.{List}
use native.Mathlib.Omega.{arith}
use native.Mathlib.Decide.{dec_le}
use native.Mathlib.Numerals.{add-one}
use lib.Dec.{T, eqb, eqb→eq, T_not}
use borrow.Author.Tests.{eq-eqb}
use lib.ListN.{length, take}
use lib.Seq.{length-take-le, get_or-take}
use Rattle.chain.specs.Job.{Job, tasks, processors, keeps, at, Partition}
use Rattle.chain.specs.Refusal.{is_partition}
use Rattle.chain.proofs.Refusals.{partition_test_lem}
use Rattle.chain.proofs.Tests.{same_test}

-- A pair of separators as a division has them: the second no less, and the hold of the processor kept.
pub record Good (job : Job) (s : List ℕ) (p : ℕ) : Type 0 where
  pub grows : at s p ≤ at s (suc p)
  pub keeps : T (keeps job p (at s p) (at s (suc p)))

module _ (job : Job) (s : List ℕ) (long : processors job < length s) where
  front : List ℕ
  front = take (suc (processors job)) s

  at_front : (p : ℕ) → p ≤ processors job → at front p ≡ at s p
  unfolding front
  at_front p h = get_or-take (suc (processors job)) s p 0 (omega arith)

  abbrev Passes : Bool
  Passes = is_partition job (take (suc (processors job)) s)

  refuted : (Partition job front → ⊥) → false ≡ Passes
  unfolding front
  refuted h = same_test false Passes (λ x. absurd x) (λ t. absurd (h ((partition_test_lem job front).0 t)))

  -- The first separator is not 0; a separator is less than the one before it; a hold is not kept; or the test of the last one decides.
  pub not_first : (at s 0 ≡ 0 → ⊥) → false ≡ Passes
  not_first h = refuted (λ pa. h (sym (at_front 0 (omega arith)) ∙ pa.first))

  pub not_grown : (p : ℕ) → p < processors job → at s (suc p) < at s p → false ≡ Passes
  not_grown p h l =
      refuted (λ pa. let x : at front p ≤ at front (suc p) = pa.grows p h in omega (arith, at_front p (omega arith), at_front (suc p) h))

  pub not_kept : (p : ℕ) → p < processors job → T (not (keeps job p (at s p) (at s (suc p)))) → false ≡ Passes
  not_kept p h l =
      refuted
      (λ pa.
      T_not (keeps job p (at s p) (at s (suc p))) l
      (subst (λ (b : ℕ). T (keeps job p (at s p) b)) (at_front (suc p) h)
      (subst (λ (a : ℕ). T (keeps job p a (at front (suc p)))) (at_front p (omega arith)) (pa.kept p h))))

  pub end_decides : at s 0 ≡ 0 → ((p : ℕ) → p < processors job → Good job s p) → eqb (at s (processors job)) (tasks job) ≡ Passes
  unfolding front
  end_decides f g =
      same_test (eqb (at s (processors job)) (tasks job)) Passes
      (λ t.
      (partition_test_lem job front).1
      (record {
        count = length-take-le (suc (processors job)) s long;
        first = at_front 0 (omega arith) ∙ f;
        grows = λ p h. omega (arith, (g p h).grows, at_front p (omega arith), at_front (suc p) h);
        kept = λ p h.
            subst (λ (a : ℕ). T (keeps job p a (at front (suc p)))) (sym (at_front p (omega arith)))
            (subst (λ (b : ℕ). T (keeps job p (at s p) b)) (sym (at_front (suc p) h)) (g p h).keeps);
        end = at_front (processors job) (omega arith) ∙ eqb→eq _ _ t;
      }))
      (λ t.
      subst T
      (sym (eq-eqb (at s (processors job)) (tasks job) (sym (at_front (processors job) (omega arith)) ∙ ((partition_test_lem job front).0 t).end)))
      tt)

-- One pair more, a and b being its separators.
pub good_more : (job : Job) (s : List ℕ) (p : ℕ) {a b : ℕ} → ((k : ℕ) → k < p → Good job s k) → a ≡ at s p → b ≡ at s (p + 1) → a ≤ b → T (keeps job p a b)
    → (k : ℕ) → k < p + 1 → Good job s k
good_more job s p {a} {b} h e f l t k m =
    elim (dec_le (suc k) p) [
      | yes x ↦ h k x
      | no x ↦ subst (Good job s) (let y : p ≡ k = omega arith in y) (record { grows = omega (arith, next); keeps = subst (λ (j : ℕ). T (keeps job p (at s p) j)) next (subst (λ (i : ℕ). T (keeps job p i b)) e t) })
    ]
  where
    next : b ≡ at s (suc p)
    next = f ∙ ap (at s) (add-one p)
