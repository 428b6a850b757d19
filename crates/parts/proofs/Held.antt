-- Whether a hold is set, as the loop over the holds comes to know it.
-- Assumes nothing.
use Prim.Native.Nat.{ℕ, zero, suc, ◌+◌, ◌≤◌, ◌<◌}
use mathlib.Core.Path.{◌≡◌, refl, sym, ap, ◌∙◌}
use mathlib.Core.Bool.{Bool, true, false, not, ◌&&◌, ◌||◌}
use mathlib.Core.List.{List, [], ◌∷◌}
use mathlib.Core.Logic.{◌≢◌}
use native.Mathlib.Omega.{arith}
use native.Mathlib.Numerals.{add-one}
use lib.Dec.{eqb}
use lib.ListN.{length, get_or, take}
use lib.Seq.{get_or-take, take_all}
use borrow.Author.Tests.{ne_eqb}
use Rattle.chain.specs.Lists.{each_of}
use Rattle.chain.specs.Job.{Job, job_of, held}

-- No entry is set.
abbrev pub unset : List ℕ → Bool
unset hs = each_of (λ h. eqb h 0) hs

-- Of one entry more.
unset_next : (hs : List ℕ) (i : ℕ) → i < length hs → unset (take (suc i) hs) ≡ (unset (take i hs) && eqb (get_or hs i 0) 0)
unfolding each_of
unset_next [] i l = absurd (let z : ⊥ = omega arith in z)
unset_next (h ∷ hs) zero l = alone (eqb h 0)
  where
    alone : (t : Bool) → (t && true) ≡ t
    alone true = refl
    alone false = refl
unset_next (h ∷ hs) (suc i) l =
    ap (λ (t : Bool). eqb h 0 && t) (unset_next hs i (omega arith)) ∙ regrouped (eqb h 0) _ _
  where
    regrouped : (t u v : Bool) → (t && (u && v)) ≡ ((t && u) && v)
    regrouped true u v = refl
    regrouped false u v = refl

-- The loop: whether an entry so far is set, at one more, and at the end.
pub any_next : {any : Bool} (hs : List ℕ) (i : ℕ) → any ≡ not (unset (take i hs)) → i < length hs
    → (any || not (eqb (get_or hs i 0) 0)) ≡ not (unset (take (i + 1) hs))
any_next hs i e l =
    ap (λ (t : Bool). t || not (eqb (get_or hs i 0) 0)) e ∙ either (unset (take i hs)) _
    ∙ ap not (sym (unset_next hs i l) ∙ ap (λ (k : ℕ). unset (take k hs)) (sym (add-one i)))
  where
    either : (t u : Bool) → (not t || not u) ≡ not (t && u)
    either true u = refl
    either false u = refl

pub any_end : {any : Bool} (hs : List ℕ) (i : ℕ) → any ≡ not (unset (take i hs)) → length hs ≤ i → any ≡ not (unset hs)
any_end hs i e l = e ∙ ap (λ (t : List ℕ). not (unset t)) (take_all i hs l)

-- One that is set.
not_unset : (hs : List ℕ) (p : ℕ) → get_or hs p 0 ≢ 0 → unset hs ≡ false
unfolding each_of
not_unset [] p h = absurd (h refl)
not_unset (x ∷ hs) zero h = ap (λ (t : Bool). t && unset hs) (ne_eqb x 0 h)
not_unset (x ∷ hs) (suc p) h = ap (λ (t : Bool). eqb x 0 && t) (not_unset hs p h) ∙ out (eqb x 0)
  where
    out : (t : Bool) → (t && false) ≡ false
    out true = refl
    out false = refl

module _ (c : ℕ) (es hs ws : List ℕ) where
  abbrev job : Job
  job = job_of c es hs ws

  -- Where no hold of a processor is left out, that is whether one is set.
  pub any_held : {any : Bool} → any ≡ not (unset (take (length es) hs)) → any ≡ held job
  unfolding held
  any_held e = e

  pub one_set : (p : ℕ) → p < length es → get_or hs p 0 ≢ 0 → true ≡ held job
  unfolding held
  one_set p k h = sym (ap not (not_unset (take (length es) hs) p (λ e. h (sym (get_or-take (length es) hs p 0 k) ∙ e))))
