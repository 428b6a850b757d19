-- What a lent list holds after a call, by the number of its refusal.
-- Assumes nothing.
use Prim.Native.Nat.{ℕ}
use mathlib.Core.Path.{◌≡◌, refl, sym, ap, ◌∙◌}
use mathlib.Core.Bool.{Bool, cond}
use mathlib.Core.List.{List, ◌++◌}
use mathlib.Core.Logic.{◌≢◌}
use lib.ListN.{length, drop}
use borrow.Author.Tests.{ne_eqb}
use Rattle.refusals.specs.Answers.{lent_after}

pub lent_refused : {n : ℕ} → n ≢ 0 → (new old : List ℕ) → lent_after n new old ≡ old
unfolding lent_after
lent_refused {n} h new old = ap (λ (b : Bool). cond b (new ++ drop (length new) old) old) (ne_eqb n 0 h)

pub lent_accepted : (new old : List ℕ) → lent_after 0 new old ≡ new ++ drop (length new) old
unfolding lent_after
lent_accepted new old = refl

-- After a call that is accepted: n entries in front, the others stay.
pub lent-front : {number n : ℕ} (new old : List ℕ) → number ≡ 0 → length new ≡ n → lent_after number new old ≡ new ++ drop n old
lent-front new old e l =
    ap (λ (k : ℕ). lent_after k new old) e ∙ lent_accepted new old ∙ ap (λ (k : ℕ). new ++ drop k old) l

-- The list is as it was where the number is not 0.
pub lent_kept : {number n : ℕ} (new old : List ℕ) → n ≡ number → n ≢ 0 → old ≡ lent_after number new old
lent_kept new old e h = sym (lent_refused h new old) ∙ ap (λ (k : ℕ). lent_after k new old) e
