-- What an answer by the number of a refusal says of that number.
-- Assumes nothing.
use Prim.Native.Nat.{ℕ}
use mathlib.Core.Path.{◌≡◌, refl, sym, ◌∙◌}
use mathlib.Core.Bool.{Bool, true, false, cond}
use mathlib.Core.Logic.{◌≢◌}
use native.Mathlib.Omega.{arith}
use lib.Dec.{eqb}
use borrow.Author.Tests.{eq-eqb, eqb-true}
use Rattle.std.specs.Prelude.{Ok, Err}
use Rattle.chain.specs.declared.Refusal.{Refusal}
use Rattle.chain.specs.Numbers.{refusal_of, refused, answered}
use Rattle.chain.proofs.Numbers.{answered_ok}
use Rattle.refusals.proofs.Answering.{Known}

-- Where it is a refusal, the number is not 0.
pub err_nonzero : {A : Type 0} (n : ℕ) (x : A) {e : Refusal} → answered n x ≡ Err e → n ≢ 0
err_nonzero n x f z = let w : ◌≡◌ {A = ℕ} 0 1 = cc (answered_ok x z ∙ f) in omega arith

-- An answer by the number of a refusal has that number.
pub refused_answered : {A : Type 0} {n : ℕ} (x : A) → Known n → refused (answered n x) ≡ n
unfolding refused answered
refused_answered {n = n} x known = go (eqb n 0) refl
  where
    go : (b : Bool) → eqb n 0 ≡ b → refused (cond b (Ok x) (Err (refusal_of n))) ≡ n
    go true e = sym (eqb-true n 0 e)
    go false e = known (λ z. let f : false ≡ true = sym e ∙ eq-eqb n 0 z in cc)
