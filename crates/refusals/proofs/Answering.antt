-- What an answer says, and what a call that puts entries into a lent list answers and leaves, by the number of the refusal.
-- Assumes nothing.
use Prim.Native.Nat.{ℕ}
use mathlib.Core.Path.{◌≡◌, refl, sym, ap, ◌∙◌}
use mathlib.Core.Bool.{Bool, true, false, cond}
use mathlib.Core.List.{List, [], ◌++◌}
use mathlib.Core.Logic.{◌≢◌}
use lib.Dec.{eqb}
use lib.ListN.{length, drop}
use borrow.Author.Tests.{eq-eqb, ne_eqb, eqb-true}
use Rattle.std.specs.Prelude.{Result, Ok, Err, IsErrAnd}
use Rattle.std.proofs.lemmas.Result.{err_from_is_err_and}
use Rattle.chain.specs.declared.Refusal.{Refusal}
use Rattle.chain.specs.Numbers.{code_of, refusal_of, refused, answered}
use Rattle.chain.proofs.Numbers.{err_nonzero, answered_ok, answered_err}
use Rattle.refusals.specs.Answers.{Said, accepting, alone, said_by, answer_said, lent_after}
use Rattle.refusals.proofs.Lent.{lent-front, lent_refused}

-- What the one or the other answer says.
pub said_choice : {A : Type 0} (said : A → Said) (b : Bool) (x y : A) → said (cond b x y) ≡ cond b (said x) (said y)
said_choice said true x y = refl
said_choice said false x y = refl

-- The number is the refusal's, and a refusal has no values.
pub said-number : (n : ℕ) (values : List ℕ) → (said_by n values).number ≡ n
unfolding said_by
said-number n values = go (eqb n 0) refl
  where
    go : (b : Bool) → eqb n 0 ≡ b → (cond b (accepting values) (alone n)).number ≡ n
    go true e = sym (eqb-true n 0 e)
    go false e = refl

pub said-alone : {n : ℕ} → n ≢ 0 → (values : List ℕ) → said_by n values ≡ alone n
unfolding said_by
said-alone {n} h values = ap (λ (b : Bool). cond b (accepting values) (alone n)) (ne_eqb n 0 h)

-- With no values it is the number alone, refused or not.
pub said-nothing : (n : ℕ) → alone n ≡ said_by n []
unfolding said_by
said-nothing n = go (eqb n 0) refl
  where
    go : (b : Bool) → eqb n 0 ≡ b → alone n ≡ cond b (accepting []) (alone n)
    go true e = ap alone (eqb-true n 0 e)
    go false e = refl

-- The number of an answer that says so.
pub number_of_lem : {said : Said} {n : ℕ} (values : List ℕ) → said ≡ said_by n values → said.number ≡ n
number_of_lem {n = n} values e = ap (λ (s : Said). s.number) e ∙ said-number n values

-- A number that is 0 or a refusal's.
abbrev pub Known : ℕ → Type 0
Known n = n ≢ 0 → code_of (refusal_of n) ≡ n

-- An answer by such a number says it, or the values.
pub answer_said_lem : {A : Type 0} {n : ℕ} → Known n → (values : A → List ℕ) (x : A) → answer_said values (answered n x) ≡ said_by n (values x)
unfolding answered said_by
answer_said_lem {A} {n} known values x = go (eqb n 0) refl
  where
    go : (b : Bool) → eqb n 0 ≡ b → answer_said values (cond b (Ok x) (Err (refusal_of n))) ≡ cond b (accepting (values x)) (alone n)
    go true e = refl
    go false e = ap alone (known (λ z. let f : false ≡ true = sym e ∙ eq-eqb n 0 z in cc))

-- At the exit of a `?` the refusal is the one that its call gave: the answer by that number, and a lent list that stays.
pub passed_on : {A : Type 0} {e : Refusal} (q : Result A Refusal) → IsErrAnd q (λ y. y ≡ e) → q ≡ Err e
passed_on q g = let p = err_from_is_err_and q g in p.1 ∙ ap Err p.2

pub answer_refused : {A B : Type 0} {number : ℕ} {r : Result B Refusal} {e : Refusal} (q : Result A Refusal) (value : A) → r ≡ Err e → IsErrAnd q (λ y. y ≡ e)
    → refused r ≡ number → q ≡ answered number value
answer_refused q value f g h = passed_on q g ∙ answered_err value f h

pub list_refused : {B : Type 0} {number : ℕ} {r : Result B Refusal} {e : Refusal} (new old : List ℕ) → r ≡ Err e → refused r ≡ number
    → old ≡ lent_after number new old
list_refused new old f h = sym (lent_refused (err_nonzero f h) new old)

-- What a call that puts these entries in front of a lent list answers and leaves.
module _ {A : Type 0} (value : A) (new old : List ℕ) where
  abbrev pub Wrote : ℕ → Result A Refusal → List ℕ → Type 0
  Wrote number r now = (r ≡ answered number value) × (now ≡ lent_after number new old)

  pub wrote_refused : {B : Type 0} {number : ℕ} {r : Result B Refusal} {e : Refusal} (q : Result A Refusal) → r ≡ Err e → IsErrAnd q (λ y. y ≡ e)
      → refused r ≡ number → Wrote number q old
  wrote_refused q f g h = (answer_refused q value f g h, list_refused new old f h)

  pub wrote_all : {number n : ℕ} {now : List ℕ} → number ≡ 0 → length new ≡ n → now ≡ new ++ drop n old → Wrote number (Ok value) now
  wrote_all e l f = (answered_ok value e, f ∙ sym (lent-front new old e l))
