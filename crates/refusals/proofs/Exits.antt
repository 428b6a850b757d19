-- The exits of a function that makes tests one after the other, and what a caller has of the job of lists that have passed.
-- Assumes nothing.
use Prim.Native.Nat.{ℕ, ◌<◌}
use mathlib.Core.Path.{◌≡◌, refl, sym, ap, subst, ◌∙◌}
use mathlib.Core.List.{List, [], ◌∷◌}
use mathlib.Core.Logic.{◌≢◌}
use Rattle.std.specs.Prelude.{Result, Ok, Err, IsErrAnd}
use Rattle.chain.specs.declared.Refusal.{Refusal}
use Rattle.chain.specs.Numbers.{refused}
use Rattle.chain.specs.Job.{Job, processors}
use Rattle.chain.specs.Refusal.{length_test, enough_test, free_test, partition_test, first_refusal, Inputs, refusal}
use Rattle.chain.proofs.Numbers.{refused_ok, refused_err, err_nonzero}
use Rattle.parts.specs.declared.job.JobLists.{JobLists}
use Rattle.parts.specs.declared.job.ValidJob.{ValidJob}
use Rattle.parts.specs.Lent.{the, edition, lent, lent_edition, IsLent}
use Rattle.refusals.specs.Inputs.{list_inputs}
use Rattle.refusals.proofs.Accepted.{Accepted, accepted}
use Rattle.refusals.proofs.Answering.{passed_on}
use Rattle.parts.proofs.Lines.{edition_effective}

-- At the exit of a `?` the refusal is that of the test before it, which decides;
pub stopped : {A B : Type 0} {n : ℕ} {r : Result A Refusal} {e : Refusal} (q : Result B Refusal) → r ≡ Err e → IsErrAnd q (λ y. y ≡ e)
    → (refused r ≢ 0 → refused r ≡ n) → refused q ≡ n
stopped q f g h = refused_err f (passed_on q g) (h (err_nonzero f refl))

-- past it, that test has refused nothing.
pub went : {A : Type 0} {r : Result A Refusal} {x : A} → r ≡ Ok x → refused r ≡ 0
went e = refused_ok e refl

-- The job of the lists.
module _ {lists : JobLists} {job : ValidJob} (is : IsLent lists job) where
  pub the_lent : the job ≡ lent lists
  the_lent = cc

  pub edition_lent : edition job ≡ lent_edition lists
  edition_lent = rw (is.second, is.startup) (edition_effective lists.second lists.startup)

  -- A test of it is the test of the lists.
  pub of_lent : (f : Job → ℕ) {n : ℕ} → n ≡ f (the job) → n ≡ f (lent lists)
  of_lent f e = e ∙ ap f the_lent

  pub enough_lent : {n : ℕ} → n ≡ first_refusal (enough_test (the job) ∷ []) → n ≡ first_refusal (enough_test (lent lists) ∷ [])
  enough_lent e = of_lent (λ j. first_refusal (enough_test j ∷ [])) e

  pub free_lent : {n : ℕ} → n ≡ first_refusal (free_test (the job) ∷ []) → n ≡ first_refusal (free_test (lent lists) ∷ [])
  free_lent e = of_lent (λ j. first_refusal (free_test j ∷ [])) e

  pub division_lent : (s : List ℕ) {n : ℕ} → n ≡ first_refusal (partition_test (the job) s ∷ []) → n ≡ first_refusal (partition_test (lent lists) s ∷ [])
  division_lent s e = of_lent (λ j. first_refusal (partition_test j s ∷ [])) e

  -- A length that is needed for the one is needed for the other.
  pub length_lent : (needed : Job → ℕ) (given : ℕ) {n : ℕ} → n ≡ first_refusal (length_test (needed (the job)) given ∷ [])
      → n ≡ first_refusal (length_test (needed (lent lists)) given ∷ [])
  length_lent needed given e = of_lent (λ j. first_refusal (length_test (needed j) given ∷ [])) e

  -- What a call has that none of its tests refuses: `inputs` says what it takes beside the job.
  pub tested : (inputs : Job → Inputs) → refused {A = ValidJob} (Ok job) ≡ refusal (lent lists) (inputs (lent lists))
      → Accepted (the job) (inputs (the job))
  unfolding refused
  tested inputs e = subst (λ (j : Job). Accepted j (inputs j)) (sym the_lent) (accepted (sym e))

  -- The list of separators is long enough for the job.
  pub room : {n : ℕ} → refused {A = ValidJob} (Ok job) ≡ refusal (lent lists) (list_inputs (lent lists) n) → processors (the job) < n
  room {n} e = (tested (λ j. list_inputs j n) e).lists.0
