-- The tests of the two counts, as the code takes them.
-- Assumes nothing.
use Prim.Native.Nat.{ℕ, ◌≤◌, ◌<◌}
use mathlib.Core.Path.{◌≡◌, sym, ◌∙◌}
use mathlib.Core.List.{[], ◌∷◌}
use native.Mathlib.Omega.{arith}
use lib.Dec.{leb}
use borrow.Author.Tests.{le-leb, lt-leb}
use Rattle.chain.specs.Limits.{max_processors, max_tasks}
use Rattle.chain.specs.Refusal.{test, between, first_refusal}
use Rattle.refusals.proofs.Each.{between_low, between_high, between_in}
use Rattle.refusals.proofs.Steps.{fails, passes, passed-all}

module _ (p t : ℕ) where
  pub no_processor : p ≡ 0 → 7 ≡ first_refusal (test 7 (between 1 max_processors p) ∷ test 8 (leb t max_tasks) ∷ [])
  no_processor h = sym (fails 7 (test 8 (leb t max_tasks) ∷ []) (between_low 1 max_processors p (omega arith)))

  pub many_processors : max_processors < p → 7 ≡ first_refusal (test 7 (between 1 max_processors p) ∷ test 8 (leb t max_tasks) ∷ [])
  many_processors h = sym (fails 7 (test 8 (leb t max_tasks) ∷ []) (between_high 1 max_processors p h))

  module _ (some : 1 ≤ p) (few : p ≤ max_processors) where
    pub many_tasks : max_tasks < t → 8 ≡ first_refusal (test 7 (between 1 max_processors p) ∷ test 8 (leb t max_tasks) ∷ [])
    many_tasks h =
        sym (passes 7 (test 8 (leb t max_tasks) ∷ []) (between_in 1 max_processors p some few) ∙ fails 8 [] (lt-leb t max_tasks h))

    pub counts_pass : t ≤ max_tasks → 0 ≡ first_refusal (test 7 (between 1 max_processors p) ∷ test 8 (leb t max_tasks) ∷ [])
    counts_pass h =
        sym (passes 7 (test 8 (leb t max_tasks) ∷ []) (between_in 1 max_processors p some few)
        ∙ passes 8 [] (le-leb t max_tasks h) ∙ passed-all)
