-- `test_bound` meets its contract.
use mathlib.Core.Path.{refl}
use mathlib.Core.Logic.{inl, inr}
use native.Mathlib.Omega.{arith}
use Rattle.chain.specs.Limits.{max_bound_load, max_bound_speed}
use Rattle.chain.specs.Numbers.{code_of, refused}
use Rattle.refusals.proofs.Tests.{load_far, speed_none, speed_far, bound_in}
use Rattle.refusals.proofs.test_bound.Goals as goal

pub returns-then-bound-gt-MAX_BOUND_LOAD : goal.returns-then-bound-gt-MAX_BOUND_LOAD
unfolding max_bound_load max_bound_speed refused code_of
returns-then-bound-gt-MAX_BOUND_LOAD c =
    let B = c.args.bound in
    elim c.then-bound-gt-MAX_BOUND_LOAD.either [
      | inl far ↦ load_far B refl far
      | inr near ↦ elim near [ inl none ↦ speed_none B refl none.0 none.1 | inr fast ↦ speed_far B refl fast.0 refl fast.2 ]
    ]

pub returns : goal.returns
unfolding max_bound_load max_bound_speed refused code_of
returns c =
    bound_in c.args.bound refl (omega arith) refl c.if-bound-eq0.false (omega arith)
