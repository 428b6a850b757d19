-- The two editions, as the calls take them: a yes or no, and the start-up work beside it.
-- Assumes nothing.
use Prim.Native.Nat.{ℕ, ◌≤◌}
use mathlib.Core.Path.{◌≡◌, sym, ap}
use mathlib.Core.Bool.{Bool, true, false}
use mir.Val.{bool_byte}
use native.Mathlib.Omega.{arith}
use Rattle.chain.specs.Job.{startup_of, edition_of, effective}
use Rattle.refusals.specs.Inputs.{head_records}

-- What counts, and how many records stand in front, in the second edition and in the first.
pub second_counts : {b : Bool} (c : ℕ) → b ≡ true → c ≡ effective b c
unfolding edition_of startup_of
second_counts c e = sym (ap (λ (b : Bool). effective b c) e)

pub first_counts : {b : Bool} (c : ℕ) → b ≡ false → 0 ≡ effective b c
unfolding edition_of startup_of
first_counts c e = sym (ap (λ (b : Bool). effective b c) e)

pub counts-at_most : (b : Bool) (c : ℕ) → effective b c ≤ c
unfolding edition_of startup_of
counts-at_most true c = omega arith
counts-at_most false c = omega arith

pub head_is : (b : Bool) (c : ℕ) {n : ℕ} → n ≡ bool_byte b → n ≡ head_records (edition_of b c)
unfolding edition_of head_records
head_is true c e = e
head_is false c e = e
