-- What a caller reads off the probe's answer and off the list that it wrote.
-- Assumes nothing.
use Prim.Native.Nat.{ℕ, suc, ◌≤◌, ◌<◌}
use mathlib.Core.Path.{◌≡◌, refl, sym, ap, ◌∙◌}
use mathlib.Core.Bool.{Bool, true, false, not}
use mathlib.Core.List.{List, ◌++◌}
use native.Mathlib.Omega.{arith}
use lib.Dec.{T}
use lib.ListN.{length, get_or, drop, length-append, length-drop, get_or-append}
use lib.Seq.{drop_at}
use Rattle.bound.specs.declared.Bound.{Bound}
use Rattle.chain.specs.Job.{Job, Valid, processors, at}
use Rattle.chain.specs.Probe.{walk, fits, next_bid, visited, probe}
use Rattle.chain.proofs.Parts.{valid_proper}
use Rattle.chain.proofs.Bottleneck.{processors-last}
use Rattle.chain.proofs.Walk.{walk-length}
use Rattle.chain.proofs.Visited.{visited_first}
use Rattle.chain.specs.declared.Outcome.{Outcome}
use Rattle.chain.specs.declared.Outcome.TheVariants.{Fits, Fails}

-- What the answer says, case by case.
module _ (job : Job) (B : Bound) where
  answer : Bool → Outcome
  answer t = elim t [ true ↦ Fits (visited job B) | false ↦ Fails (next_bid job B) ]

  pub outcome_fits : fits job B ≡ true → probe job B ≡ Fits (visited job B)
  unfolding probe answer
  outcome_fits e = ap answer e

  pub outcome_fails : fits job B ≡ false → probe job B ≡ Fails (next_bid job B)
  unfolding probe answer
  outcome_fails e = ap answer e

  pub fits_outcome : {n : ℕ} → probe job B ≡ Fits n → T (fits job B) × (n ≡ visited job B)
  fits_outcome {n} e = go (fits job B) refl
    where
      go : (t : Bool) → fits job B ≡ t → T t × (n ≡ visited job B)
      go true f = (tt, cc (outcome_fits f))
      go false f = let z : ◌≡◌ {A = ℕ} 0 1 = cc (outcome_fails f) in absurd (let y : ⊥ = omega arith in y)

  pub fails_outcome : {C : Bound} → probe job B ≡ Fails C → T (not (fits job B)) × (C ≡ next_bid job B)
  fails_outcome {C} e = go (fits job B) refl
    where
      go : (t : Bool) → fits job B ≡ t → T (not t) × (C ≡ next_bid job B)
      go true f = let z : ◌≡◌ {A = ℕ} 0 1 = cc (outcome_fits f) in absurd (let y : ⊥ = omega arith in y)
      go false f = (tt, cc (outcome_fails f))

-- A walk that fits comes to no more processors than there are.
pub fits_inside : {job : Job} → Valid job → (B : Bound) {n : ℕ} → probe job B ≡ Fits n → n ≤ processors job
fits_inside {job} v B e = omega (arith, (fits_outcome job B e).1, (visited_first (valid_proper v) B).0)

-- The list that is written: the walk, and behind it what was there.
module _ {job : Job} (v : Valid job) (B : Bound) where
  pub walk_count : length (walk job B) ≡ suc (processors job)
  walk_count = walk-length job B ∙ ap suc (sym (processors-last (valid_proper v)))

  -- Its first P + 1 entries are the walk's,
  pub written_at : (l : List ℕ) (p : ℕ) → p ≤ processors job → get_or (walk job B ++ l) p 0 ≡ at (walk job B) p
  written_at l p h = get_or-append (walk job B) l 0 p (omega (arith, walk_count))

  -- the others are what was there,
  pub written_drop : (l : List ℕ) → drop (suc (processors job)) (walk job B ++ l) ≡ l
  written_drop l = drop_at (walk job B) l (suc (processors job)) walk_count

  -- and its length stays.
  pub written_length : (xs : List ℕ) → processors job < length xs → length (walk job B ++ drop (suc (processors job)) xs) ≡ length xs
  written_length xs h =
      omega (arith, length-append (walk job B) (drop (suc (processors job)) xs), walk_count, length-drop (suc (processors job)) xs)
