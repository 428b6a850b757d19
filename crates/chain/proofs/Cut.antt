-- The list of holds of a job by lists, as it is cut to the processors.
-- Assumes nothing.
use Prim.Native.Nat.{ℕ, ◌≤◌, ◌<◌}
use mathlib.Core.Path.{◌≡◌, sym, subst}
use mathlib.Core.List.{List}
use native.Mathlib.Omega.{arith}
use native.Mathlib.Decide.{dec_le}
use lib.ListN.{length, get_or, take}
use lib.Seq.{length-take-le, take_all, get_or-take}
use Rattle.chain.specs.Job.{job_of, Valid, hold_of}

-- A list is long enough when its cut is.
pub cut_long : (n : ℕ) (hs : List ℕ) → n ≤ length (take n hs) → n ≤ length hs
cut_long n hs h =
    elim (dec_le n (length hs)) [ yes k ↦ k | no k ↦ subst (λ (l : List ℕ). n ≤ length l) (take_all n hs (omega arith)) h ]

pub long_cut : (n : ℕ) (hs : List ℕ) → n ≤ length hs → n ≤ length (take n hs)
long_cut n hs h = omega (arith, length-take-le n hs h)

module _ (c : ℕ) (es hs ws : List ℕ) where
  -- Every processor has its hold in the list.
  pub holds_long : Valid (job_of c es hs ws) → length es ≤ length hs
  holds_long v = cut_long (length es) hs v.holds_given

  pub hold_at_lem : (p : ℕ) → p < length es → get_or hs p 0 ≡ hold_of (job_of c es hs ws) p
  unfolding hold_of
  hold_at_lem p h = sym (get_or-take (length es) hs p 0 h)
