-- `digits_of` meets its contract: of 64 places, those that are not leading zeros.
use Prim.Native.Nat.{◌<◌, ◌^◌}
use mathlib.Core.Path.{sym}
use native.Mathlib.Omega.{arith}
use Rattle.chain.proofs.Digits.{digits_leading}
use Rattle.planner.proofs.allowance.digits_of.Goals as goal

pub returns-clause-value : goal.returns-clause-value
returns-clause-value c =
    let h : c.args.n < 2 ^ 64 = omega arith in
    sym (digits_leading 64 c.args.n h)
