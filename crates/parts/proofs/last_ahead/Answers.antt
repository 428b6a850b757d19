-- `last_ahead` meets its contract: one look, or the search from the next index on.
use native.Mathlib.Omega.{arith}
use Rattle.parts.proofs.Search.{look_last}
use Rattle.parts.proofs.last_ahead.Goals as goal

pub returns : goal.returns
returns c =
    look_last (omega (arith, c.requires.a_lt_n.0)) c.requires.a_lt_n.1 (λ h. omega arith)
