-- What a reader gave stands in front of the buffer, also once more of it has come.
-- Assumes nothing.
use Rattle.std.specs.Prelude.{◌≡◌, ℕ, ◌+◌, ◌≤◌, List, ◌++◌, Option, length, take}
use Rattle.std.specs.Io.KnownBytes.{Consumes}
use Rattle.std.proofs.Common.{sym, ap, subst, ◌∙◌, length-take-le}
use Rattle.std.proofs.Math.Seq.{take-append-add, take-append-le}
use Rattle.std.proofs.KnownBytes.{Consumes-trans}

-- The first `bytes` of the file, and then as many of the part as came, are the first of the file with the part put
-- behind them.
pub taken_more : (a b c : Option (List ℕ)) (file part rest : List ℕ) (bytes more : ℕ) → bytes ≤ length file → more ≤ length part
    → Consumes a b (take bytes file) → Consumes b c (take more part) → Consumes a c (take (bytes + more) (take bytes file ++ (part ++ rest)))
taken_more a b c file part rest bytes more within fits before now =
    subst (Consumes a c) (sym joined) (Consumes-trans a b c (take bytes file) (take more part) before now)
  where
    joined : take (bytes + more) (take bytes file ++ (part ++ rest)) ≡ take bytes file ++ take more part
    joined =
        ap (λ (k : ℕ). take (k + more) (take bytes file ++ (part ++ rest))) (sym (length-take-le bytes file within))
        ∙ take-append-add (take bytes file) (part ++ rest) more
        ∙ ap (λ (l : List ℕ). take bytes file ++ l) (take-append-le more part rest fits)
