-- Text as bytes: words, numbers in decimal, and the line of a refusal. Scope, section 9.
use Rattle.std.specs.Prelude.{ℕ, ◌^◌, List, [], ◌∷◌, ◌++◌, ltb}
use Prim.Native.Char.{code}
use Prim.Native.String.{String, [] as []ᵗ, ◌∷◌ as ◌∷ᵗ◌}
use Rattle.io.specs.Digits.{last_digits}
use Rattle.chain.specs.Lists.{smallest_from}

-- The bytes of a text, in ASCII.
unfoldable pub text : String → List ℕ
text []ᵗ = []
text (c ∷ᵗ t) = code c ∷ text t

-- How many digits a number has in decimal: the fewest that hold it, and at least one. Scope 9.7: "no zero in front of
-- another digit"
unfoldable pub width : ℕ → ℕ
width n = smallest_from (λ k. ltb n (10 ^ k)) 1 n

-- A number in decimal.
unfoldable pub decimal : ℕ → List ℕ
decimal n = last_digits 10 (width n) n

-- Scope 9.4: "One space stands between two fields": a field that follows another.
unfoldable pub field : ℕ → List ℕ
field n = text " " ++ decimal n

-- A word, and the number that it is of.
unfoldable pub labelled : String → ℕ → List ℕ
labelled word n = text word ++ field n

-- Scope 9.5: "the one line `refused`, a space, the number"
unfoldable pub refusal_line : ℕ → List ℕ
refusal_line number = labelled "refused" number ++ text "\n"
