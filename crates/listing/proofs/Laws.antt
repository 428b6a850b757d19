-- The fields of a list, put one by one.
-- Assumes nothing.
use Prim.Native.Nat.{ℕ, suc, ◌+◌, ◌<◌}
use mathlib.Core.Path.{◌≡◌, sym, ap, ◌∙◌}
use mathlib.Core.List.{List, [], ◌∷◌, ◌++◌, append-nil, append_assoc}
use native.Mathlib.Omega.{arith}
use lib.ListN.{length, get_or, take}
use lib.Seq.{take-suc}
use Rattle.texts.specs.Text.{field}
use Rattle.listing.specs.Listing.{fields}

-- The fields of a list, and one more.
fields_snoc : (ns : List ℕ) (n : ℕ) → fields (ns ++ (n ∷ [])) ≡ fields ns ++ field n
unfolding fields
fields_snoc [] n = append-nil (field n)
fields_snoc (m ∷ ns) n = ap (λ (t : List ℕ). field m ++ t) (fields_snoc ns n) ∙ sym (append_assoc (field m) (fields ns) (field n))

pub fields_next : (ns : List ℕ) {i : ℕ} → i < length ns → fields (take i ns) ++ field (get_or ns i 0) ≡ fields (take (i + 1) ns)
fields_next ns {i} h =
    let next : i + 1 ≡ suc i = omega arith in
    sym (fields_snoc (take i ns) (get_or ns i 0)) ∙ ap fields (sym (take-suc ns i 0 h) ∙ ap (λ (k : ℕ). take k ns) (sym next))
