-- A field of 32 bits in a list of bytes, and half a field, of 16. Scope 7.1: "Every field is little-endian."
use Rattle.std.specs.Prelude.{ℕ, ◌+◌, ◌*◌, ◌/◌, ◌%◌, ◌<◌, List, [], ◌∷◌, get_or}

-- A list of bytes.
abbrev pub Bytes : List ℕ → Type 0
Bytes bytes = (i : ℕ) → get_or bytes i 0 < 256

-- The bytes of a field: how many.
abbrev pub field_size : ℕ
field_size = 4

-- The bytes of a field.
unfoldable pub field_bytes : ℕ → List ℕ
field_bytes v = v % 256 ∷ v / 256 % 256 ∷ v / 65536 % 256 ∷ v / 16777216 % 256 ∷ []

-- The value of the field whose first byte is at this place.
unfoldable pub field_at : List ℕ → ℕ → ℕ
field_at bytes k =
    get_or bytes k 0 + 256 * get_or bytes (k + 1) 0 + 65536 * get_or bytes (k + 2) 0 + 16777216 * get_or bytes (k + 3) 0

-- The bytes of half a field: how many.
abbrev pub half_size : ℕ
half_size = 2

-- The bytes of half a field.
unfoldable pub half_bytes : ℕ → List ℕ
half_bytes v = v % 256 ∷ v / 256 % 256 ∷ []

-- The value of the half whose first byte is at this place.
unfoldable pub half_at : List ℕ → ℕ → ℕ
half_at bytes k = get_or bytes k 0 + 256 * get_or bytes (k + 1) 0
