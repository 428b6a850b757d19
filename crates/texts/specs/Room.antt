-- Room for a number, and what putting a text into a buffer leaves.
use Rattle.std.specs.Prelude.{ℕ, ◌+◌, ◌≡◌, List, length}
use Rattle.std.proofs.lemmas.List.Edits.{sets}

-- A number of 64 bits, in decimal.
abbrev pub number_room : ℕ
number_room = 20

-- A space and a number.
abbrev pub field_room : ℕ
field_room = 1 + number_room

-- The line of a refusal: `refused`, the number's field and the line feed.
abbrev pub refusal_room : ℕ
refusal_room = 8 + field_room

-- The buffer after the text has been put into it at an index, and the index behind the text.
pub record Put (new : List ℕ) (at : ℕ) (old later : List ℕ) (next : ℕ) : Type 0 where
  pub bytes : later ≡ sets old at new
  pub behind : next ≡ at + length new
