-- What listing a file answers and leaves in the lent buffer. Scope, sections 8 and 9.
use Rattle.std.specs.Prelude.{ℕ, List, [], ◌∷◌, length, Result}
use Rattle.chain.specs.declared.Refusal.{Refusal}
use Rattle.chain.specs.Numbers.{answered}
use Rattle.chain.specs.Refusal.{Test, length_test, first_refusal}
use Rattle.refusals.specs.Answers.{lent_after}
use Rattle.listing.specs.Listing.{listing}
use Rattle.listing.specs.Room.{listing_room}

-- The one test is that of the buffer. Scope 8.7: "8,736 bytes for a listing", enough for every one. The file is not
-- refused: its number stands in the listing.
unfoldable pub list_tests : ℕ → List Test
list_tests lent = length_test listing_room lent ∷ []

unfoldable pub list_refusal : ℕ → ℕ
list_refusal lent = first_refusal (list_tests lent)

-- Scope 9.8: "puts the listing to the front of a lent buffer and answers how many bytes it has": the answer, that
-- count or the number of the refusal; and the buffer then.
unfoldable pub list_answer : List ℕ → ℕ → Result ℕ Refusal
list_answer file lent = answered (list_refusal lent) (length (listing file))

unfoldable pub list_writes : List ℕ → List ℕ → List ℕ
list_writes file out = lent_after (list_refusal (length out)) (listing file) out
