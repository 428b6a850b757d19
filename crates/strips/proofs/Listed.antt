-- What is listed: the buffer has room for every listing, and what is taken in of a file is enough of it.
-- Assumes nothing.
use Rattle.std.specs.Prelude.{◌≡◌, ℕ, ◌<◌, ◌≤◌, List, [], ◌++◌, Option, Some, None, IfSome, Result, Ok, Err, OnOk, ⊤, length, take}
use Rattle.std.specs.Result.{is_ok}
use Rattle.std.specs.Io.KnownBytes.{Appends, Consumes, IsAtEnd}
use Rattle.std.proofs.Common.{sym, ap, subst, ◌∙◌, inl, inr, arith, append-nil, length-take-le}
use Rattle.std.proofs.Math.Seq.{take-append-le}
use Rattle.std.proofs.lemmas.Bool.{cases_lt}
use Rattle.chain.specs.declared.Refusal.{Refusal}
use Rattle.chain.proofs.Numbers.{answered_ok}
use Rattle.refusals.proofs.Tests.{length-enough}
use Rattle.listing.specs.Listing.{listing, intake}
use Rattle.listing.specs.Room.{listing_room}
use Rattle.listing.specs.Answers.{list_tests, list_refusal, list_answer}
use Rattle.listing.proofs.Promises.{listing_taken}

-- A buffer with room for every listing is not refused.
pub refuses_none : (file : List ℕ) {lent : ℕ} {r : Result ℕ Refusal} → r ≡ list_answer file lent → listing_room ≤ lent
    → r ≡ Ok (length (listing file))
unfolding list_answer list_refusal list_tests
refuses_none file {lent} a h = a ∙ sym (answered_ok (length (listing file)) (sym (length-enough listing_room lent h)))

-- What comes behind the first bytes of a file is without effect, where these are as many as are taken in.
listing_front : (front rest : List ℕ) → intake ≤ length front → listing (front ++ rest) ≡ listing front
listing_front front rest h =
    sym (listing_taken (front ++ rest)) ∙ ap listing (take-append-le intake front rest h) ∙ listing_taken front

-- A buffer as long as what is taken in: where it is not full, nothing is left of the file, and else what is left is
-- without effect.
same_listing : (front rest : List ℕ) (room : ℕ) → intake ≤ room → length front ≤ room → (length front < room → rest ≡ [])
    → listing (front ++ rest) ≡ listing front
same_listing front rest room h within all =
    elim (cases_lt (length front) room) [
      | inl less ↦ ap (λ (r : List ℕ). listing (front ++ r)) (all less) ∙ ap listing (append-nil front)
      | inr full ↦ listing_front front rest (omega arith)
    ]

-- So what was taken in and listed is the listing of all that the reader had.
pub listed_all : (a b old new : Option (List ℕ)) (buffer : List ℕ) (bytes : ℕ) → intake ≤ length buffer → bytes ≤ length buffer
    → Consumes a b (take bytes buffer) → (bytes < length buffer → IsAtEnd b) → Appends old new (listing (take bytes buffer))
    → IfSome a (λ file. Appends old new (listing file))
listed_all None b old new buffer bytes h within taken all put = tt
listed_all (Some file) None old new buffer bytes h within taken all put = absurd taken
listed_all (Some file) (Some rest) old new buffer bytes h within taken all put =
    subst (Appends old new) (sym (ap listing taken ∙ same)) put
  where
    counted : length (take bytes buffer) ≡ bytes
    counted = length-take-le bytes buffer within

    same : listing (take bytes buffer ++ rest) ≡ listing (take bytes buffer)
    same =
        same_listing (take bytes buffer) rest (length buffer) h (omega (arith, counted))
        (λ less. all (omega (arith, counted)))

-- So it is where the listing was written, and the call answers that it was.
listed_none : (a : Option (List ℕ)) → IfSome a (λ _. ⊤)
listed_none None = tt
listed_none (Some file) = tt

pub listed_ok : {T U E D : Type 0} (a b old new : Option (List ℕ)) (buffer : List ℕ) (bytes : ℕ) (r : Result T E)
    (q : Result U D) → is_ok q ≡ is_ok r → intake ≤ length buffer → bytes ≤ length buffer
    → Consumes a b (take bytes buffer) → (bytes < length buffer → IsAtEnd b)
    → OnOk r (Appends old new (listing (take bytes buffer)))
    → IfSome a (λ file. OnOk q (Appends old new (listing file)))
listed_ok a b old new buffer bytes r (Err d) v h within taken all put = listed_none a
listed_ok a b old new buffer bytes (Ok x) (Ok y) v h within taken all put =
    listed_all a b old new buffer bytes h within taken all put
listed_ok a b old new buffer bytes (Err e) (Ok y) v h within taken all put = cc v

-- It was no more than is judged.
pub taken_at_most : (a b : Option (List ℕ)) (buffer : List ℕ) (bytes : ℕ) → length buffer ≤ intake → bytes ≤ length buffer
    → Consumes a b (take bytes buffer) → (xs : List ℕ) × (length xs ≤ intake) × Consumes a b xs
taken_at_most a b buffer bytes h within taken =
    (take bytes buffer, omega (arith, length-take-le bytes buffer within), taken)
