-- A record's bytes, both ways: what its places hold makes its bytes, and its bytes are what its places hold.
-- Assumes nothing.
use Prim.Native.Nat.{ℕ, zero, suc, ◌+◌, ◌*◌, ◌≤◌, ◌<◌, ◌^◌}
use mathlib.Core.Path.{◌≡◌, refl, sym, ap, subst, ◌∙◌}
use mathlib.Core.Bool.{true}
use mathlib.Core.List.{List, [], ◌∷◌, ◌++◌, append_assoc, append-nil}
use mathlib.Core.Logic.{◌≢◌}
use native.Mathlib.Omega.{arith}
use native.Mathlib.Decide.{ℕ_discrete}
use lib.ListN.{length, get_or, take, drop, length-drop, get_or-append}
use lib.Seq.{take-add, get_or-take, get_or-drop, get_or-append-add, length-take-le, ext_get_or}
use borrow.Author.Tests.{eq-eqb, eqb-true}
use Rattle.chain.specs.Job.{Edition, First, Second}
use Rattle.fields.specs.Field.{Bytes, field_bytes, half_bytes, half_at}
use Rattle.fields.proofs.Laws.{field-digits, field-held, length-half, half-digits, half-held}
use Rattle.refusals.specs.Inputs.{head_records}
use Rattle.jobs.specs.JobFile.{processor_kind, startup_kind, record_bytes, records_bytes, no_hold, edition_bytes}
use Rattle.jobs.specs.Parse.{byte_at, kind_at, value_at, hold_at, blank}
use Rattle.jobs.proofs.Records.{length_record, length_records}
use Rattle.jobs.proofs.OneRecord.{is_processor, not_processor, first_decides, processor_blank, second_decides, third_decides}

-- The bytes that have to be zero.
module _ (file : List ℕ) (i : ℕ) where
  pub blank_first : blank file i ≡ true → byte_at file i 1 ≡ 0
  blank_first e =
      elim (ℕ_discrete (byte_at file i 1) 0) [ yes z ↦ z | no z ↦ eqb-true (byte_at file i 1) 0 (first_decides file i refl z ∙ e) ]

  blank_second : blank file i ≡ true → kind_at file i ≢ processor_kind → byte_at file i 2 ≡ 0
  blank_second e k =
      elim (ℕ_discrete (byte_at file i 2) 0) [
        | yes z ↦ z
        | no z ↦ eqb-true (byte_at file i 2) 0 (second_decides file i (not_processor file i k) refl (blank_first e) refl refl z ∙ e)
      ]

  -- The hold in a record is made of its bytes 2 and 3.
  pub hold_zero : byte_at file i 2 ≡ 0 → byte_at file i 3 ≡ 0 → hold_at file i ≡ 0
  unfolding hold_at half_at byte_at
  hold_zero y z =
      omega (arith, y, ap (λ (k : ℕ). get_or file k 0) (let e : 8 * i + 2 + 1 ≡ 8 * i + 3 = omega arith in e) ∙ z)

  -- Where they are zero, a record that is not a processor's has no hold.
  pub blank_hold : blank file i ≡ true → kind_at file i ≢ processor_kind → hold_at file i ≡ 0
  blank_hold e k =
      let y : byte_at file i 2 ≡ 0 = blank_second e k in
      hold_zero y (eqb-true (byte_at file i 3) 0 (third_decides file i (not_processor file i k) refl (blank_first e) refl refl y refl ∙ e))

  -- The bytes of record i are those of a record of its kind, its hold and its value.
  pub place_bytes : Bytes file → byte_at file i 1 ≡ 0 → (j : ℕ) → j < 8 → byte_at file i j ≡ get_or (record_bytes (kind_at file i) (hold_at file i) (value_at file i)) j 0
  unfolding record_bytes half_bytes kind_at value_at hold_at byte_at
  place_bytes b z zero h = refl
  place_bytes b z (suc zero) h = z
  place_bytes b z (suc (suc zero)) h =
      ap (λ (k : ℕ). get_or file k 0) (let e : 8 * i + 2 ≡ 8 * i + 2 + 0 = omega arith in e) ∙ half-digits file (8 * i + 2) b 0 (omega arith)
  place_bytes b z (suc (suc (suc zero))) h =
      ap (λ (k : ℕ). get_or file k 0) (let e : 8 * i + 3 ≡ 8 * i + 2 + 1 = omega arith in e) ∙ half-digits file (8 * i + 2) b 1 (omega arith)
  place_bytes b z (suc (suc (suc (suc j)))) h =
      ap (λ (k : ℕ). get_or file k 0) (let e : 8 * i + suc (suc (suc (suc j))) ≡ 8 * i + 4 + j = omega arith in e)
      ∙ field-digits file (8 * i + 4) b j (omega arith)

-- Eight bytes from the front of record n.
pub next_record : (file : List ℕ) (n : ℕ) → 8 * suc n ≤ length file → Bytes file → blank file n ≡ true
    → take (8 * suc n) file ≡ take (8 * n) file ++ record_bytes (kind_at file n) (hold_at file n) (value_at file n)
next_record file n h b z =
    ap (λ (k : ℕ). take k file) (let e : 8 * suc n ≡ 8 * n + 8 = omega arith in e) ∙ take-add (8 * n) 8 file
    ∙ ap (λ (l : List ℕ). take (8 * n) file ++ l) eight
  where
    long : length (take 8 (drop (8 * n) file)) ≡ 8
    long = length-take-le 8 (drop (8 * n) file) (omega (arith, length-drop (8 * n) file))

    eight : take 8 (drop (8 * n) file) ≡ record_bytes (kind_at file n) (hold_at file n) (value_at file n)
    eight =
        ext_get_or 0 (take 8 (drop (8 * n) file)) (record_bytes (kind_at file n) (hold_at file n) (value_at file n)) (long ∙ sym (length_record (kind_at file n) (hold_at file n) (value_at file n)))
        (λ i l. get_or-take 8 (drop (8 * n) file) i 0 (omega (arith, long)) ∙ get_or-drop (8 * n) file i 0 ∙ place_byte i (omega (arith, long)))
      where
        place_byte : (i : ℕ) → i < 8 → get_or file (8 * n + i) 0 ≡ get_or (record_bytes (kind_at file n) (hold_at file n) (value_at file n)) i 0
        place_byte i l = unfold byte_at in place_bytes file n b (blank_first file n z) i l

-- The other way: record i of a file is one of this kind, this hold and this value.
pub record Has (file : List ℕ) (i kind hold v : ℕ) : Type 0 where
  pub bytes : (j : ℕ) → j < 8 → byte_at file i j ≡ get_or (record_bytes kind hold v) j 0

module _ {file : List ℕ} {i kind hold v : ℕ} (h : Has file i kind hold v) where
  pub has_kind : kind_at file i ≡ kind
  unfolding kind_at record_bytes
  has_kind = h.bytes 0 (omega arith)

  has_first : byte_at file i 1 ≡ 0
  unfolding record_bytes
  has_first = h.bytes 1 (omega arith)

  pub processor_has_blank : kind ≡ processor_kind → blank file i ≡ true
  processor_has_blank e = sym (processor_blank file i (is_processor file i (has_kind ∙ e)) refl has_first refl)

  pub other_has_blank : kind ≢ processor_kind → hold ≡ 0 → blank file i ≡ true
  unfolding record_bytes half_bytes
  other_has_blank n e =
      sym (third_decides file i (not_processor file i (λ z. n (sym has_kind ∙ z))) refl has_first refl refl (h.bytes 2 (omega arith) ∙ omega arith) refl)
      ∙ eq-eqb (byte_at file i 3) 0 (h.bytes 3 (omega arith) ∙ omega arith)

  pub has_hold : hold < 2 ^ 16 → hold_at file i ≡ hold
  unfolding hold_at byte_at record_bytes
  has_hold l =
      half-held file (8 * i + 2) hold l
      (λ j k.
      ap (λ (n : ℕ). get_or file n 0) (let e : 8 * i + 2 + j ≡ 8 * i + suc (suc j) = omega arith in e)
      ∙ h.bytes (suc (suc j)) (omega arith) ∙ get_or-append (half_bytes hold) (field_bytes v) 0 j (omega (arith, length-half hold)))

  pub has_value : v < 2 ^ 32 → value_at file i ≡ v
  unfolding value_at byte_at record_bytes half_bytes
  has_value l =
      field-held file (8 * i + 4) v l
      (λ j k.
      ap (λ (n : ℕ). get_or file n 0) (let e : 8 * i + 4 + j ≡ 8 * i + suc (suc (suc (suc j))) = omega arith in e)
      ∙ h.bytes (suc (suc (suc (suc j)))) (omega arith))

-- Record i of a run of records, and what comes after them.
module _ (kind : ℕ) where
  front : (hold : ℕ → ℕ) (v : ℕ) (vs rest : List ℕ)
      → records_bytes kind hold (v ∷ vs) ++ rest ≡ record_bytes kind (hold 0) v ++ (records_bytes kind (λ i. hold (suc i)) vs ++ rest)
  unfolding records_bytes
  front hold v vs rest = append_assoc (record_bytes kind (hold 0) v) (records_bytes kind (λ i. hold (suc i)) vs) rest

  pub run_record : (hold : ℕ → ℕ) (vs rest : List ℕ) (i : ℕ) → i < length vs → Has (records_bytes kind hold vs ++ rest) i kind (hold i) (get_or vs i 0)
  unfolding byte_at
  run_record hold [] rest i h = absurd (let z : ⊥ = omega arith in z)
  run_record hold (v ∷ vs) rest zero h =
      record { bytes = λ j l. ap (λ (n : ℕ). get_or (records_bytes kind hold (v ∷ vs) ++ rest) n 0) (let e : 8 * 0 + j ≡ j = omega arith in e) ∙ ap (λ (s : List ℕ). get_or s j 0) (front hold v vs rest) ∙ get_or-append (record_bytes kind (hold 0) v) (records_bytes kind (λ i. hold (suc i)) vs ++ rest) 0 j (omega (arith, length_record kind (hold 0) v)) }
  run_record hold (v ∷ vs) rest (suc i) h =
      record {
        bytes = λ j l. ap (λ (n : ℕ). get_or (records_bytes kind hold (v ∷ vs) ++ rest) n 0) (let e : 8 * suc i + j ≡ length (record_bytes kind (hold 0) v) + (8 * i + j) = omega (arith, length_record kind (hold 0) v) in e) ∙ ap (λ (s : List ℕ). get_or s (length (record_bytes kind (hold 0) v) + (8 * i + j)) 0) (front hold v vs rest) ∙ get_or-append-add (record_bytes kind (hold 0) v) (records_bytes kind (λ i. hold (suc i)) vs ++ rest) (8 * i + j) 0 ∙ (run_record (λ i. hold (suc i)) vs rest i (omega arith)).bytes j l;
      }

  pub after_run : (hold : ℕ → ℕ) (vs rest : List ℕ) (i k a v : ℕ) → Has rest i k a v → Has (records_bytes kind hold vs ++ rest) (length vs + i) k a v
  unfolding byte_at
  after_run hold vs rest i k a v h =
      record {
        bytes = λ j l. ap (λ (n : ℕ). get_or (records_bytes kind hold vs ++ rest) n 0) (let e : 8 * (length vs + i) + j ≡ length (records_bytes kind hold vs) + (8 * i + j) = omega (arith, length_records kind hold vs) in e) ∙ get_or-append-add (records_bytes kind hold vs) rest (8 * i + j) 0 ∙ h.bytes j l;
      }

-- The record in front is a run of its own: of the start-up work, or of nothing.
unfoldable head_values : Edition → List ℕ
head_values First = []
head_values (Second c) = c ∷ []

head_length : (edition : Edition) → length (head_values edition) ≡ head_records edition
unfolding head_values head_records
head_length First = refl
head_length (Second c) = refl

head_run : (edition : Edition) → edition_bytes edition ≡ records_bytes startup_kind no_hold (head_values edition)
unfolding edition_bytes head_values records_bytes
head_run First = refl
head_run (Second c) = sym (append-nil (record_bytes startup_kind 0 c))

pub front_record : (c : ℕ) (rest : List ℕ) → Has (edition_bytes (Second c) ++ rest) 0 startup_kind 0 c
unfolding head_values
front_record c rest =
    subst (λ (l : List ℕ). Has (l ++ rest) 0 startup_kind 0 c) (sym (head_run (Second c))) (run_record startup_kind no_hold (c ∷ []) rest 0 (omega arith))

pub after_front : (edition : Edition) (rest : List ℕ) (i k a v : ℕ) → Has rest i k a v → Has (edition_bytes edition ++ rest) (head_records edition + i) k a v
after_front edition rest i k a v h =
    subst (λ (n : ℕ). Has (edition_bytes edition ++ rest) (n + i) k a v) (head_length edition)
    (subst (λ (l : List ℕ). Has (l ++ rest) (length (head_values edition) + i) k a v) (sym (head_run edition)) (after_run startup_kind no_hold (head_values edition) rest i k a v h))
