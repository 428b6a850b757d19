-- Fields both ways: what was written is read, and what was read is written, at any place.
-- Assumes nothing.
use Prim.Native.Nat.{ℕ, zero, suc, ◌+◌, ◌*◌, ◌/◌, ◌%◌, ◌≤◌, ◌<◌, ◌^◌}
use mathlib.Core.Path.{◌≡◌, refl, sym, ap, ◌∙◌}
use mathlib.Core.List.{List, ◌++◌, append_assoc}
use native.Mathlib.Omega.{arith}
use lib.ListN.{length, get_or, take, drop, length-drop, take-append-drop, get_or-append}
use lib.Seq.{length-take-le, get_or-take, get_or-drop, get_or-append-add, drop-drop, ext_get_or}
use Rattle.fields.specs.Field.{Bytes, field_size, field_bytes, field_at, half_size, half_bytes, half_at}

pub length-field : (v : ℕ) → length (field_bytes v) ≡ field_size
unfolding field_bytes
length-field v = refl

-- A field's bytes are bytes.
pub field_bytes_lem : (v : ℕ) → Bytes (field_bytes v)
unfolding field_bytes
field_bytes_lem v zero = omega arith
field_bytes_lem v (suc zero) = omega arith
field_bytes_lem v (suc (suc zero)) = omega arith
field_bytes_lem v (suc (suc (suc zero))) = omega arith
field_bytes_lem v (suc (suc (suc (suc i)))) = omega arith

-- Four digits to the base 256, the lowest first: put together,
digits : (v x y z a b c d : ℕ) → v ≡ 256 * x + a → x ≡ 256 * y + b → y ≡ 256 * z + c → z ≡ d
    → a + 256 * b + 65536 * c + 16777216 * d ≡ v
digits v x y z a b c d e f g h = omega arith

-- and taken out.
module _ (a b c d : ℕ) (ha : a < 256) (hb : b < 256) (hc : c < 256) (hd : d < 256) where
  digit_0 : a ≡ (a + 256 * b + 65536 * c + 16777216 * d) % 256
  digit_0 = omega arith

  digit_1 : b ≡ (a + 256 * b + 65536 * c + 16777216 * d) / 256 % 256
  digit_1 = omega arith

  digit_2 : c ≡ (a + 256 * b + 65536 * c + 16777216 * d) / 65536 % 256
  digit_2 = omega arith

  digit_3 : d ≡ (a + 256 * b + 65536 * c + 16777216 * d) / 16777216 % 256
  digit_3 = omega arith

-- Two lists that hold the same four bytes at two places hold the same field there.
pub field_same : (xs ys : List ℕ) (m n : ℕ) → ((j : ℕ) → j < field_size → get_or xs (m + j) 0 ≡ get_or ys (n + j) 0) → field_at xs m ≡ field_at ys n
unfolding field_at
field_same xs ys m n h =
    let z : get_or xs m 0 ≡ get_or ys n 0 = ap (λ (k : ℕ). get_or xs k 0) (let e : m ≡ m + 0 = omega arith in e) ∙ h 0 (omega arith) ∙ ap (λ (k : ℕ). get_or ys k 0) (let e : n + 0 ≡ n = omega arith in e) in
    rw (z, h 1 (omega arith), h 2 (omega arith), h 3 (omega arith))

-- A field's bytes are read as the field,
pub field_reads : (v : ℕ) → v < 2 ^ 32 → field_at (field_bytes v) 0 ≡ v
unfolding field_at field_bytes
field_reads v h =
    digits v (v / 256) (v / 65536) (v / 16777216) (v % 256) (v / 256 % 256) (v / 65536 % 256) (v / 16777216 % 256)
    (omega arith) (omega arith) (omega arith) (omega arith)

-- at any place of any list that holds them.
pub field-held : (bytes : List ℕ) (n v : ℕ) → v < 2 ^ 32 → ((j : ℕ) → j < field_size → get_or bytes (n + j) 0 ≡ get_or (field_bytes v) j 0) → field_at bytes n ≡ v
field-held bytes n v h each =
    field_same bytes (field_bytes v) n 0 (λ j l. each j l ∙ ap (λ (k : ℕ). get_or (field_bytes v) k 0) (let e : j ≡ 0 + j = omega arith in e))
    ∙ field_reads v h

-- Bytes in front only move the places, bytes behind are not read.
pub field_after : (A B : List ℕ) (n k : ℕ) → length A ≡ n → field_at (A ++ B) (n + k) ≡ field_at B k
field_after A B n k e =
    field_same (A ++ B) B (n + k) k
    (λ j h. ap (λ (i : ℕ). get_or (A ++ B) i 0) (let x : n + k + j ≡ length A + (k + j) = omega arith in x) ∙ get_or-append-add A B (k + j) 0)

pub field-front : (v : ℕ) (C : List ℕ) → v < 2 ^ 32 → field_at (field_bytes v ++ C) 0 ≡ v
field-front v C h =
    field-held (field_bytes v ++ C) 0 v h
    (λ j l.
    ap (λ (k : ℕ). get_or (field_bytes v ++ C) k 0) (let e : 0 + j ≡ j = omega arith in e)
    ∙ get_or-append (field_bytes v) C 0 j (omega (arith, length-field v)))

-- What was written at a place is read there.
pub read_back : (A C : List ℕ) (n v : ℕ) → length A ≡ n → v < 2 ^ 32 → field_at (A ++ field_bytes v ++ C) n ≡ v
read_back A C n v e h =
    ap (λ (l : List ℕ). field_at l n) (append_assoc A (field_bytes v) C)
    ∙ ap (field_at (A ++ (field_bytes v ++ C))) (let x : n ≡ n + 0 = omega arith in x)
    ∙ field_after A (field_bytes v ++ C) n 0 e ∙ field-front v C h

-- What is read at a place has the bytes that stand there,
pub field-digits : (bytes : List ℕ) (n : ℕ) → Bytes bytes → (j : ℕ) → j < field_size → get_or bytes (n + j) 0 ≡ get_or (field_bytes (field_at bytes n)) j 0
unfolding field_bytes field_at
field-digits l n b zero h =
    ap (λ (k : ℕ). get_or l k 0) (let e : n + 0 ≡ n = omega arith in e)
    ∙ digit_0 (get_or l n 0) (get_or l (n + 1) 0) (get_or l (n + 2) 0) (get_or l (n + 3) 0) (b n) (b (n + 1)) (b (n + 2)) (b (n + 3))
field-digits l n b (suc zero) h = digit_1 (get_or l n 0) (get_or l (n + 1) 0) (get_or l (n + 2) 0) (get_or l (n + 3) 0) (b n) (b (n + 1)) (b (n + 2)) (b (n + 3))
field-digits l n b (suc (suc zero)) h = digit_2 (get_or l n 0) (get_or l (n + 1) 0) (get_or l (n + 2) 0) (get_or l (n + 3) 0) (b n) (b (n + 1)) (b (n + 2)) (b (n + 3))
field-digits l n b (suc (suc (suc zero))) h = digit_3 (get_or l n 0) (get_or l (n + 1) 0) (get_or l (n + 2) 0) (get_or l (n + 3) 0) (b n) (b (n + 1)) (b (n + 2)) (b (n + 3))
field-digits l n b (suc (suc (suc (suc j)))) h = absurd (let w : ⊥ = omega arith in w)

pub field_taken : (bytes : List ℕ) (n : ℕ) → Bytes bytes → n + field_size ≤ length bytes → take field_size (drop n bytes) ≡ field_bytes (field_at bytes n)
field_taken bytes n b h =
    ext_get_or 0 (take field_size (drop n bytes)) (field_bytes (field_at bytes n)) (long ∙ sym (length-field (field_at bytes n)))
    (λ j l. get_or-take field_size (drop n bytes) j 0 (omega (arith, long)) ∙ get_or-drop n bytes j 0 ∙ field-digits bytes n b j (omega (arith, long)))
  where
    long : length (take field_size (drop n bytes)) ≡ field_size
    long = length-take-le field_size (drop n bytes) (omega (arith, length-drop n bytes))

-- so that writing it there changes nothing.
pub written_back : (bytes : List ℕ) (n : ℕ) → Bytes bytes → n + field_size ≤ length bytes
    → take n bytes ++ field_bytes (field_at bytes n) ++ drop (n + field_size) bytes ≡ bytes
written_back bytes n b h =
    ap (λ (l : List ℕ). take n bytes ++ l ++ drop (n + field_size) bytes) (sym (field_taken bytes n b h))
    ∙ append_assoc (take n bytes) (take field_size (drop n bytes)) (drop (n + field_size) bytes)
    ∙ ap (λ (l : List ℕ). take n bytes ++ (take field_size (drop n bytes) ++ l)) (sym (drop-drop field_size n bytes))
    ∙ ap (λ (l : List ℕ). take n bytes ++ l) (take-append-drop field_size (drop n bytes)) ∙ take-append-drop n bytes

-- Half a field in the same way: its bytes are read as it, at any place of any list that holds them,
pub length-half : (v : ℕ) → length (half_bytes v) ≡ half_size
unfolding half_bytes
length-half v = refl

pub half-held : (bytes : List ℕ) (n v : ℕ) → v < 2 ^ 16 → ((j : ℕ) → j < half_size → get_or bytes (n + j) 0 ≡ get_or (half_bytes v) j 0) → half_at bytes n ≡ v
unfolding half_at half_bytes
half-held bytes n v h each =
    let z : get_or bytes n 0 ≡ v % 256 = ap (λ (k : ℕ). get_or bytes k 0) (let e : n ≡ n + 0 = omega arith in e) ∙ each 0 (omega arith) in
    rw (z, each 1 (omega arith)) (omega arith)

-- and what is read at a place has the bytes that stand there, and is of 16 bits.
pub half-digits : (bytes : List ℕ) (n : ℕ) → Bytes bytes → (j : ℕ) → j < half_size → get_or bytes (n + j) 0 ≡ get_or (half_bytes (half_at bytes n)) j 0
unfolding half_bytes half_at
half-digits l n b zero h =
    ap (λ (k : ℕ). get_or l k 0) (let e : n + 0 ≡ n = omega arith in e) ∙ omega (arith, b n, b (n + 1))
half-digits l n b (suc zero) h = omega (arith, b n, b (n + 1))
half-digits l n b (suc (suc j)) h = absurd (let w : ⊥ = omega arith in w)

pub half_limit : (bytes : List ℕ) (n : ℕ) → Bytes bytes → half_at bytes n < 2 ^ 16
unfolding half_at
half_limit l n b = omega (arith, b n, b (n + 1))
