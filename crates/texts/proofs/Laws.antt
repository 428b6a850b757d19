-- Texts put one behind another, and the digits of a number.
-- Assumes nothing.
use Prim.Native.Nat.{ℕ, zero, suc, ◌+◌, ◌-◌, ◌*◌, ◌/◌, ◌%◌, ◌^◌, ◌≤◌, ◌<◌}
use mathlib.Core.Path.{◌≡◌, refl, sym, ap, subst, ◌∙◌}
use mathlib.Core.Bool.{Bool, cond}
use mathlib.Core.List.{List, [], ◌∷◌, ◌++◌, append_cancel_left, append_cancel_right}
use mathlib.Core.Logic.{inl, inr}
use native.Mathlib.Omega.{arith}
use native.Mathlib.Decide.{dec_le}
use native.Mathlib.Nat.{pow-le-pow_right, pow-succ'}
use lib.Dec.{ltb, lit<}
use lib.ListN.{length, set, take, drop, length-append}
use lib.Seq.{sets, sets-eq, take_all, take_at}
use native.Mathlib.Nat.{le_refl}
use borrow.Rule.Slice.PartMut.{put_mid}
use Rattle.std.proofs.lemmas.Slice.{put_mid-paste}
use borrow.Author.Tests.{ltb-true, ltb-false, lt-ltb}
use Rattle.io.specs.Digits.{hex_digit_ascii, last_digits, IsDigitCount}
use Rattle.chain.specs.Lists.{smallest_from}
use Rattle.chain.proofs.Indices.{Smallest, smallest_is}
use Rattle.texts.specs.Text.{text, width, decimal, field, labelled, refusal_line}
use Rattle.texts.specs.Room.{Put}
use Rattle.texts.specs.Page.{Puts}
use Rattle.texts.specs.declared.Page.{Page}

-- Stores that follow one another are one run.
sets_then : (s t l : List ℕ) (i : ℕ) → sets (sets l i s) (i + length s) t ≡ sets l i (s ++ t)
sets_then [] t l i = ap (λ (k : ℕ). sets l k t) (let e : i + 0 ≡ i = omega arith in e)
sets_then (x ∷ s) t l i =
    ap (λ (k : ℕ). sets (sets (set l i x) (suc i) s) k t) (let e : i + suc (length s) ≡ suc i + length s = omega arith in e)
    ∙ sets_then s t (set l i x) (suc i)

-- Nothing put, and a text put behind another.
pub put_none : (at : ℕ) (out : List ℕ) → Put [] at out out at
put_none at out = record { bytes = refl; behind = omega arith }

pub put_then : {s t o o₁ o₂ : List ℕ} {a b c : ℕ} → Put s a o o₁ b → Put t b o₁ o₂ c → Put (s ++ t) a o o₂ c
put_then {s} {t} {o} {o₁} {o₂} {a} {b} {c} p q =
    record {
      bytes = q.bytes ∙ ap (λ (l : List ℕ). sets l b t) p.bytes ∙ ap (λ (k : ℕ). sets (sets o a s) k t) p.behind ∙ sets_then s t o a;
      behind = omega (arith, p.behind, q.behind, length-append s t);
    }

-- The same text by another name.
pub put_as : {s t o o₁ : List ℕ} {a b : ℕ} → s ≡ t → Put s a o o₁ b → Put t a o o₁ b
put_as {s} {t} {o} {o₁} {a} {b} e p = subst (λ (l : List ℕ). Put l a o o₁ b) e p

-- A text put at the front of a buffer that has room for it: the bytes behind it stay.
pub put_front : {s o o₁ : List ℕ} {n : ℕ} → Put s 0 o o₁ n → n ≤ length o → (n ≡ length s) × (o₁ ≡ s ++ drop n o)
put_front {s} {o} {o₁} {n} p h =
    let e : n ≡ length s = omega (arith, p.behind) in
    (e, p.bytes ∙ sets-eq s o 0 (omega arith) ∙ ap (λ (k : ℕ). s ++ drop k o) (let f : 0 + length s ≡ n = omega arith in f))

-- It is then read at the front.
pub put_read : {s o o₁ : List ℕ} {n : ℕ} → Put s 0 o o₁ n → n ≤ length o → (take n o₁ ≡ s) × (n ≤ length o₁)
put_read {s} {o} {o₁} {n} p h =
    let f = put_front p h in
    (ap (take n) f.1 ∙ take_at s (drop n o) n (sym f.0), omega (arith, f.0, ap length f.1, length-append s (drop n o)))

-- A text copied into the part of a buffer that begins at an index.
pub put_part : {new out copied : List ℕ} {at : ℕ} → at + length new ≤ length out → copied ≡ new
    → Put new at out (put_mid at (at + length new - at) out copied) (at + length new)
put_part {new} {out} {copied} {at} h e =
    let whole : length new ≡ at + length new - at = omega arith in
    record {
      bytes = put_mid-paste at (at + length new - at) out copied new (length new) e whole refl
          ∙ ap (λ (l : List ℕ). take at out ++ l ++ drop (at + length new) out)
          (take_all (length new) new (le_refl (length new)))
          ∙ sym (sets-eq new out at h);
      behind = refl;
    }

-- The same of pages: nothing put, a text put behind another, and the same text by another name.
pub puts_none : (page : Page) → Puts [] page page
puts_none page = record { put = put_none page.at page.out.now; size = refl; same_buffer = refl }

pub puts_then : {s t : List ℕ} {p p₁ p₂ : Page} → Puts s p p₁ → Puts t p₁ p₂ → Puts (s ++ t) p p₂
puts_then a b =
    record { put = put_then a.put b.put; size = b.size ∙ a.size; same_buffer = b.same_buffer ∙ a.same_buffer }

pub puts_as : {s t : List ℕ} {p p₁ : Page} → s ≡ t → Puts s p p₁ → Puts t p p₁
puts_as {s} {t} {p} {p₁} e a = subst (λ (l : List ℕ). Puts l p p₁) e a

-- What was put on a page that was empty stands at the front of its buffer.
pub puts_all : {s out later : List ℕ} {p p₁ : Page} {n : ℕ} → Puts s p p₁ → p.out.now ≡ out → p.at ≡ 0
    → later ≡ p₁.out.now → n ≡ p₁.at → Put s 0 out later n
puts_all {s} {out} {later} {p} {p₁} {n} a bytes empty left written =
    record {
      bytes = left ∙ a.put.bytes ∙ ap (λ (o : List ℕ). sets o p.at s) bytes ∙ ap (λ (k : ℕ). sets out k s) empty;
      behind = omega (arith, a.put.behind, empty, written);
    }

-- A power of ten is above its exponent.
above : (n : ℕ) → n < 10 ^ n
above zero = lit< tt
above (suc n) = let e = pow-succ' 10 n in let h = above n in omega (arith, e, h)

-- The width of a number is the fewest digits that hold it, and at least one;
pub width_fewest : (n : ℕ) → IsDigitCount 10 1 n (width n)
unfolding width
width_fewest n = go (smallest_from (λ j. ltb n (10 ^ j)) 1 n) (smallest_is (λ j. ltb n (10 ^ j)) 1 n)
  where
    go : (r : ℕ) → Smallest (λ j. ltb n (10 ^ j)) 1 n r → IsDigitCount 10 1 n r
    go r s = (
      s.from,
      elim s.found [ inl x ↦ (let y = above r in omega (arith, x, y)) | inr x ↦ ltb-true n (10 ^ r) x ],
      λ h. ltb-false n (10 ^ (r - 1)) (s.before (r - 1) (omega arith) (omega arith)),
    )

-- no other number of digits is.
pub fewest_width : {n k : ℕ} → IsDigitCount 10 1 n k → k ≡ width n
unfolding width
fewest_width {n} {k} f = sym (go (smallest_from (λ j. ltb n (10 ^ j)) 1 n) (smallest_is (λ j. ltb n (10 ^ j)) 1 n))
  where
    go : (r : ℕ) → Smallest (λ j. ltb n (10 ^ j)) 1 n r → r ≡ k
    go r s =
        elim (dec_le (suc k) r) [
          | yes m ↦ let x = ltb-false n (10 ^ k) (s.before k f.0 m) in absurd (omega (arith, x, f.1))
          | no m ↦ elim (dec_le (suc r) k) [ yes l ↦ absurd (early l) | no l ↦ omega arith ]
        ]
      where
        early : suc r ≤ k → ⊥
        early l =
            let high : 10 ^ (k - 1) ≤ n = f.2 (omega (arith, s.from)) in
            let low : 10 ^ r ≤ 10 ^ (k - 1) = pow-le-pow_right (lit< tt) {i = r} {j = k - 1} (omega arith) in
            elim s.found [
              | inl x ↦ let y = above r in omega (arith, x, y, high, low)
              | inr x ↦ let y = ltb-true n (10 ^ r) x in omega (arith, y, high, low)
            ]

pub number-text : {n k : ℕ} {t : List ℕ} → IsDigitCount 10 1 n k → t ≡ last_digits 10 k n → t ≡ decimal n
unfolding decimal
number-text {n} f e = e ∙ ap (λ (j : ℕ). last_digits 10 j n) (fewest_width f)

-- A number read from its digits, behind those that gave v.
abbrev told : ℕ → List ℕ → ℕ
told v [] = v
told v (d ∷ ds) = told (10 * v + (d - 48)) ds

told_snoc : (v : ℕ) (ds : List ℕ) (d : ℕ) → told v (ds ++ (d ∷ [])) ≡ 10 * told v ds + (d - 48)
told_snoc v [] d = refl
told_snoc v (x ∷ ds) d = told_snoc (10 * v + (x - 48)) ds d

glyph_digit : (d : ℕ) → d < 10 → hex_digit_ascii d - 48 ≡ d
glyph_digit d h = ap (λ (b : Bool). cond b (48 + d) (87 + d) - 48) (lt-ltb d 10 h) ∙ omega arith

told_digits : (k n : ℕ) → n < 10 ^ k → told 0 (last_digits 10 k n) ≡ n
told_digits zero n h = omega arith
told_digits (suc k) n h =
    let e = pow-succ' 10 k in
    let below : n / 10 < 10 ^ k = omega (arith, e, h) in
    let front = told_digits k (n / 10) below in
    let last : hex_digit_ascii (n % 10) - 48 ≡ n % 10 = glyph_digit (n % 10) (omega arith) in
    omega (arith, told_snoc 0 (last_digits 10 k (n / 10)) (hex_digit_ascii (n % 10)), front, last)

-- Numbers with one text are one, and so are those with one line of a refusal.
decimal_one : (m n : ℕ) → decimal m ≡ decimal n → m ≡ n
unfolding decimal
decimal_one m n e = sym (told_digits (width m) m (width_fewest m).1) ∙ ap (told 0) e ∙ told_digits (width n) n (width_fewest n).1

pub refusal_one : (m n : ℕ) → refusal_line m ≡ refusal_line n → m ≡ n
unfolding refusal_line labelled field
refusal_one m n e =
    let labels = append_cancel_right (labelled "refused" m) (labelled "refused" n) (text "\n") e in
    let numbers = append_cancel_left (text "refused") (field m) (field n) labels in
    decimal_one m n (append_cancel_left (text " ") (decimal m) (decimal n) numbers)
