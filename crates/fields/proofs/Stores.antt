-- Bytes put at a place of a list.
-- Assumes nothing.
use Prim.Native.Nat.{ℕ, ◌+◌, ◌-◌, ◌≤◌}
use mathlib.Core.Path.{◌≡◌, sym, ap, ap₂, ◌∙◌}
use mathlib.Core.List.{List, ◌++◌, append_assoc}
use native.Mathlib.Omega.{arith}
use lib.ListN.{length, take, drop, length-append, length-drop}
use lib.Seq.{take_at, length-take-le, drop-drop, drop-append-add}

-- Bytes copied over k bytes from place a on, as the code leaves them.
pub part_copied : (l R : List ℕ) (a k : ℕ) {now : List ℕ} → now ≡ R
    → take a l ++ (now ++ drop (a + k - a) (drop a l)) ≡ take a l ++ R ++ drop (a + k) l
part_copied l R a k {now} e =
    ap₂ (λ (x y : List ℕ). take a l ++ (x ++ y)) e (drop-drop (a + k - a) a l ∙ ap (λ (n : ℕ). drop n l) (let m : a + (a + k - a) ≡ a + k = omega arith in m))
    ∙ sym (append_assoc (take a l) R (drop (a + k) l))

-- Bytes put within a list leave its length.
pub put_length : (l R : List ℕ) (a k : ℕ) → length R ≡ k → a + k ≤ length l → length (take a l ++ R ++ drop (a + k) l) ≡ length l
put_length l R a k e h =
    length-append (take a l ++ R) (drop (a + k) l)
    ∙ omega (arith, length-append (take a l) R, length-take-le a l (omega arith), length-drop (a + k) l)

-- k bytes R put where n bytes A end, in place of the first k of C.
pub put_between : (A C R : List ℕ) (n k : ℕ) → length A ≡ n → take n (A ++ C) ++ R ++ drop (n + k) (A ++ C) ≡ A ++ R ++ drop k C
put_between A C R n k e =
    ap₂ (λ (x y : List ℕ). x ++ R ++ y) (take_at A C n e)
    (ap (λ (m : ℕ). drop (m + k) (A ++ C)) (sym e) ∙ drop-append-add A C k)

-- The first n bytes are A and the others are still those of l: k bytes R are put next.
pub put_next : (l A R : List ℕ) (n k : ℕ) → length A ≡ n
    → take n (A ++ drop n l) ++ R ++ drop (n + k) (A ++ drop n l) ≡ A ++ R ++ drop (n + k) l
put_next l A R n k e = put_between A (drop n l) R n k e ∙ ap (λ (x : List ℕ). A ++ R ++ x) (drop-drop k n l)
