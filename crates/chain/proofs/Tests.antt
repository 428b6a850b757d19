-- Tests that pass and tests that fail, and two tests at once.
-- Assumes nothing.
use mathlib.Core.Path.{◌≡◌, refl, sym, subst}
use mathlib.Core.Bool.{Bool, true, false, not, ◌&&◌}
use lib.Dec.{T}

-- A test passes exactly when it is true, and fails exactly when it is false.
pub T_of : {t : Bool} → t ≡ true → T t
T_of e = subst T (sym e) tt

pub T-not-of : {t : Bool} → t ≡ false → T (not t)
T-not-of e = subst (λ (x : Bool). T (not x)) (sym e) tt

pub T_true : (t : Bool) → T t → t ≡ true
T_true true x = refl
T_true false x = absurd x

pub T_false : (t : Bool) → T (not t) → t ≡ false
T_false true x = absurd x
T_false false x = refl

-- Two tests at once pass exactly when both do: the first,
pub and_left : (x y : Bool) → T (x && y) → T x
and_left true y t = tt
and_left false y t = t

-- the second,
pub and_right : (x y : Bool) → T (x && y) → T y
and_right true y t = t
and_right false y t = absurd t

-- and back.
pub and_both : (x y : Bool) → T x → T y → T (x && y)
and_both true y t u = u
and_both false y t u = t

-- Where they fail and the first passes, the second fails.
pub and_fails : (x y : Bool) → T x → T (not (x && y)) → T (not y)
and_fails true y t u = u
and_fails false y t u = absurd t

-- Two tests that pass together are equal.
pub same_test : (x y : Bool) → (T x → T y) → (T y → T x) → x ≡ y
same_test true true f g = refl
same_test true false f g = absurd (f tt)
same_test false true f g = absurd (g tt)
same_test false false f g = refl
