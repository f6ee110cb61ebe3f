-- Magnitudes and finiteness: std's words and those of specs/Closeness.antt say the same.
use Rattle.std.proofs.Common.{◌≡◌, refl, sym, ap, subst, Bool, true, false, not, ◌&&◌, zero, suc, ◌*◌, pow-suc, arith, ℤ, pos, negsuc, T, eqb→eq, Float}
use lib.Ieee.{nan, inf, fin, binary64, up, down, fits, eq, ne}
use Rattle.std.specs.Float.{float_with_sign, float_is_finite}
use Rattle.solver.specs.F64.{zero64}
use Rattle.solver.specs.Closeness.{abs, is_finite, valid_divisor}

-- a test that computes to false is not true
pub never : {A : Type 0} → false ≡ true → A
never h = absurd (subst T (sym h) tt)

-- `abs` of std: a zero that a format holds has the exponent 0
pub without_sign : (x : Float) → T (fits binary64 x) → float_with_sign false x ≡ abs x
unfolding float_with_sign abs fits
without_sign nan h = refl
without_sign (inf s) h = refl
without_sign (fin s zero e) h = ap (fin false zero) (whole e (eqb→eq (up e * down e) 1 h))
  where
    whole : (e : ℤ) → up e * down e ≡ 1 → e ≡ pos 0
    whole (pos zero) k = refl
    whole (pos (suc n)) k = absurd (omega (arith, pow-suc 2 n))
    whole (negsuc n) k = absurd (omega (arith, pow-suc 2 n))
without_sign (fin s (suc m) e) h = refl

pub finite_same : (x : Float) → float_is_finite x ≡ is_finite x
unfolding float_is_finite is_finite
finite_same nan = refl
finite_same (inf s) = refl
finite_same (fin s m e) = refl

-- the code's test of a divisor
pub divisor_test : (x : Float) → (ne x zero64 && float_is_finite x) ≡ valid_divisor x
unfolding ne valid_divisor
divisor_test x = ap (λ (b : Bool). not (eq x zero64) && b) (finite_same x)
