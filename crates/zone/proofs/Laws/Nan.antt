-- A NaN differs from itself, and nothing else does.
use Rattle.std.proofs.Common.{◌≡◌, refl, sym, subst, ◌∙◌, Bool, true, false, not, T, Float}
use lib.Ieee.{nan, inf, fin, is_nan, ne}
use lib.Ieee.Compare.{differs_from_itself, nan_differs}

-- `x != x` holds of a NaN alone
pub differs_nan : (x : Float) → ne x x ≡ true → x ≡ nan
differs_nan x e = differs_from_itself x (subst T (sym e) tt)

pub alike_no_nan : (x : Float) → ne x x ≡ false → T (not (is_nan x))
unfolding is_nan
alike_no_nan nan e = absurd (subst T (sym nan_differs ∙ e) tt)
alike_no_nan (inf s) e = tt
alike_no_nan (fin s m d) e = tt

false_by : (b : Bool) → T (not b) → false ≡ b
false_by true t = absurd t
false_by false t = refl

differs_by : (x : Float) (b : Bool) → ne x x ≡ b → b ≡ is_nan x
unfolding is_nan
differs_by x true e = rw (differs_nan x e) refl
differs_by x false e = false_by (is_nan x) (alike_no_nan x e)

pub differs_is : (x : Float) → ne x x ≡ is_nan x
differs_is x = differs_by x (ne x x) refl
