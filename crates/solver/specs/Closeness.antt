-- Magnitudes, closeness, and the tests of divisors and of temperatures.
-- Specification, Magnitude and bounds; Closeness.
use Rattle.std.specs.Prelude.{zero, suc, Bool, true, false, not, cond, ◌&&◌, ◌||◌, pos, Float}
use Rattle.std.specs.Float.{nan, inf, fin}
use Rattle.std.specs.Float.Ieee.{lt, le, eq, neg}
use Rattle.solver.specs.F64.{◌-ᶠ◌, ◌*ᶠ◌, zero64, decimal}

-- |x|; of either zero it is +0.0
unfoldable pub abs : Float → Float
abs nan = nan
abs (inf s) = inf false
abs (fin s zero e) = fin false 0 (pos 0)
abs (fin s (suc m) e) = fin false (suc m) e

-- neither infinite nor a NaN
unfoldable pub is_finite : Float → Bool
is_finite nan = false
is_finite (inf s) = false
is_finite (fin s m e) = true

-- y where x is below it, and x otherwise (also where one of the two is a NaN)
abbrev pub max : Float → Float → Float
max x y = cond (lt x y) y x

-- The original's `relative_eq!`: equal, or both finite and |a - b| at most epsilon, or at most max_relative times
-- the larger magnitude, a product that is rounded once. So equal infinities are close, and a NaN is close to nothing.
unfoldable pub relative_eq : (a b epsilon max_relative : Float) → Bool
relative_eq a b epsilon max_relative =
    let difference = abs (a -ᶠ b) in
    eq a b
    || (is_finite a
    && is_finite b
    && (le difference epsilon || le difference (max_relative *ᶠ max (abs a) (abs b))))

-- its three pairs: in the demand epsilon 1e-10, max_relative 1e-9
unfoldable pub close_in_demand : Float → Float → Bool
close_in_demand a b = relative_eq a b (decimal 1 10) (decimal 1 9)

-- in start-up: both 1e-8
unfoldable pub isclose : Float → Float → Bool
isclose a b = relative_eq a b (decimal 1 8) (decimal 1 8)

-- the windows test: epsilon 1e-8, max_relative 1e-10
unfoldable pub close_in_windows_test : Float → Float → Bool
close_in_windows_test a b = relative_eq a b (decimal 1 8) (decimal 1 10)

-- what a chain or an elimination may divide by, else the solve is refused with 12: not zero (−0.0 is zero), and finite
unfoldable pub valid_divisor : Float → Bool
valid_divisor x = not (eq x zero64) && is_finite x

abbrev pub state_bound : Float
state_bound = decimal 1000000 0

-- within ±1e6, both included; no infinity and no NaN is. Where it is not, a solve is refused with 13, and a given state with 6
unfoldable pub within_state_bound : Float → Bool
within_state_bound x = le (neg state_bound) x && le x state_bound
