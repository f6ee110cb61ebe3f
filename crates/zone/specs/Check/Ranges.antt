-- Ranges, each once; what lies in one is finite. A comparison with a NaN is false, so a NaN lies in none.
-- Specification, Ranges; Zeros and NaN.
use Rattle.std.specs.Prelude.{ℕ, ◌^◌, Bool, true, ◌&&◌, List, [], ◌∷◌, ltb, leb, Float}
use Rattle.std.specs.Float.Ieee.{neg, lt, le}
use Rattle.solver.specs.F64.{decimal}

-- low to high, both included
abbrev pub from_to : (low high : Float) → Float → Bool
from_to low high x = le low x && le x high

-- above low, up to high, which is included
abbrev pub above_to : (low high : Float) → Float → Bool
above_to low high x = lt low x && le x high

-- areas and volume above 0 to 100,000
unfoldable pub area_range : Float → Bool
area_range = above_to (decimal 0 0) (decimal 100000 0)

-- pitch 0 to 180
unfoldable pub pitch_range : Float → Bool
pitch_range = from_to (decimal 0 0) (decimal 180 0)

-- h_ce, h_re, h_ri, thermal bridges 0 to 1e6
unfoldable pub coefficient_range : Float → Bool
coefficient_range = from_to (decimal 0 0) (decimal 1000000 0)

-- h_pli above 0 to 1e6
unfoldable pub h_pli_range : Float → Bool
h_pli_range = above_to (decimal 0 0) (decimal 1000000 0)

-- k_pli 0 to 1e7
unfoldable pub k_pli_range : Float → Bool
k_pli_range = from_to (decimal 0 0) (decimal 10000000 0)

-- fractions, shading, absorption 0 to 1
unfoldable pub fraction_range : Float → Bool
fraction_range = from_to (decimal 0 0) (decimal 1 0)

-- `therm_rad_to_sky` −10,000 to 10,000
unfoldable pub sky_range : Float → Bool
sky_range = from_to (neg (decimal 10000 0)) (decimal 10000 0)

-- `delta_r` 0 to 1,000
unfoldable pub delta_r_range : Float → Bool
delta_r_range = from_to (decimal 0 0) (decimal 1000 0)

-- irradiance 0 to 2,000
unfoldable pub irradiance_range : Float → Bool
irradiance_range = from_to (decimal 0 0) (decimal 2000 0)

-- gains, each by itself, −1e7 to 1e7
unfoldable pub gains_range : Float → Bool
gains_range = from_to (neg (decimal 10000000 0)) (decimal 10000000 0)

-- greatest heating and greatest cooling, W: 0 to 1e7
unfoldable pub power_limit_range : Float → Bool
power_limit_range = from_to (decimal 0 0) (decimal 10000000 0)

-- rates 0 to 1,000
unfoldable pub rate_range : Float → Bool
rate_range = from_to (decimal 0 0) (decimal 1000 0)

-- external, supply and first external temperature, `temp_ext`: −100 to 100
unfoldable pub temperature_range : Float → Bool
temperature_range = from_to (neg (decimal 100 0)) (decimal 100 0)

-- heating setpoint and first set temperature −273.15 to 100
unfoldable pub heating_setpoint_range : Float → Bool
heating_setpoint_range = from_to (neg (decimal 27315 2)) (decimal 100 0)

-- cooling, ventilation and first ventilation setpoint −273.15 to 1.4e32
unfoldable pub setpoint_range : Float → Bool
setpoint_range = from_to (neg (decimal 27315 2)) (decimal 140000000000000000000000000000000 0)

-- hour length 0.001 to 8,760
unfoldable pub hour_length_range : Float → Bool
hour_length_range = from_to (decimal 1 3) (decimal 8760 0)

-- start-up limit 1 to 10,000
abbrev pub limit_range : ℕ → Bool
limit_range n = leb 1 n && leb n 10000

-- every one of a list
unfoldable pub all_in : (Float → Bool) → List Float → Bool
all_in range [] = true
all_in range (x ∷ xs) = range x && all_in range xs

-- no open bit past the treatments: bit 0, the least significant, is the first treatment
abbrev pub open_within : (treatments bits : ℕ) → Bool
open_within t bits = ltb bits (2 ^ t)
