-- Which numbers and indices the weather of a line is refused with.
use Rattle.std.proofs.Common.{ℕ, Bool, not, List, length, leb, Float}
use Rattle.std.specs.Prelude.{Option, Some, None}
use Rattle.zone.specs.Promise.{RefusesOnly, accepts, refuses}
use Rattle.zone.proofs.Promise.{because, bind_refuses}
use Rattle.zone.specs.Check.Ranges.{temperature_range, irradiance_range}
use Rattle.weather.specs.Numbers.{dry_bulb_field, direct_normal_field, diffuse_horizontal_field, most_digits, absent, invalid, missing}
use Rattle.weather.specs.Lines.{line_of, field_of}
use Rattle.weather.specs.Decimal.{Decimal, decimal_of, value, is}
use Rattle.weather.specs.Weather.{present, tested, weather_from, weather_in, weather_of}
use Rattle.weather.specs.Refusals.{WeatherRefusal, weather_absent, weather_invalid, weather_missing, WeatherRefusals}

present_refuses : {P : ℕ → ℕ → Type 0} {A : Type 0} (number : ℕ) (o : Option A) → P number 0 → RefusesOnly P (present number o)
present_refuses number (Some a) p = accepts a
present_refuses number None p = refuses p

-- a field: 22 and 23
tested_refuses : (is_missing : Decimal → Bool) (range : Float → Bool) (field : List ℕ) → RefusesOnly WeatherRefusal (tested is_missing range field)
unfolding tested
tested_refuses is_missing range field =
    bind_refuses _ (present_refuses invalid (decimal_of field) weather_invalid) λ d _.
    because (leb (length d.digits) most_digits) invalid 0 _ (λ _. weather_invalid) λ _.
    because (not (is_missing d)) missing 0 _ (λ _. weather_missing) λ _.
    because (range (value d)) invalid 0 _ (λ _. weather_invalid) λ _.
    accepts _

from_refuses : (seventh fifteenth sixteenth : List ℕ) → RefusesOnly WeatherRefusal (weather_from seventh fifteenth sixteenth)
unfolding weather_from
from_refuses seventh fifteenth sixteenth =
    bind_refuses _ (tested_refuses (is 999 1) temperature_range seventh) λ t _.
    bind_refuses _ (tested_refuses (is 9999 0) irradiance_range fifteenth) λ n _.
    bind_refuses _ (tested_refuses (is 9999 0) irradiance_range sixteenth) λ h _.
    accepts _

-- a line: before them 21
in_refuses : (line : List ℕ) → RefusesOnly WeatherRefusal (weather_in line)
unfolding weather_in
in_refuses line =
    bind_refuses _ (present_refuses absent (field_of line dry_bulb_field) weather_absent) λ seventh _.
    bind_refuses _ (present_refuses absent (field_of line direct_normal_field) weather_absent) λ fifteenth _.
    bind_refuses _ (present_refuses absent (field_of line diffuse_horizontal_field) weather_absent) λ sixteenth _.
    from_refuses seventh fifteenth sixteenth

weather_refuses : (file : List ℕ) (line : ℕ) → RefusesOnly WeatherRefusal (weather_of file line)
unfolding weather_of
weather_refuses file line = bind_refuses _ (present_refuses absent (line_of file line) weather_absent) λ chosen _. in_refuses chosen

pub weather_refusals : WeatherRefusals
weather_refusals = record { weather = weather_refuses }
