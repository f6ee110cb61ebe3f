-- The weather of a line (weather specs/Weather.antt). The definition gives the returned number, then what stands in `weather` after the call.
-- Specification, Weather of a line; Answers in C.
use Rattle.std.specs.Prelude.{ℕ, List, [], ◌∷◌, Float}
use Rattle.weather.specs.declared.weather.Weather.{Weather}
use Rattle.weather.specs.Weather.{weather_of}
use Rattle.hem_zone.specs.Code.{answered}

-- dry bulb, direct normal, diffuse horizontal
abbrev pub weather_out : Weather → List Float
weather_out w = w.dry_bulb ∷ w.direct_normal ∷ w.diffuse_horizontal ∷ []

unfoldable pub hem_weather_outcome : (file : List ℕ) → (line : ℕ) → (weather : List Float) → ℕ × List Float
hem_weather_outcome file line weather = answered weather_out weather (weather_of file line)
