-- Which numbers and indices the weather of a line can be refused with.
-- Specification, Order of tests; What a refusal is.
use Rattle.std.specs.Prelude.{ℕ, ◌≡◌, List}
use Rattle.zone.specs.Promise.{RefusesOnly}
use Rattle.weather.specs.declared.weather_error.WeatherError.{WeatherError}
use Rattle.weather.specs.Numbers.{absent, invalid, missing}
use Rattle.weather.specs.Answers.{number_of}
use Rattle.weather.specs.Weather.{weather_of}

pub data WeatherRefusal : (number index : ℕ) → Type 0 where
  weather_absent : WeatherRefusal absent 0
  weather_invalid : WeatherRefusal invalid 0
  weather_missing : WeatherRefusal missing 0

-- for every input
pub record WeatherRefusals : Type 0 where
  pub weather : (file : List ℕ) (line : ℕ) → RefusesOnly WeatherRefusal (weather_of file line)

-- no two errors have one number
abbrev pub OneError : Type 0
OneError = (e e' : WeatherError) → number_of e ≡ number_of e' → e ≡ e'
