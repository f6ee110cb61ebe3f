-- What an answer of the code says: a value, or number and index of a refusal.
-- Specification, What a refusal is; Table of refusals.
use Rattle.std.specs.Prelude.{ℕ, Ok, Err}
use Rattle.std.specs.Prelude.{Result as Answer}
use Rattle.zone.specs.Promise.{Result, ok, refused}
use Rattle.weather.specs.declared.weather_error.WeatherError.{WeatherError}
use Rattle.weather.specs.declared.weather_error.WeatherError.TheVariants.{Absent, Invalid, Missing}
use Rattle.weather.specs.Numbers.{absent, invalid, missing}

abbrev pub number_of : WeatherError → ℕ
number_of Absent = absent
number_of Invalid = invalid
number_of Missing = missing

abbrev pub answered : {A : Type 0} → Answer A WeatherError → Result A
answered (Ok value) = ok value
answered (Err error) = refused (number_of error) 0
