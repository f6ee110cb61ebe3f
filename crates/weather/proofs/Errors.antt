-- A refusal's number names it.
use Rattle.std.proofs.Common.{ℕ, ◌-◌, ◌≡◌, refl, sym, ap, ◌∙◌, [], ◌∷◌, get_or}
use Rattle.weather.specs.declared.weather_error.WeatherError.{WeatherError}
use Rattle.weather.specs.declared.weather_error.WeatherError.TheVariants.{Absent, Invalid, Missing}
use Rattle.weather.specs.Numbers.{absent}
use Rattle.weather.specs.Answers.{number_of}
use Rattle.weather.specs.Refusals.{OneError}

-- the error of a number from 21 on
abbrev error_of : (number : ℕ) → WeatherError
error_of n = get_or (Absent ∷ Invalid ∷ Missing ∷ []) (n - absent) Absent

error_back : (e : WeatherError) → error_of (number_of e) ≡ e
error_back Absent = refl
error_back Invalid = refl
error_back Missing = refl

pub one_error : OneError
one_error e e' n = sym (error_back e) ∙ ap error_of n ∙ error_back e'
