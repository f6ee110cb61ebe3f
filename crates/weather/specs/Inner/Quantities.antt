-- What the two kinds of fields are tested by.
use Rattle.std.specs.Prelude.{ℕ, Bool, List, Float}
use Rattle.zone.specs.Promise.{Result}
use Rattle.zone.specs.Check.Ranges.{temperature_range, irradiance_range}
use Rattle.weather.specs.declared.fraction.Fraction.{Fraction}
use Rattle.weather.specs.declared.quantity.Quantity.{Quantity}
use Rattle.weather.specs.declared.quantity.Quantity.TheVariants.{DryBulb, Radiation}
use Rattle.weather.specs.Decimal.{Decimal, is}
use Rattle.weather.specs.Weather.{tested}
use Rattle.weather.specs.Inner.Decimals.{is_fraction}

-- 99.9 or 9999
abbrev pub missing_of : Quantity → Decimal → Bool
missing_of DryBulb = is 999 1
missing_of Radiation = is 9999 0

-- the same of the fraction
abbrev pub means_missing : Quantity → Fraction → Bool
means_missing DryBulb = is_fraction 999 1
means_missing Radiation = is_fraction 9999 0

abbrev pub range_of : Quantity → Float → Bool
range_of DryBulb = temperature_range
range_of Radiation = irradiance_range

-- dry_bulb or radiation
abbrev pub reading : Quantity → (field : List ℕ) → Result Float
reading q field = tested (missing_of q) (range_of q) field
