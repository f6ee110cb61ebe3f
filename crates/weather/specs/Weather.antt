-- The three numbers of a chosen line of an EnergyPlus weather file.
-- Specification, Weather of a line; Decimals of a weather file; Ranges.
use Rattle.std.specs.Prelude.{ℕ, Bool, not, List, length, leb, Float, Option, Some, None}
use Rattle.zone.specs.Promise.{Result, ok, refused, bind, require}
use Rattle.zone.specs.Check.Ranges.{temperature_range, irradiance_range}
use Rattle.weather.specs.declared.weather.Weather.{Weather}
use Rattle.weather.specs.Numbers.{dry_bulb_field, direct_normal_field, diffuse_horizontal_field, most_digits, absent, invalid, missing}
use Rattle.weather.specs.Lines.{line_of, field_of}
use Rattle.weather.specs.Decimal.{Decimal, decimal_of, value, is}

-- goes on with what is there, else refuses
abbrev pub present : {A : Type 0} → (number : ℕ) → Option A → Result A
present number (Some a) = ok a
present number None = refused number 0

-- no decimal 22, more than 12 digits 22, missing 23, out of range 22, in this order
unfoldable pub tested : (is_missing : Decimal → Bool) → (range : Float → Bool) → (field : List ℕ) → Result Float
tested is_missing range field =
    bind (present invalid (decimal_of field)) λ d.
    bind (require (leb (length d.digits) most_digits) invalid) λ _.
    bind (require (not (is_missing d)) missing) λ _.
    bind (require (range (value d)) invalid) λ _.
    ok (value d)

-- a dry bulb of 99.9 is missing, and so is a radiation of 9999
abbrev pub dry_bulb : (field : List ℕ) → Result Float
dry_bulb field = tested (is 999 1) temperature_range field

abbrev pub radiation : (field : List ℕ) → Result Float
radiation field = tested (is 9999 0) irradiance_range field

-- the fields are tested one by one in file order
unfoldable pub weather_from : (seventh fifteenth sixteenth : List ℕ) → Result Weather
weather_from seventh fifteenth sixteenth =
    bind (dry_bulb seventh) λ t.
    bind (radiation fifteenth) λ n.
    bind (radiation sixteenth) λ h.
    ok (record { dry_bulb = t; direct_normal = n; diffuse_horizontal = h })

-- 21 where any of the three fields is absent; then the fields themselves
unfoldable pub weather_in : (line : List ℕ) → Result Weather
weather_in line =
    bind (present absent (field_of line dry_bulb_field)) λ seventh.
    bind (present absent (field_of line direct_normal_field)) λ fifteenth.
    bind (present absent (field_of line diffuse_horizontal_field)) λ sixteenth.
    weather_from seventh fifteenth sixteenth

-- the three numbers of the line of this number; 21 where it is absent
unfoldable pub weather_of : (file : List ℕ) → (line : ℕ) → Result Weather
weather_of file line = bind (present absent (line_of file line)) weather_in
