-- What is claimed of the weather of a line: every file is written in lines and fields, and is read as it is written.
-- Specification, Weather of a line; Decimals of a weather file; Ranges.
use Rattle.std.specs.Prelude.{ℕ, suc, ◌+◌, ◌≤◌, ◌<◌, ◌≡◌, ◌↔◌, Bool, true, false, ◌&&◌, List, [], ◌∷◌, ◌++◌, length, get_or, replicate, Some}
use Rattle.std.specs.Float.{binary64}
use Rattle.std.specs.Float.Ieee.{of_bits}
use Rattle.zone.specs.Promise.{ok, refused}
use Rattle.zone.specs.Check.Ranges.{temperature_range, irradiance_range}
use Rattle.weather.specs.declared.weather.Weather.{Weather}
use Rattle.weather.specs.Numbers.{line_feed, carriage_return, comma, minus_sign, point}
use Rattle.weather.specs.Split.{without}
use Rattle.weather.specs.Lines.{without_return}
use Rattle.weather.specs.Decimal.{Decimal, is_digits, decimal_of, value}
use Rattle.weather.specs.Examples.{FieldExamples, FileExample}
use Rattle.weather.specs.Weather.{weather_from, weather_in, weather_of}

-- ---- how a file is written

-- lines, each of which ends with a line feed
unfoldable pub joined : List (List ℕ) → List ℕ
joined [] = []
joined (line ∷ lines) = line ++ line_feed ∷ joined lines

-- fields with commas between them
unfoldable pub separated : List (List ℕ) → List ℕ
separated [] = []
separated (field ∷ []) = field
separated (field ∷ next ∷ others) = field ++ comma ∷ separated (next ∷ others)

-- none of them has the separator
unfoldable pub all_without : (separator : ℕ) → List (List ℕ) → Bool
all_without c [] = true
all_without c (p ∷ ps) = without c p && all_without c ps

abbrev pub signed : (minus : Bool) → List ℕ → List ℕ
signed true bs = minus_sign ∷ bs
signed false bs = bs

-- A decimal is a minus or none, one digit or more, and perhaps a point with one digit or more behind it.
pub data Written : (field : List ℕ) → Decimal → Type 0 where
  whole : (minus : Bool) (digits : List ℕ) → is_digits digits ≡ true → Written (signed minus digits) (record { minus = minus; digits = digits; places = 0 })
  with_point : (minus : Bool) (before after : List ℕ) → is_digits before ≡ true → is_digits after ≡ true
      → Written (signed minus (before ++ point ∷ after)) (record { minus = minus; digits = before ++ after; places = length after })

-- 9007199254740993, which is 2 ^ 53 + 1 and lies in the middle between two floats, and the next such, which ends in 5: by the byte of the lowest digit
abbrev pub tie : (lowest : ℕ) → Decimal
tie lowest = record { minus = false; digits = 57 ∷ 48 ∷ 48 ∷ 55 ∷ 49 ∷ 57 ∷ 57 ∷ 50 ∷ 53 ∷ 52 ∷ 55 ∷ 52 ∷ 48 ∷ 57 ∷ 57 ∷ lowest ∷ []; places = 0 }

-- digits with a minus: -0 and -0.0 below
abbrev pub minus_zero : (digits : List ℕ) → (places : ℕ) → Decimal
minus_zero digits places = record { minus = true; digits = digits; places = places }

-- ---- lines: the headers, so many other lines, and the line that is chosen

pub record LineClaims (earlier : List (List ℕ)) (n : ℕ) (line rest : List ℕ) : Type 0 where
  -- A line ends with LF, or with CR LF; the last also at the end of the file, where a CR is content.
  pub line_feed_lem : weather_of (joined earlier ++ line ++ line_feed ∷ rest) (suc n) ≡ weather_in (without_return line)
  pub return_line_feed : weather_of (joined earlier ++ line ++ carriage_return ∷ line_feed ∷ rest) (suc n) ≡ weather_in line
  pub end_of_file : weather_of (joined earlier ++ line) (suc n) ≡ weather_in line
  -- A line alone, with its own end, behind eight line feeds has the same answer as in its file.
  pub line_alone : weather_of (joined earlier ++ line ++ line_feed ∷ rest) (suc n) ≡ weather_of (replicate 8 line_feed ++ line ++ line_feed ∷ []) 1
  pub last_line_alone : weather_of (joined earlier ++ line) (suc n) ≡ weather_of (replicate 8 line_feed ++ line) 1

-- ---- of any bytes

-- Every file is so written: lines that end with a line feed, and what stands behind the last of them.
pub record FileLines (file : List ℕ) : Type 0 where
  pub earlier : List (List ℕ)
  pub line : List ℕ
  pub earlier_apart : all_without line_feed earlier ≡ true
  pub line_apart : without line_feed line ≡ true
  pub is_file : file ≡ joined earlier ++ line

-- Every line is fields with commas between them.
pub record LineFields (line : List ℕ) : Type 0 where
  pub fields : List (List ℕ)
  pub apart : all_without comma fields ≡ true
  pub is_line : line ≡ separated fields

pub record WeatherClaims : Type 0 where
  pub every_file : (file : List ℕ) → FileLines file
  pub every_line : (line : List ℕ) → LineFields line
  pub lines : (earlier : List (List ℕ)) (n : ℕ) (line rest : List ℕ) → all_without line_feed earlier ≡ true → length earlier ≡ 8 + n → without line_feed line ≡ true
      → LineClaims earlier n line rest
  -- 21, a line or field is absent: there is no line 0, and none behind the last;
  pub no_line_0 : (file : List ℕ) → weather_of file 0 ≡ refused 21 0
  pub no_line : (earlier : List (List ℕ)) (n : ℕ) (line : List ℕ) → all_without line_feed earlier ≡ true → length earlier < 8 + n → without line_feed line ≡ true
      → weather_of (joined earlier ++ line) (suc n) ≡ refused 21 0
  -- and a line has sixteen fields or more, else 21.
  pub fields : (fields : List (List ℕ)) → all_without comma fields ≡ true → 16 ≤ length fields
      → weather_in (separated fields) ≡ weather_from (get_or fields 6 []) (get_or fields 14 []) (get_or fields 15 [])
  pub few_fields : (fields : List (List ℕ)) → all_without comma fields ≡ true → length fields < 16 → weather_in (separated fields) ≡ refused 21 0
  -- A decimal is read exactly where one is written, and as it is written.
  pub decimals : (field : List ℕ) (d : Decimal) → (decimal_of field ≡ Some d) ↔ Written field d
  -- ties to even, below and above; a minus stays on a zero
  pub tie_below : value (tie 51) ≡ of_bits binary64 0x4340_0000_0000_0000
  pub tie_above : value (tie 53) ≡ of_bits binary64 0x4340_0000_0000_0002
  pub minus_zero_lem : value (minus_zero (48 ∷ []) 0) ≡ of_bits binary64 0x8000_0000_0000_0000
  pub minus_zero_places : value (minus_zero (48 ∷ 48 ∷ []) 1) ≡ of_bits binary64 0x8000_0000_0000_0000
  -- what is no decimal; too many digits before missing, and missing before the range
  pub examples : FieldExamples
  pub file : FileExample
  -- What is accepted lies in the ranges of an hour's conditions.
  pub in_range : (file : List ℕ) (line : ℕ) (w : Weather) → weather_of file line ≡ ok w
      → (temperature_range w.dry_bulb ≡ true) × (irradiance_range w.direct_normal ≡ true) × (irradiance_range w.diffuse_horizontal ≡ true)
