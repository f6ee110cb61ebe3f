-- Written decimals and their values.
-- Specification, Decimals of a weather file.
use Rattle.std.specs.Prelude.{ℕ, ◌+◌, ◌-◌, ◌*◌, ◌^◌, Bool, true, false, not, cond, ◌&&◌, List, [], ◌∷◌, ◌++◌, length, leb, eqb, ◌==◌, Float, Option, Some, None}
use Rattle.std.specs.List.{list_all}
use Rattle.std.specs.Float.{binary64}
use Rattle.std.specs.Float.Ieee.{round}
use Rattle.weather.specs.Numbers.{minus_sign, point, digit0, digit9}
use Rattle.weather.specs.Split.{split}

-- a decimal as it is written
pub record Decimal : Type 0 where
  pub minus : Bool
  -- all its digits, those before the point and those after it
  pub digits : List ℕ
  -- how many stand after the point
  pub places : ℕ

abbrev pub is_digit : ℕ → Bool
is_digit b = leb digit0 b && leb b digit9

abbrev pub all_digits : List ℕ → Bool
all_digits bs = list_all is_digit bs

-- one digit or more
abbrev pub is_digits : List ℕ → Bool
is_digits bs = not (length bs == 0) && all_digits bs

-- digits, and perhaps a point with digits behind it, given as the pieces between its points
unfoldable pub unsigned : (minus : Bool) → List (List ℕ) → Option Decimal
unsigned minus [] = None
unsigned minus (whole ∷ []) = cond (is_digits whole) (Some (record { minus = minus; digits = whole; places = 0 })) None
unsigned minus (whole ∷ fraction ∷ []) =
    cond (is_digits whole && is_digits fraction) (Some (record { minus = minus; digits = whole ++ fraction; places = length fraction })) None
unsigned minus (whole ∷ fraction ∷ third ∷ others) = None

-- A decimal is a minus or none, one digit or more, and perhaps a point with one digit or more behind it.
unfoldable pub decimal_of : (field : List ℕ) → Option Decimal
decimal_of [] = None
decimal_of (b ∷ bs) = cond (eqb b minus_sign) (unsigned true (split point bs)) (unsigned false (split point (b ∷ bs)))

-- the number that digits write, the highest first
unfoldable pub number : (digits : List ℕ) → ℕ
number [] = 0
number (b ∷ bs) = (b - digit0) * 10 ^ length bs + number bs

-- The binary64 nearest to number / 10 ^ places, ties to even, by the library's rounding; a zero with a minus is -0.0.
unfoldable pub value : Decimal → Float
value d = round binary64 d.minus (number d.digits) (10 ^ d.places)

-- it is n / 10 ^ k before any rounding, has no minus, and may have zeros in front and behind
unfoldable pub is : (n k : ℕ) → Decimal → Bool
is n k d = not d.minus && eqb (number d.digits * 10 ^ k) (n * 10 ^ d.places)
