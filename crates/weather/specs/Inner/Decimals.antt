-- What is read of a field.
use Rattle.std.specs.Prelude.{ℕ, ◌*◌, ◌^◌, ◌≡◌, ◌==◌, Bool, not, cond, ◌&&◌, List, ◌++◌, length, leb, Option, Some, None}
use Rattle.weather.specs.declared.fraction.Fraction.{Fraction}
use Rattle.weather.specs.Numbers.{point, most_digits}
use Rattle.weather.specs.Split.{split}
use Rattle.weather.specs.Decimal.{Decimal, decimal_of, unsigned, number}

-- digits before and after the point
abbrev pub of_digits : (minus : Bool) → (whole fraction : List ℕ) → Decimal
of_digits minus whole fraction = record { minus = minus; digits = whole ++ fraction; places = length fraction }

-- a decimal of at most 12 digits
abbrev pub short : Option Decimal → Option Decimal
short None = None
short (Some d) = cond (leb (length d.digits) most_digits) (Some d) None

abbrev pub short_unsigned : (minus : Bool) → (bytes : List ℕ) → Option Decimal
short_unsigned minus bs = short (unsigned minus (split point bs))

abbrev pub short_decimal : (field : List ℕ) → Option Decimal
short_decimal field = short (decimal_of field)

-- its sign and the fraction that it writes
pub record WrittenAs (wanted : Option Decimal) (f : Fraction) : Type 0 where
  pub decimal : Decimal
  pub wanted_is : wanted ≡ Some decimal
  pub minus_is : f.minus ≡ decimal.minus
  pub number_is : f.number ≡ number decimal.digits
  pub power_is : f.power ≡ 10 ^ decimal.places

abbrev pub Reads : (wanted : Option Decimal) → Option Fraction → Type 0
Reads wanted None = wanted ≡ None
Reads wanted (Some f) = WrittenAs wanted f

-- the fraction is n / 10 ^ k
abbrev pub is_fraction : (n k : ℕ) → Fraction → Bool
is_fraction n k f = not f.minus && (f.number * 10 ^ k == n * f.power)
