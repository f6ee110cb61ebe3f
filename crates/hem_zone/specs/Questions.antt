-- The questions over a book (tools specs/Questions.antt). Each definition gives the returned number, then what stands in `hour` or `hours` after the call.
-- Specification, Questions over a book; Answers in C.
use Rattle.std.specs.Prelude.{ℕ, ◌-◌, ◌^◌, List, Option, unwrap_or, Float}
use Rattle.tools.specs.Questions.{first_above_in, hours_within_in, nearest_hour_in}
use Rattle.hem_zone.specs.Code.{answered}

-- HEM_NONE, UINT64_MAX: there is no such hour
abbrev pub none64 : ℕ
none64 = 2 ^ 64 - 1

abbrev pub hour_or_none : Option ℕ → ℕ
hour_or_none o = unwrap_or o none64

unfoldable pub hem_first_above_outcome : (bytes : List ℕ) → (value : Float) → (hour : ℕ) → ℕ × ℕ
hem_first_above_outcome bytes value hour = answered hour_or_none hour (first_above_in bytes value)

unfoldable pub hem_hours_within_outcome : (bytes : List ℕ) → (lower upper : Float) → (hours : ℕ) → ℕ × ℕ
hem_hours_within_outcome bytes lower upper hours = answered (λ n. n) hours (hours_within_in bytes lower upper)

unfoldable pub hem_nearest_hour_outcome : (bytes : List ℕ) → (value : Float) → (hour : ℕ) → ℕ × ℕ
hem_nearest_hour_outcome bytes value hour = answered hour_or_none hour (nearest_hour_in bytes value)
