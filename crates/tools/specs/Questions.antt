-- Three questions over an accepted book. The definitions speak of the plain book's hours and of the states after them.
-- Specification, Questions over a book.
use Rattle.std.specs.Prelude.{ℕ, ◌+◌, Bool, not, cond, ◌&&◌, ◌||◌, List, [], ◌∷◌, map, length, get_or, ltb, Float, Option, None, Some}
use Rattle.std.specs.Float.{nan}
use Rattle.std.specs.Float.Ieee.{is_nan, lt, le}
use Rattle.solver.specs.F64.{◌-ᶠ◌}
use Rattle.solver.specs.Closeness.{abs, within_state_bound}
use Rattle.solver.specs.Repeat.{all}
use Rattle.zone.specs.Promise.{Result, ok, bind, require}
use Rattle.zone.specs.Calls.State.{operative_of}
use Rattle.book.specs.Model.Bytes.{first_below}
use Rattle.book.specs.Model.Plain.{Contents}
use Rattle.book.specs.Model.PlainTakeUp.{contents_in}
use Rattle.book.specs.Year.{year_interface}
use Rattle.tools.specs.Numbers.{question_value}

-- ---- the temperatures: operative, whatever the zone's basis

-- the one after each hour. Hours are numbered from 0.
abbrev pub hour_temperatures : Contents year_interface → List Float
hour_temperatures c = map (λ e. operative_of c.zone e.after.state.temps) c.entries

-- Before the first entry stand the start-up's temperatures.
abbrev pub start_temperature : Contents year_interface → Float
start_temperature c = operative_of c.zone c.start.state.temps

-- after hour i, and before it
abbrev pub after : (temperatures : List Float) → (i : ℕ) → Float
after ts i = get_or ts i nan

abbrev pub before : (start : Float) → (temperatures : List Float) → (i : ℕ) → Float
before start ts i = get_or (start ∷ ts) i nan

-- the first of so many hours that passes a test; none where no hour does
unfoldable pub first_hour : (hours : ℕ) → (ℕ → Bool) → Option ℕ
first_hour hours test = cond (ltb (first_below hours test) hours) (Some (first_below hours test)) None

-- ---- the first hour at which the operative temperature goes from at or below a given value to above it

abbrev pub goes_above : (value temperature_before temperature : Float) → Bool
goes_above value temperature_before temperature = le temperature_before value && lt value temperature

unfoldable pub first_above : (value start : Float) → (temperatures : List Float) → Option ℕ
first_above value start ts = first_hour (length ts) λ i. goes_above value (before start ts i) (after ts i)

-- ---- the number of hours within an inclusive band

abbrev pub within : (lower upper temperature : Float) → Bool
within lower upper temperature = le lower temperature && le temperature upper

unfoldable pub hours_within : (lower upper : Float) → (temperatures : List Float) → ℕ
hours_within lower upper [] = 0
hours_within lower upper (t ∷ ts) = cond (within lower upper t) 1 0 + hours_within lower upper ts

-- ---- the hour nearest to a given temperature, the distance rounded once, the earlier on a tie

abbrev pub distance : (value temperature : Float) → Float
distance value temperature = abs (temperature -ᶠ value)

-- one distance is less than another; a NaN, were there one, is more than every number
unfoldable pub nearer : (a b : Float) → Bool
nearer a b = lt a b || (not (is_nan a) && is_nan b)

-- no hour is nearer than hour i
unfoldable pub none_nearer : (value : Float) → (temperatures : List Float) → (i : ℕ) → Bool
none_nearer value ts i = all 0 (length ts) λ j. not (nearer (distance value (after ts j)) (distance value (after ts i)))

unfoldable pub nearest_hour : (value : Float) → (temperatures : List Float) → Option ℕ
nearest_hour value ts = first_hour (length ts) (none_nearer value ts)

-- ---- over bytes: the take-up's refusals, then 20 where a value is not within ±1e6 or a band's upper end is below its lower

-- finite and within ±1e6, both included: the bound that temperatures have
abbrev pub value_valid : Float → Bool
value_valid value = within_state_bound value

abbrev pub band_valid : (lower upper : Float) → Bool
band_valid lower upper = value_valid lower && value_valid upper && not (lt upper lower)

unfoldable pub first_above_in : (bytes : List ℕ) → (value : Float) → Result (Option ℕ)
first_above_in bytes value =
    bind (contents_in year_interface bytes) λ c.
    bind (require (value_valid value) question_value) λ _.
    ok (first_above value (start_temperature c) (hour_temperatures c))

unfoldable pub hours_within_in : (bytes : List ℕ) → (lower upper : Float) → Result ℕ
hours_within_in bytes lower upper =
    bind (contents_in year_interface bytes) λ c.
    bind (require (band_valid lower upper) question_value) λ _.
    ok (hours_within lower upper (hour_temperatures c))

unfoldable pub nearest_hour_in : (bytes : List ℕ) → (value : Float) → Result (Option ℕ)
nearest_hour_in bytes value =
    bind (contents_in year_interface bytes) λ c.
    bind (require (value_valid value) question_value) λ _.
    ok (nearest_hour value (hour_temperatures c))
