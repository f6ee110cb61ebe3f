-- What is claimed of the three questions: of the definitions that the contracts of their functions cite. Comparisons, distance, bound and the refusal's number
-- are written out.
-- Specification, Questions over a book.
use Rattle.std.specs.Prelude.{ℕ, zero, suc, ◌+◌, ◌<◌, ◌≡◌, ◌↔◌, Bool, true, false, not, cond, ◌&&◌, List, ◌++◌, length, get_or, Float, None, Some}
use Rattle.std.proofs.Math.Option.{none}
use Rattle.std.specs.Float.Ieee.{neg, lt, le}
use Rattle.solver.specs.F64.{◌-ᶠ◌, decimal}
use Rattle.solver.specs.Closeness.{abs}
use Rattle.zone.specs.Promise.{ok, refused}
use Rattle.zone.specs.Calls.State.{operative_of}
use Rattle.book.specs.Model.Calls.{BookState, take_up_res}
use Rattle.book.specs.Model.Plain.{Entry, Contents, last_state, used_bytes, WellFormed}
use Rattle.book.specs.Model.PlainTakeUp.{contents_in}
use Rattle.book.specs.Year.{Carried, entry_length, year_interface}
use Rattle.tools.specs.Questions.{hour_temperatures, start_temperature, after, before, value_valid, band_valid, first_above_in, hours_within_in, nearest_hour_in}

-- of n numbers from i on, how many pass the test
unfoldable pub count_of : ℕ → ℕ → (ℕ → Bool) → ℕ
count_of zero i test = 0
count_of (suc n) i test = cond (test i) 1 0 + count_of n (suc i) test

-- ---- of an accepted book

module _ (c : Contents year_interface) where
  abbrev pub hours_held : ℕ
  hours_held = length c.entries

  -- after hour i, and before it
  abbrev pub temperature : (i : ℕ) → Float
  temperature i = after (hour_temperatures c) i

  abbrev pub temperature_before : (i : ℕ) → Float
  temperature_before i = before (start_temperature c) (hour_temperatures c) i

  -- hour i is one at which the temperature goes from at or below a given value to above it
  pub record GoesAbove (value : Float) (i : ℕ) : Type 0 where
    pub held : i < hours_held
    pub at_or_below : le (temperature_before i) value ≡ true
    pub above : lt value (temperature i) ≡ true

  -- it is the first such hour
  pub record FirstAbove (value : Float) (i : ℕ) : Type 0 where
    pub goes_above : GoesAbove value i
    pub none_earlier : (j : ℕ) → j < i → GoesAbove value j → ⊥

  -- it has no nearer hour, and no earlier one as near
  pub record NearestHour (value : Float) (i : ℕ) : Type 0 where
    pub held : i < hours_held
    pub none_nearer_lem : (j : ℕ) → j < hours_held → lt (abs (temperature j -ᶠ value)) (abs (temperature i -ᶠ value)) ≡ false
    pub none_as_near : (j : ℕ) → j < i → le (abs (temperature j -ᶠ value)) (abs (temperature i -ᶠ value)) ≡ false

  -- hour i lies within the inclusive band
  abbrev pub in_band : (lower upper : Float) → (i : ℕ) → Bool
  in_band lower upper i = le lower (temperature i) && le (temperature i) upper

  pub record AcceptedClaims (bytes : List ℕ) : Type 0 where
    pub first : (value : Float) → value_valid value ≡ true → (i : ℕ) → (first_above_in bytes value ≡ ok (Some i)) ↔ FirstAbove value i
    pub no_first : (value : Float) → value_valid value ≡ true → (first_above_in bytes value ≡ ok None) ↔ ((i : ℕ) → GoesAbove value i → ⊥)
    pub nearest : (value : Float) → value_valid value ≡ true → (i : ℕ) → nearest_hour_in bytes value ≡ ok (Some i) → NearestHour value i
    pub some_nearest : (value : Float) → value_valid value ≡ true → 0 < hours_held → (i : ℕ) × (nearest_hour_in bytes value ≡ ok (Some i))
    pub no_nearest : (value : Float) → value_valid value ≡ true → (nearest_hour_in bytes value ≡ ok None) ↔ (hours_held ≡ 0)
    -- as many hours as lie within the band; 0 exactly where none does, all exactly where all do
    pub counted : (lower upper : Float) → band_valid lower upper ≡ true → hours_within_in bytes lower upper ≡ ok (count_of hours_held 0 (in_band lower upper))
    pub none_within : (lower upper : Float) → band_valid lower upper ≡ true
        → (hours_within_in bytes lower upper ≡ ok 0) ↔ ((i : ℕ) → i < hours_held → in_band lower upper i ≡ false)
    pub all_within : (lower upper : Float) → band_valid lower upper ≡ true
        → (hours_within_in bytes lower upper ≡ ok hours_held) ↔ ((i : ℕ) → i < hours_held → in_band lower upper i ≡ true)
    -- 20 where a value is not within ±1e6 or a band's lower end is above its upper, also of a book without hours
    pub first_invalid_lem : (value : Float) → value_valid value ≡ false → first_above_in bytes value ≡ refused 20 0
    pub within_invalid : (lower upper : Float) → band_valid lower upper ≡ false → hours_within_in bytes lower upper ≡ refused 20 0
    pub nearest_invalid : (value : Float) → value_valid value ≡ false → nearest_hour_in bytes value ≡ refused 20 0

-- ---- of any bytes

pub record QuestionClaims : Type 0 where
  -- The temperature after an hour is the operative one of the state after its entry; before the first entry stand the start-up's temperatures, before any
  -- other the one after the hour before it.
  pub after_hour : (c : Contents year_interface) (i : ℕ) → i < hours_held c → (none_there : Entry year_interface)
      → temperature c i ≡ operative_of c.zone (get_or c.entries i none_there).after.state.temps
  pub before_first : (c : Contents year_interface) → temperature_before c 0 ≡ operative_of c.zone c.start.state.temps
  pub before_next : (c : Contents year_interface) (i : ℕ) → temperature_before c (suc i) ≡ temperature c i
  -- a value that is taken is within ±1e6, both included; the upper end of a band is not below its lower
  pub valid_value : (value : Float) → value_valid value ≡ (le (neg (decimal 1000000 0)) value && le value (decimal 1000000 0))
  pub valid_band : (lower upper : Float) → band_valid lower upper ≡ (value_valid lower && value_valid upper && not (lt upper lower))
  -- A question is asked of what a take-up accepts: there are as many hours as its count, and the state after the last is the one that it hands back. Of other
  -- bytes the question has the take-up's refusal, whatever the value.
  pub accepted : (bytes : List ℕ) (v : BookState Carried) → take_up_res year_interface bytes ≡ ok v
      → (c : Contents year_interface) × (contents_in year_interface bytes ≡ ok c) × (hours_held c ≡ v.count) × (last_state c.start c.entries ≡ v.state)
  pub asked_of : (bytes : List ℕ) (c : Contents year_interface) → contents_in year_interface bytes ≡ ok c → AcceptedClaims c bytes
  pub refused_first : (bytes : List ℕ) (number index : ℕ) → take_up_res year_interface bytes ≡ refused number index
      → (contents_in year_interface bytes ≡ refused number index)
      × ((value : Float) → first_above_in bytes value ≡ refused number index)
      × ((lower upper : Float) → hours_within_in bytes lower upper ≡ refused number index)
      × ((value : Float) → nearest_hour_in bytes value ≡ refused number index)
  -- Of the used bytes of a book that calls left, and a rest behind them that a take-up drops, it is the book's own hours.
  pub of_book : (head : List ℕ) (is : List year_interface.Item) (S : WellFormed year_interface head is) (rest : List ℕ)
      → entry_length S.contents.zone rest ≡ none → contents_in year_interface (used_bytes year_interface head S.contents ++ rest) ≡ ok S.contents
