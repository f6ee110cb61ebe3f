-- An hour that is in range is read from its bytes.
use Rattle.std.proofs.Common.{ℕ, suc, zero, ◌+◌, ◌*◌, ◌-◌, ◌<◌, ◌≤◌, ◌≡◌, refl, sym, ap, ◌∙◌, true, List, [], ◌∷◌, ◌++◌, map, append_assoc, append-nil, arith, le-leb, eq-eqb, take, drop, length, get_or, replicate, take_at, length-take-le, length-append, Float, to_bits}
use lib.Ieee.{nan, binary64}
use Rattle.solver.specs.Result.{ok}
use Rattle.zone.specs.Physics.Slots.{element, element_hour}
use Rattle.zone.specs.Format.Bytes.{Bytes, num_at, float_at, float_size, bytes_of}
use Rattle.zone.specs.Format.Layout.{element_hour_size, rate_code, first_rate, second_rate, first_element_hour, conditions_length}
use Rattle.zone.specs.Format.Decode.{no_element_hour}
use Rattle.zone.specs.Format.Encode.{float_bytes, row_bytes}
use Rattle.zone.specs.Format.Conditions.{ach_args_at, element_hours_at, conditions_at, rate_code_valid, open_bits_valid, hour_and_gains_in_range, setpoints_in_range, conditions_test, conditions_of}
use Rattle.zone.specs.Check.Ranges.{open_within}
use Rattle.zone.specs.Claims.Encode.{element_hour_bytes, element_hours_bytes, ach_args_bytes, conditions_bytes}
use Rattle.zone.specs.Claims.RoundTrip.{ElementHourFits, RatesFit, ConditionsFit, conditions_as_read, code_taken, HourInRange, HourRead}
use Rattle.zone.specs.declared.record.building_element.ElementHour.{ElementHour}
use Rattle.zone.specs.declared.record.building_element.Element.{Element}
use Rattle.zone.specs.declared.record.zone_record.Zone.{Zone}
use Rattle.zone.specs.declared.format.conditions.AirChangesPerHourArgument.{AirChangesPerHourArgument}
use Rattle.zone.specs.declared.format.conditions.AirChangesPerHourArgument.TheVariants.{Cooling, TargetAndWindowsOpen}
use Rattle.zone.specs.declared.format.conditions.Conditions.{Conditions}
use Rattle.zone.specs.declared.format.conditions.FixedRate.{FixedRate}
use Rattle.zone.specs.declared.format.conditions.FixedRate.TheVariants.{Retired, StillTaken}
use Rattle.zone.proofs.Laws.RoundTrip.{past, byte_there, number_there, float_there, in_row}
use Rattle.zone.proofs.Laws.ReadBack.{Each, each_of_first, all_fit, open_there, hour_there, length_hour}
use Rattle.zone.proofs.Laws.AreBytes.{none_bytes, cons_bytes, append_bytes, number_bytes, floats_bytes, hour_bytes}
use Rattle.zone.proofs.Claims.ForBook.{length_bytes_of, length_row}

-- ---- the elements' parts

length_hours : (hs : List ElementHour) → length (element_hours_bytes hs) ≡ element_hour_size * length hs
unfolding element_hours_bytes
length_hours [] = refl
length_hours (h ∷ hs) = omega (arith, length-append (element_hour_bytes h) (element_hours_bytes hs), length_hour h, length_hours hs)

hours_bytes : (hs : List ElementHour) → Each ElementHourFits hs → Bytes (element_hours_bytes hs)
unfolding element_hours_bytes Each
hours_bytes [] f = none_bytes
hours_bytes (h ∷ hs) f = append_bytes (element_hour_bytes h) (element_hours_bytes hs) (hour_bytes h f.0.open_byte) (hours_bytes hs f.1)

module _ (bs : List ℕ) where
  next_hour : (h : ElementHour) (hs : List ElementHour) (r : List ℕ) (at : ℕ) → drop at bs ≡ (element_hour_bytes h ++ element_hours_bytes hs) ++ r
      → drop (at + element_hour_size) bs ≡ element_hours_bytes hs ++ r
  next_hour h hs r at e =
      past bs (element_hour_bytes h) (element_hours_bytes hs ++ r) at element_hour_size (at + element_hour_size) refl (length_hour h)
      (e ∙ append_assoc (element_hour_bytes h) (element_hours_bytes hs) r)

  hours_there : (hs : List ElementHour) (r : List ℕ) (at n : ℕ) → length hs ≡ n → Each ElementHourFits hs → drop at bs ≡ element_hours_bytes hs ++ r → element_hours_at bs at n ≡ hs
  unfolding element_hours_at element_hours_bytes Each
  hours_there [] r at n l f e = rw (← l) refl
  hours_there (h ∷ hs) r at n l f e =
      rw (← l)
      (λ i. hour_there bs h (element_hours_bytes hs ++ r) at f.0 (e ∙ append_assoc (element_hour_bytes h) (element_hours_bytes hs) r) i
      ∷ hours_there hs r (at + element_hour_size) (length hs) refl f.1 (next_hour h hs r at e) i)

  -- no open bit past the treatments of the first n elements
  opens_there : (n : ℕ) (es : List Element) (hs : List ElementHour) (r : List ℕ) (at : ℕ) → n ≤ length hs → Each ElementHourFits (take n hs)
      → drop at bs ≡ element_hours_bytes (take n hs) ++ r
      → ((e : ℕ) → e < n → open_within (element es e).treatments (element_hour hs e).treatments_open ≡ true)
      → open_bits_valid bs (take n (map (λ (e : Element). e.treatments) es)) at ≡ true
  unfolding open_bits_valid element_hours_bytes Each
  opens_there zero es hs r at l f e o = refl
  opens_there (suc n) [] hs r at l f e o = refl
  opens_there (suc n) (x ∷ es) [] r at l f e o = absurd (omega arith)
  opens_there (suc n) (x ∷ es) (h ∷ hs) r at l f e o =
      let rest = element_hours_bytes (take n hs) in
      let b = open_there bs h (rest ++ r) at f.0 (e ∙ append_assoc (element_hour_bytes h) rest r) in
      rw (b, o 0 (omega arith)) (opens_there n es hs r (at + element_hour_size) (omega arith) f.1 (next_hour h (take n hs) r at e) (λ k m. o (suc k) (omega arith)))

-- ---- the rates

length_rates : (a : AirChangesPerHourArgument) → length (ach_args_bytes a) ≡ 1 + 8 * 2
length_rates (Cooling rate) = omega (arith, length-append (float_bytes rate) (bytes_of 8 0), length_bytes_of 8 (to_bits binary64 rate), length_bytes_of 8 0)
length_rates (TargetAndWindowsOpen target windows) =
    omega (arith, length-append (float_bytes target) (float_bytes windows), length_bytes_of 8 (to_bits binary64 target), length_bytes_of 8 (to_bits binary64 windows))

rates_bytes : (a : AirChangesPerHourArgument) → Bytes (ach_args_bytes a)
rates_bytes (Cooling rate) = cons_bytes 0 _ (omega arith) (append_bytes (float_bytes rate) (bytes_of 8 0) (number_bytes 8 (to_bits binary64 rate)) (number_bytes 8 0))
rates_bytes (TargetAndWindowsOpen target windows) =
    cons_bytes 1 _ (omega arith) (append_bytes (float_bytes target) (float_bytes windows) (number_bytes 8 (to_bits binary64 target)) (number_bytes 8 (to_bits binary64 windows)))

module _ (bs : List ℕ) where
  -- two eights of bytes behind the code
  module _ (code : ℕ) (first second r : List ℕ) (l : length first ≡ float_size) (e : drop rate_code bs ≡ (code ∷ (first ++ second)) ++ r) where
    code_there : get_or bs rate_code 0 ≡ code
    code_there = byte_there bs code ((first ++ second) ++ r) rate_code e

    first_there : drop first_rate bs ≡ first ++ (second ++ r)
    first_there = past bs (code ∷ []) ((first ++ second) ++ r) rate_code 1 first_rate refl refl e ∙ append_assoc first second r

    second_there : drop second_rate bs ≡ second ++ r
    second_there = past bs first (second ++ r) first_rate float_size second_rate refl l first_there

  rates_there : (a : AirChangesPerHourArgument) (r : List ℕ) → RatesFit a → drop rate_code bs ≡ ach_args_bytes a ++ r → ach_args_at bs rate_code ≡ a
  rates_there (Cooling rate) r f e =
      let l = length_bytes_of 8 (to_bits binary64 rate) in
      rw (code_there 0 (float_bytes rate) (bytes_of 8 0) r l e)
      (ap Cooling (float_there bs rate (bytes_of 8 0 ++ r) first_rate f (first_there 0 (float_bytes rate) (bytes_of 8 0) r l e)))
  rates_there (TargetAndWindowsOpen target windows) r f e =
      let l = length_bytes_of 8 (to_bits binary64 target) in
      let t = float_there bs target (float_bytes windows ++ r) first_rate f.0 (first_there 1 (float_bytes target) (float_bytes windows) r l e) in
      let w = float_there bs windows r second_rate f.1 (second_there 1 (float_bytes target) (float_bytes windows) r l e) in
      rw (code_there 1 (float_bytes target) (float_bytes windows) r l e) (λ i. TargetAndWindowsOpen (t i) (w i))

  code_right : (fixed : FixedRate) (a : AirChangesPerHourArgument) (r : List ℕ) → code_taken fixed a ≡ true → drop rate_code bs ≡ ach_args_bytes a ++ r
      → rate_code_valid fixed bs ≡ true
  code_right StillTaken (Cooling rate) r t e =
      let l = length_bytes_of 8 (to_bits binary64 rate) in
      let zeros : num_at bs second_rate float_size ≡ 0 = number_there bs 8 0 r second_rate (omega arith) (second_there 0 (float_bytes rate) (bytes_of 8 0) r l e) in
      rw (code_there 0 (float_bytes rate) (bytes_of 8 0) r l e, zeros) refl
  code_right Retired (Cooling rate) r t e = absurd (let z : ◌≡◌ {A = ℕ} 0 1 = cc in omega arith)
  code_right fixed (TargetAndWindowsOpen target windows) r t e =
      rw (code_there 1 (float_bytes target) (float_bytes windows) r (length_bytes_of 8 (to_bits binary64 target)) e) refl

-- ---- the whole

abbrev floats_of : Conditions → List Float
floats_of c =
    c.delta_t_h
    ∷ c.temp_ext_air
    ∷ c.gains_internal
    ∷ c.gains_solar
    ∷ c.frac_convective_heat
    ∷ c.frac_convective_cool
    ∷ c.temp_setpnt_heat
    ∷ c.temp_setpnt_cool
    ∷ c.temp_setpnt_cool_vent
    ∷ c.avg_air_supply_temp
    ∷ c.gains_heat_cool_convective
    ∷ c.gains_heat_cool_radiative
    ∷ []

module _ (n : ℕ) (c : Conditions) (fit : ConditionsFit c) (few : n ≤ 24) where
  -- the parts of the zone's elements
  abbrev hours : List ElementHour
  hours = take n c.elements

  hours_counted : length hours ≡ n
  hours_counted = length-take-le n c.elements (omega (arith, fit.places))

  hours_fit : Each ElementHourFits hours
  hours_fit = each_of_first ElementHourFits n c.elements fit.elements

  hours_front : take n (conditions_as_read n c).elements ≡ hours
  hours_front = take_at hours (replicate (24 - n) no_element_hour) n hours_counted

  are_bytes : Bytes (conditions_bytes n c)
  unfolding conditions_bytes
  are_bytes =
      append_bytes (row_bytes (floats_of c)) (ach_args_bytes c.ach_args ++ element_hours_bytes hours) (floats_bytes (floats_of c))
      (append_bytes (ach_args_bytes c.ach_args) (element_hours_bytes hours) (rates_bytes c.ach_args) (hours_bytes hours hours_fit))

  right_length : length (conditions_bytes n c) ≡ conditions_length n
  unfolding conditions_bytes
  right_length =
      omega (
        arith,
        length-append (row_bytes (floats_of c)) (ach_args_bytes c.ach_args ++ element_hours_bytes hours),
        length-append (ach_args_bytes c.ach_args) (element_hours_bytes hours),
        length_row (floats_of c),
        length_rates c.ach_args,
        length_hours hours,
        hours_counted,
      )

  same_test : conditions_test n (conditions_as_read n c) ≡ conditions_test n c
  unfolding conditions_test hour_and_gains_in_range setpoints_in_range
  same_test = rw hours_front refl

  module _ (bs : List ℕ) (e : bs ≡ row_bytes (floats_of c) ++ (ach_args_bytes c.ach_args ++ element_hours_bytes hours)) where
    rates_on : drop rate_code bs ≡ ach_args_bytes c.ach_args ++ element_hours_bytes hours
    rates_on = past bs (row_bytes (floats_of c)) (ach_args_bytes c.ach_args ++ element_hours_bytes hours) 0 rate_code rate_code refl (length_row (floats_of c)) e

    hours_on : drop first_element_hour bs ≡ element_hours_bytes hours ++ []
    hours_on =
        past bs (ach_args_bytes c.ach_args) (element_hours_bytes hours) rate_code (1 + 8 * 2) first_element_hour refl (length_rates c.ach_args) rates_on
        ∙ sym (append-nil (element_hours_bytes hours))

    float_on : (i : ℕ) → i < 12 → float_at bs (float_size * i) ≡ get_or (floats_of c) i nan
    float_on i l = in_row bs (floats_of c) (ach_args_bytes c.ach_args ++ element_hours_bytes hours) 0 i (float_size * i) (omega arith) l (all_fit (floats_of c) fit.floats) e

    conditions_there : conditions_at bs n ≡ conditions_as_read n c
    unfolding conditions_at
    conditions_there =
        let x : (i : ℕ) → i < 12 → float_at bs (float_size * i) ≡ get_or (floats_of c) i nan = float_on in
        let rates = rates_there bs c.ach_args (element_hours_bytes hours) fit.rates rates_on in
        let parts = hours_there bs hours [] first_element_hour n hours_counted hours_fit hours_on in
        λ i. record {
          delta_t_h = x 0 (omega arith) i;
          temp_ext_air = x 1 (omega arith) i;
          gains_internal = x 2 (omega arith) i;
          gains_solar = x 3 (omega arith) i;
          frac_convective_heat = x 4 (omega arith) i;
          frac_convective_cool = x 5 (omega arith) i;
          temp_setpnt_heat = x 6 (omega arith) i;
          temp_setpnt_cool = x 7 (omega arith) i;
          temp_setpnt_cool_vent = x 8 (omega arith) i;
          avg_air_supply_temp = x 9 (omega arith) i;
          gains_heat_cool_convective = x 10 (omega arith) i;
          gains_heat_cool_radiative = x 11 (omega arith) i;
          ach_args = rates i;
          elements = parts i ++ replicate (24 - n) no_element_hour;
        }

module _ (fixed : FixedRate) (z : Zone) (c : Conditions) (few : z.count ≤ 24) (h : HourInRange fixed z c) where
  read_by : (bs : List ℕ) → bs ≡ row_bytes (floats_of c) ++ (ach_args_bytes c.ach_args ++ element_hours_bytes (take z.count c.elements)) → length bs ≡ conditions_length z.count
      → conditions_of fixed z bs ≡ ok (conditions_as_read z.count c)
  unfolding conditions_of
  read_by bs e l =
      let n = z.count in
      let code = code_right bs fixed c.ach_args (element_hours_bytes (take n c.elements)) h.code (rates_on n c h.fit few bs e) in
      let opens = opens_there bs n z.building_elements c.elements [] first_element_hour (omega (arith, h.fit.places)) (hours_fit n c h.fit few) (hours_on n c h.fit few bs e) h.opens in
      rw (le-leb n 24 few, eq-eqb (length bs) (conditions_length n) l, code, opens, conditions_there n c h.fit few bs e, same_test n c h.fit few, h.values) refl

  read_whole : conditions_of fixed z (conditions_bytes z.count c) ≡ ok (conditions_as_read z.count c)
  unfolding conditions_bytes
  read_whole = read_by (conditions_bytes z.count c) refl (right_length z.count c h.fit few)

  pub hour_read : HourRead fixed z c
  hour_read = record { bytes = are_bytes z.count c h.fit few; read = read_whole }
