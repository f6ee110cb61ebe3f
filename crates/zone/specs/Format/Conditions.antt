-- What a byte string is as an hour's conditions, in the order of its refusals 7, 8, 9.
-- Specification, Conditions; Order in conditions; Fixed rate.
use Rattle.std.specs.Prelude.{ℕ, suc, zero, ◌+◌, ◌*◌, ◌-◌, Bool, true, false, cond, ◌&&◌, List, [], ◌∷◌, ◌++◌, map, get_or, length, take, replicate, leb, eqb, Float}
use Rattle.solver.specs.Result.{Result, ok, bind, require}
use Rattle.zone.specs.Format.Bytes.{num_at, float_at, float_size}
use Rattle.zone.specs.Format.Decode.{element_hour_at, no_element_hour}
use Rattle.zone.specs.Check.Ranges.{hour_length_range, temperature_range, gains_range, fraction_range, heating_setpoint_range, setpoint_range, rate_range, open_within}
use Rattle.zone.specs.Check.ZoneTest.{element_hour_in_range, all_required}
use Rattle.zone.specs.Record.Numbers.{conditions_size, conditions_code, conditions_value}
use Rattle.zone.specs.Format.Layout.{open_byte, element_hour_size, rate_code, second_rate, first_element_hour, conditions_length}
use Rattle.zone.specs.declared.record.building_element.ElementHour.{ElementHour}
use Rattle.zone.specs.declared.record.zone_record.Zone.{Zone}
use Rattle.zone.specs.declared.format.conditions.AirChangesPerHourArgument.{AirChangesPerHourArgument}
use Rattle.zone.specs.declared.format.conditions.AirChangesPerHourArgument.TheVariants.{Cooling, TargetAndWindowsOpen}
use Rattle.zone.specs.declared.format.conditions.Conditions.{Conditions}
use Rattle.zone.specs.declared.format.conditions.FixedRate.{FixedRate}
use Rattle.zone.specs.declared.format.conditions.FixedRate.TheVariants.{Retired, StillTaken}

-- the rates in the 17 bytes from at on: code 0 fixed, 1 target and open (any other would be read as 1, but is refused first)
abbrev pub ach_args_at : List ℕ → (at : ℕ) → AirChangesPerHourArgument
ach_args_at bs at = cond (eqb (get_or bs at 0) 0) (Cooling (float_at bs (at + 1))) (TargetAndWindowsOpen (float_at bs (at + 1)) (float_at bs (at + 9)))

-- so many elements' parts from at on
unfoldable pub element_hours_at : List ℕ → (at count : ℕ) → List ElementHour
element_hours_at bs at zero = []
element_hours_at bs at (suc n) = element_hour_at bs at ∷ element_hours_at bs (at + element_hour_size) n

-- the values of conditions for n elements
unfoldable pub conditions_at : List ℕ → (n : ℕ) → Conditions
conditions_at bs n =
    let f : ℕ → Float = λ i. float_at bs (float_size * i) in
    record {
      delta_t_h = f 0;
      temp_ext_air = f 1;
      gains_internal = f 2;
      gains_solar = f 3;
      frac_convective_heat = f 4;
      frac_convective_cool = f 5;
      temp_setpnt_heat = f 6;
      temp_setpnt_cool = f 7;
      temp_setpnt_cool_vent = f 8;
      avg_air_supply_temp = f 9;
      gains_heat_cool_convective = f 10;
      gains_heat_cool_radiative = f 11;
      ach_args = ach_args_at bs rate_code;
      elements = element_hours_at bs first_element_hour n ++ replicate (24 - n) no_element_hour;
    }

-- code 0, the fixed rate: entries that are written with it are still taken up, and its reasons are told; every other call refuses it here, with 8. Where it
-- is taken, its second float has 8 zero bytes
abbrev pub fixed_rate_valid : FixedRate → List ℕ → Bool
fixed_rate_valid Retired bs = false
fixed_rate_valid StillTaken bs = eqb (num_at bs second_rate float_size) 0

-- code 1, or code 0 where it is taken
abbrev pub rate_code_valid : FixedRate → List ℕ → Bool
rate_code_valid fixed bs = cond (eqb (get_or bs rate_code 0) 0) (fixed_rate_valid fixed bs) (eqb (get_or bs rate_code 0) 1)

-- no open bit past the treatments, of the elements whose parts begin at p
unfoldable pub open_bits_valid : List ℕ → (treatments : List ℕ) → (p : ℕ) → Bool
open_bits_valid bs [] p = true
open_bits_valid bs (t ∷ ts) p = open_within t (get_or bs (p + open_byte) 0) && open_bits_valid bs ts (p + element_hour_size)

-- the first six floats: hour length, external temperature, internal and solar gains, the two fractions
unfoldable pub hour_and_gains_in_range : Conditions → Bool
hour_and_gains_in_range c =
    hour_length_range c.delta_t_h
    && temperature_range c.temp_ext_air
    && gains_range c.gains_internal
    && gains_range c.gains_solar
    && fraction_range c.frac_convective_heat
    && fraction_range c.frac_convective_cool

-- the other six: three setpoints, supply temperature, convective and radiative gains
unfoldable pub setpoints_in_range : Conditions → Bool
setpoints_in_range c =
    heating_setpoint_range c.temp_setpnt_heat
    && setpoint_range c.temp_setpnt_cool
    && setpoint_range c.temp_setpnt_cool_vent
    && temperature_range c.avg_air_supply_temp
    && gains_range c.gains_heat_cool_convective
    && gains_range c.gains_heat_cool_radiative

-- the rates
abbrev pub ach_args_in_range : AirChangesPerHourArgument → Bool
ach_args_in_range (Cooling rate) = rate_range rate
ach_args_in_range (TargetAndWindowsOpen target windows) = rate_range target && rate_range windows

-- the first value out of range, in the order of the bytes: 9
unfoldable pub conditions_test : ℕ → Conditions → Result (Unit {0})
conditions_test n c =
    bind (require (hour_and_gains_in_range c && setpoints_in_range c && ach_args_in_range c.ach_args) conditions_value) λ _.
    all_required element_hour_in_range conditions_value (take n c.elements) 1

-- an hour's conditions for a zone; no bytes are those of more than 24 elements
unfoldable pub conditions_of : FixedRate → Zone → (bytes : List ℕ) → Result Conditions
conditions_of fixed z bs =
    let n = z.count in
    let treatments = take n (map (λ e. e.treatments) z.building_elements) in
    bind (require (leb n 24 && eqb (length bs) (conditions_length n)) conditions_size) λ _.
    bind (require (rate_code_valid fixed bs && open_bits_valid bs treatments first_element_hour) conditions_code) λ _.
    bind (conditions_test n (conditions_at bs n)) λ _.
    ok (conditions_at bs n)
