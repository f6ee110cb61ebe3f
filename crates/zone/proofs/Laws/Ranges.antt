-- The constants of ranges, and the tests of lists, of open treatments and of counts.
use lib.Ieee.{of_bits, neg}
use Rattle.solver.specs.F64.{decimal}
use Rattle.std.specs.List.{list_all}
use Rattle.std.specs.Ordering.{partial_le, nat_cmp}
use Rattle.std.proofs.Common.{Some, rules, tests, ℕ, ◌*◌, ◌%◌, ◌^◌, ◌<◌, ◌≤◌, ◌≡◌, refl, ap, Bool, true, ◌&&◌, List, [], ◌∷◌, arith, mod-eq_of_lt, one-mul, leb-true, pow_mono, leb, Float}
use Rattle.solver.specs.Result.{ok, require}
use Rattle.solver.proofs.Promise.{bind_ok, require_ok, and_true}
use Rattle.zone.specs.Record.Numbers.{structure}
use Rattle.zone.specs.Check.Ranges.{all_in, area_range, pitch_range, coefficient_range, h_pli_range, k_pli_range, fraction_range, sky_range}
use Rattle.zone.specs.Check.Ranges.{delta_r_range, irradiance_range, gains_range, power_limit_range, rate_range}
use Rattle.zone.specs.Check.Ranges.{temperature_range, heating_setpoint_range, setpoint_range, hour_length_range}
use Rattle.zone.specs.Check.ZoneTest.{count_valid, counts_test}
use Rattle.zone.specs.Inner.Check.{within}
use Rattle.zone.specs.declared.check.ranges.TheConstants.{AREA, PITCH, COEFFICIENT, H_PLI, K_PLI, FRACTION, SKY, DELTA_R, IRRADIANCE, GAINS}
use Rattle.zone.specs.declared.check.ranges.TheConstants.{POWER_LIMIT, RATE, TEMPERATURE, HEATING_SETPOINT, SETPOINT, HOUR_LENGTH}
use Rattle.zone.specs.declared.record.zone_record.Zone.{Zone}

-- a test of each of a list, as an iterator's `all` makes it
pub all_in_is : (range : Float → Bool) (a : List Float) → list_all range a ≡ all_in range a
unfolding all_in
all_in_is range [] = refl
all_in_is range (x ∷ a) = ap (λ b. range x && b) (all_in_is range a)

-- the library's test of two numbers
pub partial_le_is : (a b : ℕ) → partial_le (λ x y. Some (nat_cmp x y)) a b ≡ leb a b
partial_le_is a b = search (rules, tests)

-- each constant of the code is the range of its definition
pub ranges : record {
  area : (x : Float) → within AREA x ≡ area_range x;
  pitch : (x : Float) → within PITCH x ≡ pitch_range x;
  coefficient : (x : Float) → within COEFFICIENT x ≡ coefficient_range x;
  h_pli : (x : Float) → within H_PLI x ≡ h_pli_range x;
  k_pli : (x : Float) → within K_PLI x ≡ k_pli_range x;
  fraction : (x : Float) → within FRACTION x ≡ fraction_range x;
  sky : (x : Float) → within SKY x ≡ sky_range x;
  delta_r : (x : Float) → within DELTA_R x ≡ delta_r_range x;
  irradiance : (x : Float) → within IRRADIANCE x ≡ irradiance_range x;
  gains : (x : Float) → within GAINS x ≡ gains_range x;
  power_limit : (x : Float) → within POWER_LIMIT x ≡ power_limit_range x;
  rate : (x : Float) → within RATE x ≡ rate_range x;
  temperature : (x : Float) → within TEMPERATURE x ≡ temperature_range x;
  heating_setpoint : (x : Float) → within HEATING_SETPOINT x ≡ heating_setpoint_range x;
  setpoint : (x : Float) → within SETPOINT x ≡ setpoint_range x;
  hour_length : (x : Float) → within HOUR_LENGTH x ≡ hour_length_range x;
}
unfolding of_bits decimal neg area_range pitch_range coefficient_range h_pli_range k_pli_range fraction_range sky_range delta_r_range irradiance_range gains_range power_limit_range rate_range temperature_range heating_setpoint_range setpoint_range hour_length_range
ranges = search rules

pub small_power : (t : ℕ) → t < 8 → (1 * 2 ^ t) % 256 ≡ 2 ^ t
small_power t h =
    let less : 2 ^ t < 256 = omega (arith, pow_mono {i = t} {j = 7} (omega arith)) in
    rw one-mul (mod-eq_of_lt less)

-- a byte is below any power from the eighth on
pub byte_below : (b t : ℕ) → b < 256 → 8 ≤ t → b < 2 ^ t
byte_below b t h r = omega (arith, pow_mono {i = 8} {j = t} r)

pub count_few : (a : Bool) (n : ℕ) → (a && leb n 24) ≡ true → n ≤ 24
count_few a n e = leb-true n 24 (and_true a (leb n 24) e).1

-- a zone whose counts are accepted has at most 24 elements
pub counts_few : (z : Zone) → counts_test z ≡ ok tt → z.count ≤ 24
unfolding counts_test
counts_few z e =
    let b = bind_ok (require (count_valid z.count) structure) _ tt e in
    count_few (leb 1 z.count) z.count (require_ok (count_valid z.count) structure 0 b.0 b.1)
