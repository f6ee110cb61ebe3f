-- What lies in a range is a number.
-- Specification, Ranges.
use Rattle.std.proofs.Common.{◌≡◌, true, Float}
use lib.Ieee.{neg, le, lt}
use Rattle.solver.specs.F64.{decimal}
use Rattle.zone.specs.Check.Ranges.{area_range, pitch_range, coefficient_range, h_pli_range, k_pli_range, fraction_range, sky_range, delta_r_range, irradiance_range, gains_range, rate_range, temperature_range, heating_setpoint_range, setpoint_range, hour_length_range}
use Rattle.zone.proofs.Laws.RoundTrip.{Number, in_number}

module _ (x : Float) where
  pub area_number : area_range x ≡ true → Number x
  unfolding area_range
  area_number e = in_number (lt (decimal 0 0) x) x (decimal 100000 0) e

  pub pitch_number : pitch_range x ≡ true → Number x
  unfolding pitch_range
  pitch_number e = in_number (le (decimal 0 0) x) x (decimal 180 0) e

  pub coefficient_number : coefficient_range x ≡ true → Number x
  unfolding coefficient_range
  coefficient_number e = in_number (le (decimal 0 0) x) x (decimal 1000000 0) e

  pub h_pli_number : h_pli_range x ≡ true → Number x
  unfolding h_pli_range
  h_pli_number e = in_number (lt (decimal 0 0) x) x (decimal 1000000 0) e

  pub k_pli_number : k_pli_range x ≡ true → Number x
  unfolding k_pli_range
  k_pli_number e = in_number (le (decimal 0 0) x) x (decimal 10000000 0) e

  pub fraction_number : fraction_range x ≡ true → Number x
  unfolding fraction_range
  fraction_number e = in_number (le (decimal 0 0) x) x (decimal 1 0) e

  pub sky_number : sky_range x ≡ true → Number x
  unfolding sky_range
  sky_number e = in_number (le (neg (decimal 10000 0)) x) x (decimal 10000 0) e

  pub delta_r_number : delta_r_range x ≡ true → Number x
  unfolding delta_r_range
  delta_r_number e = in_number (le (decimal 0 0) x) x (decimal 1000 0) e

  pub irradiance_number : irradiance_range x ≡ true → Number x
  unfolding irradiance_range
  irradiance_number e = in_number (le (decimal 0 0) x) x (decimal 2000 0) e

  pub gains_number : gains_range x ≡ true → Number x
  unfolding gains_range
  gains_number e = in_number (le (neg (decimal 10000000 0)) x) x (decimal 10000000 0) e

  pub rate_number : rate_range x ≡ true → Number x
  unfolding rate_range
  rate_number e = in_number (le (decimal 0 0) x) x (decimal 1000 0) e

  pub temperature_number : temperature_range x ≡ true → Number x
  unfolding temperature_range
  temperature_number e = in_number (le (neg (decimal 100 0)) x) x (decimal 100 0) e

  pub heating_setpoint_number : heating_setpoint_range x ≡ true → Number x
  unfolding heating_setpoint_range
  heating_setpoint_number e = in_number (le (neg (decimal 27315 2)) x) x (decimal 100 0) e

  pub setpoint_number : setpoint_range x ≡ true → Number x
  unfolding setpoint_range
  setpoint_number e = in_number (le (neg (decimal 27315 2)) x) x (decimal 140000000000000000000000000000000 0) e

  pub hour_length_number : hour_length_range x ≡ true → Number x
  unfolding hour_length_range
  hour_length_number e = in_number (le (decimal 1 3) x) x (decimal 8760 0) e
