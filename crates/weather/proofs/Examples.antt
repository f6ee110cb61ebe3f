-- The examples of specs/Examples.antt, calculated.
use Rattle.std.proofs.Common.{refl}
use lib.Ieee.{of_bits, neg, round, le}
use Rattle.solver.specs.F64.{decimal}
use Rattle.zone.specs.Check.Ranges.{temperature_range, irradiance_range}
use Rattle.weather.specs.Lines.{ended, lines, line_of, field_of}
use Rattle.weather.specs.Decimal.{unsigned, decimal_of, number, value, is}
use Rattle.weather.specs.Weather.{tested, weather_from, weather_in, weather_of}
use Rattle.weather.specs.Examples.{FieldExamples, FileExample}

pub field_examples : FieldExamples
unfolding tested decimal_of unsigned number value is temperature_range irradiance_range of_bits decimal round neg le
field_examples =
    record {
      dry_bulb_1 = refl;
      dry_bulb_2 = refl;
      dry_bulb_3 = refl;
      dry_bulb_4 = refl;
      dry_bulb_5 = refl;
      dry_bulb_6 = refl;
      dry_bulb_7 = refl;
      dry_bulb_8 = refl;
      dry_bulb_9 = refl;
      dry_bulb_10 = refl;
      dry_bulb_11 = refl;
      dry_bulb_12 = refl;
      dry_bulb_13 = refl;
      dry_bulb_14 = refl;
      dry_bulb_15 = refl;
      dry_bulb_16 = refl;
      radiation_1 = refl;
      radiation_2 = refl;
      radiation_3 = refl;
      radiation_4 = refl;
      radiation_5 = refl;
      radiation_6 = refl;
      radiation_7 = refl;
      radiation_8 = refl;
      radiation_9 = refl;
    }

pub file_example : FileExample
unfolding weather_of weather_in weather_from line_of lines ended field_of tested decimal_of unsigned number value is temperature_range irradiance_range of_bits decimal round neg le
file_example = record { line_1 = refl; line_2 = refl; seventh_first = refl; seventh_missing_first = refl; fifteenth_next = refl; sixteenth_last = refl }
