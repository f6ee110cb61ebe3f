-- Fields, and a file, and what the definition makes of them: the sharp cases of the rules, calculated.
-- Specification, Decimals of a weather file; Weather of a line; Ranges.
use Rattle.std.specs.Prelude.{◌≡◌, ℕ, List, [], ◌∷◌, ◌++◌, replicate}
use Rattle.std.specs.Float.{binary64}
use Rattle.std.specs.Float.Ieee.{of_bits}
use Rattle.zone.specs.Promise.{ok, refused}
use Rattle.weather.specs.Weather.{dry_bulb, radiation, weather_from, weather_of}

-- a field's bytes are ASCII; the comment above each shows the text
pub record FieldExamples : Type 0 where
  -- `99.9`
  pub dry_bulb_1 : dry_bulb (57 ∷ 57 ∷ 46 ∷ 57 ∷ []) ≡ refused 23 0
  -- `099.90`
  pub dry_bulb_2 : dry_bulb (48 ∷ 57 ∷ 57 ∷ 46 ∷ 57 ∷ 48 ∷ []) ≡ refused 23 0
  -- `-99.9`
  pub dry_bulb_3 : dry_bulb (45 ∷ 57 ∷ 57 ∷ 46 ∷ 57 ∷ []) ≡ ok (of_bits binary64 0xc058_f999_9999_999a)
  -- `99.90000000000`
  pub dry_bulb_4 : dry_bulb (57 ∷ 57 ∷ 46 ∷ 57 ∷ 48 ∷ 48 ∷ 48 ∷ 48 ∷ 48 ∷ 48 ∷ 48 ∷ 48 ∷ 48 ∷ 48 ∷ []) ≡ refused 22 0
  -- `100`
  pub dry_bulb_5 : dry_bulb (49 ∷ 48 ∷ 48 ∷ []) ≡ ok (of_bits binary64 0x4059_0000_0000_0000)
  -- `100.00000001`
  pub dry_bulb_6 : dry_bulb (49 ∷ 48 ∷ 48 ∷ 46 ∷ 48 ∷ 48 ∷ 48 ∷ 48 ∷ 48 ∷ 48 ∷ 48 ∷ 49 ∷ []) ≡ refused 22 0
  -- `-0`
  pub dry_bulb_7 : dry_bulb (45 ∷ 48 ∷ []) ≡ ok (of_bits binary64 0x8000_0000_0000_0000)
  -- `0.1`
  pub dry_bulb_8 : dry_bulb (48 ∷ 46 ∷ 49 ∷ []) ≡ ok (of_bits binary64 0x3fb9_9999_9999_999a)
  -- an empty field
  pub dry_bulb_9 : dry_bulb [] ≡ refused 22 0
  -- `5.`
  pub dry_bulb_10 : dry_bulb (53 ∷ 46 ∷ []) ≡ refused 22 0
  -- `.5`
  pub dry_bulb_11 : dry_bulb (46 ∷ 53 ∷ []) ≡ refused 22 0
  -- `+5`
  pub dry_bulb_12 : dry_bulb (43 ∷ 53 ∷ []) ≡ refused 22 0
  -- ` 5`
  pub dry_bulb_13 : dry_bulb (32 ∷ 53 ∷ []) ≡ refused 22 0
  -- `1e1`
  pub dry_bulb_14 : dry_bulb (49 ∷ 101 ∷ 49 ∷ []) ≡ refused 22 0
  -- `1.2.3`
  pub dry_bulb_15 : dry_bulb (49 ∷ 46 ∷ 50 ∷ 46 ∷ 51 ∷ []) ≡ refused 22 0
  -- `--1`
  pub dry_bulb_16 : dry_bulb (45 ∷ 45 ∷ 49 ∷ []) ≡ refused 22 0
  -- `9999`
  pub radiation_1 : radiation (57 ∷ 57 ∷ 57 ∷ 57 ∷ []) ≡ refused 23 0
  -- `9999.00`
  pub radiation_2 : radiation (57 ∷ 57 ∷ 57 ∷ 57 ∷ 46 ∷ 48 ∷ 48 ∷ []) ≡ refused 23 0
  -- `-9999`
  pub radiation_3 : radiation (45 ∷ 57 ∷ 57 ∷ 57 ∷ 57 ∷ []) ≡ refused 22 0
  -- `2000`
  pub radiation_4 : radiation (50 ∷ 48 ∷ 48 ∷ 48 ∷ []) ≡ ok (of_bits binary64 0x409f_4000_0000_0000)
  -- `2000.1`
  pub radiation_5 : radiation (50 ∷ 48 ∷ 48 ∷ 48 ∷ 46 ∷ 49 ∷ []) ≡ refused 22 0
  -- `-0.0`
  pub radiation_6 : radiation (45 ∷ 48 ∷ 46 ∷ 48 ∷ []) ≡ ok (of_bits binary64 0x8000_0000_0000_0000)
  -- `-1`
  pub radiation_7 : radiation (45 ∷ 49 ∷ []) ≡ refused 22 0
  -- `0000000000001`
  pub radiation_8 : radiation (48 ∷ 48 ∷ 48 ∷ 48 ∷ 48 ∷ 48 ∷ 48 ∷ 48 ∷ 48 ∷ 48 ∷ 48 ∷ 48 ∷ 49 ∷ []) ≡ refused 22 0
  -- `000000000001`, which has 12 digits
  pub radiation_9 : radiation (48 ∷ 48 ∷ 48 ∷ 48 ∷ 48 ∷ 48 ∷ 48 ∷ 48 ∷ 48 ∷ 48 ∷ 48 ∷ 49 ∷ []) ≡ ok (of_bits binary64 0x3ff0_0000_0000_0000)

-- `1999,1,1,1,60,?9,-0.5,2,3,4,5,6,7,8,150,16.25` with CR LF behind eight empty lines
abbrev pub example_file : List ℕ
example_file = replicate 8 10 ++ 49 ∷ 57 ∷ 57 ∷ 57 ∷ 44 ∷ 49 ∷ 44 ∷ 49 ∷ 44 ∷ 49 ∷ 44 ∷ 54 ∷ 48 ∷ 44 ∷ 63 ∷ 57 ∷ 44 ∷ 45 ∷ 48 ∷ 46 ∷ 53 ∷ 44 ∷ 50 ∷ 44 ∷ 51 ∷ 44 ∷ 52 ∷ 44 ∷ 53 ∷ 44 ∷ 54 ∷ 44 ∷ 55 ∷ 44 ∷ 56 ∷ 44 ∷ 49 ∷ 53 ∷ 48 ∷ 44 ∷ 49 ∷ 54 ∷ 46 ∷ 50 ∷ 53 ∷ 13 ∷ 10 ∷ []

pub record FileExample : Type 0 where
  pub line_1 : weather_of example_file 1 ≡ ok (record { dry_bulb = of_bits binary64 0xbfe0_0000_0000_0000; direct_normal = of_bits binary64 0x4062_c000_0000_0000; diffuse_horizontal = of_bits binary64 0x4030_4000_0000_0000 })
  pub line_2 : weather_of example_file 2 ≡ refused 21 0
  -- the fields are tested one by one in file order: a bad seventh before a missing fifteenth, a missing seventh before a bad fifteenth, a missing fifteenth
  -- before a bad sixteenth
  pub seventh_first : weather_from (120 ∷ []) (57 ∷ 57 ∷ 57 ∷ 57 ∷ []) (120 ∷ []) ≡ refused 22 0
  pub seventh_missing_first : weather_from (57 ∷ 57 ∷ 46 ∷ 57 ∷ []) (120 ∷ []) (120 ∷ []) ≡ refused 23 0
  pub fifteenth_next : weather_from (48 ∷ []) (57 ∷ 57 ∷ 57 ∷ 57 ∷ []) (120 ∷ []) ≡ refused 23 0
  pub sixteenth_last : weather_from (48 ∷ []) (48 ∷ []) (57 ∷ 57 ∷ 57 ∷ 57 ∷ []) ≡ refused 23 0
