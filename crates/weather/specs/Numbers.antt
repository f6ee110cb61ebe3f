-- The bytes of a weather file that have a meaning, its counts and places, and its refusal numbers.
-- Specification, Weather of a line; Decimals of a weather file; Table of refusals.
use Rattle.std.specs.Prelude.{ℕ}

-- ---- bytes, in ASCII

abbrev pub line_feed : ℕ
line_feed = 10

abbrev pub carriage_return : ℕ
carriage_return = 13

abbrev pub comma : ℕ
comma = 44

abbrev pub minus_sign : ℕ
minus_sign = 45

abbrev pub point : ℕ
point = 46

-- 0 to 9
abbrev pub digit0 : ℕ
digit0 = 48

abbrev pub digit9 : ℕ
digit9 = 57

-- ---- eight header lines; then lines of fields, the seventh dry bulb, the fifteenth direct normal and the sixteenth diffuse horizontal radiation

abbrev pub header_lines : ℕ
header_lines = 8

abbrev pub dry_bulb_field : ℕ
dry_bulb_field = 7

abbrev pub direct_normal_field : ℕ
direct_normal_field = 15

abbrev pub diffuse_horizontal_field : ℕ
diffuse_horizontal_field = 16

-- the most digits that a decimal may have
abbrev pub most_digits : ℕ
most_digits = 12

-- ---- refusals: 21, line or field absent; 22, no decimal, more than 12 digits, or out of range; 23, missing

abbrev pub absent : ℕ
absent = 21

abbrev pub invalid : ℕ
invalid = 22

abbrev pub missing : ℕ
missing = 23
