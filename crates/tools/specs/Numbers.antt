-- The refusal numbers of the tools.
-- Specification, Table of refusals.
use Rattle.std.specs.Prelude.{ℕ}

-- 20: a value not within ±1e6, or a band whose upper end is below its lower
abbrev pub question_value : ℕ
question_value = 20

-- 24: a book with an entry of version 1 is to be converted
abbrev pub version_1_entry : ℕ
version_1_entry = 24
