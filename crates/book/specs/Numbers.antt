-- The book's refusal numbers; 18 is the hour step's too.
-- Specification, Table of refusals.
use Rattle.std.specs.Prelude.{ℕ}
pub use Rattle.zone.specs.Record.Numbers.{false_entry}

-- 16: the buffer is too short
abbrev pub buffer_short : ℕ
buffer_short = 16

-- 17: of an append that is given a count of 8,784 or more, of a take-up at an 8,785th entry
abbrev pub book_full : ℕ
book_full = 17
