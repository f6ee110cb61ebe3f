-- What the converter answers, in the words of the definition, and what it leaves in the output.
-- Specification, Conversion; What a refusal is; Table of refusals.
use Rattle.std.specs.Prelude.{ℕ, Ok, Err, List, length}
use Rattle.std.specs.Prelude as Rust
use Rattle.zone.specs.Promise.{Result, ok, refused}
use Rattle.book.specs.Answers as Book
use Rattle.book.specs.Numbers.{buffer_short}
use Rattle.tools.specs.Numbers.{version_1_entry}
use Rattle.tools.specs.Convert.{ConvertedBook, output, convert_in}
use Rattle.tools.specs.declared.convert_error.ConvertError.{ConvertError}
use Rattle.tools.specs.declared.converter.Converted.{Converted}

abbrev pub number_of : ConvertError → ℕ
number_of (ConvertError.Book e) = Book.number_of e
number_of ConvertError.Version1Entry = version_1_entry
number_of ConvertError.BufferShort = buffer_short

abbrev pub index_of : ConvertError → ℕ
index_of (ConvertError.Book e) = Book.index_of e
index_of ConvertError.Version1Entry = 0
index_of ConvertError.BufferShort = 0

-- the count and the used length
abbrev pub answered : Rust.Result Converted ConvertError → Result (ℕ × ℕ)
answered (Ok c) = ok (c.count, c.used)
answered (Err e) = refused (number_of e) (index_of e)

-- a refusal changes no byte of the output
abbrev pub outcome_of : (out : List ℕ) → Result ConvertedBook → Result (ℕ × ℕ) × List ℕ
outcome_of out (ok b) = (ok (b.count, length b.bytes), output b out)
outcome_of out (refused number index) = (refused number index, out)

abbrev pub convert_outcome : (bytes out : List ℕ) → Result (ℕ × ℕ) × List ℕ
convert_outcome bytes out = outcome_of out (convert_in bytes out)
