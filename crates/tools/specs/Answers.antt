-- What the functions answer, in the words of the definitions: a refusal by its number and index.
-- Specification, What a refusal is; Table of refusals.
use Rattle.std.specs.Prelude.{ℕ, Ok, Err}
use Rattle.std.specs.Prelude as Rust
use Rattle.zone.specs.Promise.{Result, ok, refused}
use Rattle.book.specs.Answers as Book
use Rattle.tools.specs.Numbers.{question_value}
use Rattle.tools.specs.declared.question_error.QuestionError.{QuestionError}

abbrev pub number_of : QuestionError → ℕ
number_of (QuestionError.Book e) = Book.number_of e
number_of QuestionError.QuestionValue = question_value

abbrev pub index_of : QuestionError → ℕ
index_of (QuestionError.Book e) = Book.index_of e
index_of QuestionError.QuestionValue = 0

abbrev pub answered : {A : Type 0} → Rust.Result A QuestionError → Result A
answered (Ok a) = ok a
answered (Err e) = refused (number_of e) (index_of e)
