-- What the functions answer, in the words of the definitions: number and index of a refusal, and the values handed back.
-- Specification, What a refusal is; Table of refusals; Values of a book.
use Rattle.std.specs.Prelude.{ℕ, Ok, Err}
use Rattle.std.specs.Prelude as Rust
use Rattle.zone.specs.Answers as Zone
use Rattle.book.specs.Numbers.{buffer_short, book_full}
use Rattle.book.specs.Model.Calls as Book
use Rattle.book.specs.Model.Session.{CodeTypes}
use Rattle.book.specs.Year.{Carried, carried, year_interface}
use Rattle.book.specs.declared.book_error.BookError.{BookError}
use Rattle.book.specs.declared.book.BookState.{BookState}
use Rattle.book.specs.declared.book.Reply.{Reply}

abbrev pub number_of : BookError → ℕ
number_of (BookError.Zone e) = Zone.number_of e
number_of BookError.BufferShort = buffer_short
number_of BookError.BookFull = book_full

abbrev pub index_of : BookError → ℕ
index_of (BookError.Zone e) = Zone.index_of e
index_of BookError.BufferShort = 0
index_of BookError.BookFull = 0

abbrev pub given_of : BookState → Book.BookState Carried
given_of v = record { state = carried v.state v.last_version; count = v.count; used = v.used }

abbrev pub answer_by : Rust.Result (Unit {0}) BookError → Book.BookState Carried → Book.Answer Carried
answer_by (Ok u) v = Book.accepted v
answer_by (Err e) v = Book.refused_with (number_of e) (index_of e) v

-- the reply of a call
abbrev pub answer_of : Reply → Book.Answer Carried
answer_of r = answer_by r.answer (given_of r.values)

abbrev pub rust_types : CodeTypes year_interface
rust_types = record { BookState = BookState; Reply = Reply; given_of = given_of; answer_of = answer_of }
