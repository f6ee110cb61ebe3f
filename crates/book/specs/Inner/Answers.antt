-- What the functions behind the calls answer: the new values, and with them what the buffer holds.
use Rattle.std.specs.Prelude.{ℕ, Ok, Err, List}
use Rattle.std.specs.Prelude as Rust
use Rattle.zone.specs.Promise.{Result, ok, refused}
use Rattle.book.specs.Model.Calls as Book
use Rattle.book.specs.Year.{Carried}
use Rattle.book.specs.Answers.{number_of, index_of, given_of}
use Rattle.book.specs.declared.book_error.BookError.{BookError}
use Rattle.book.specs.declared.book.BookState.{BookState}

abbrev pub values_in : Rust.Result BookState BookError → Result (Book.BookState Carried)
values_in (Ok v) = ok (given_of v)
values_in (Err e) = refused (number_of e) (index_of e)

abbrev pub written : Rust.Result BookState BookError → (buf : List ℕ) → Result (Book.BookState Carried × List ℕ)
written (Ok v) buf = ok (given_of v, buf)
written (Err e) buf = refused (number_of e) (index_of e)
