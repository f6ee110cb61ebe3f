-- What the check of an entry answers.
use Rattle.std.specs.Prelude.{Ok, Err}
use Rattle.std.specs.Prelude as Rust
use Rattle.zone.specs.Promise.{Result, ok, refused}
use Rattle.book.specs.Answers.{number_of, index_of}
use Rattle.book.specs.Year.{Carried, carried}
use Rattle.book.specs.declared.book_error.BookError.{BookError}
use Rattle.book.specs.declared.checked_entry.CheckedEntry.{CheckedEntry}

-- the state and the version after the entry
abbrev pub checked_entry : Rust.Result CheckedEntry BookError → Result Carried
checked_entry (Ok x) = ok (carried x.state x.version)
checked_entry (Err e) = refused (number_of e) (index_of e)
