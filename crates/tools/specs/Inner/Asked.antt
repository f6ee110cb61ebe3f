-- What a question is asked of, of an accepted book: start-up's operative temperature, and the one after each hour.
use Rattle.std.specs.Prelude.{ℕ, Bool, Ok, Err, List, Float}
use Rattle.std.specs.Prelude as Rust
use Rattle.zone.specs.Promise.{Result, ok, refused, bind, require}
use Rattle.book.specs.Model.PlainTakeUp.{contents_in}
use Rattle.book.specs.Year.{year_interface}
use Rattle.book.specs.Answers.{number_of, index_of}
use Rattle.book.specs.declared.book_error.BookError.{BookError}
use Rattle.tools.specs.Numbers.{question_value}
use Rattle.tools.specs.Questions.{start_temperature, hour_temperatures}
use Rattle.tools.specs.Inner.Hours.{hours_left}
use Rattle.tools.specs.declared.asked.AskedBook.{AskedBook}

abbrev pub asked_of : (bytes : List ℕ) → Result (Float × List Float)
asked_of bytes = bind (contents_in year_interface bytes) λ c. ok (start_temperature c, hour_temperatures c)

-- as it is read from the bytes
abbrev pub asked_in : Rust.Result AskedBook BookError → Result (Float × List Float)
asked_in (Ok b) = ok (b.start, hours_left b.hours)
asked_in (Err e) = refused (number_of e) (index_of e)

-- what a question answers, where what it names is valid
unfoldable pub answer_of : {A : Type 0} → (bytes : List ℕ) → (valid : Bool) → (question : (start : Float) → (temperatures : List Float) → A) → Result A
answer_of bytes valid question =
    bind (asked_of bytes) λ b.
    bind (require valid question_value) λ _.
    ok (question b.0 b.1)
