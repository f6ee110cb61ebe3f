-- Lists of calls of hem_begin, hem_append and hem_take_up: the types of what these functions are given and leave, and what it stands for.
-- Specification, Lists of calls; Answers in C.
use Rattle.std.specs.Prelude.{ℕ, zero, suc, ◌%◌, ◌/◌}
use Rattle.book.specs.Model.Calls as Book
use Rattle.book.specs.Model.Session.{CodeTypes}
use Rattle.book.specs.Year.{Carried, year_interface}
use Rattle.hem_zone.specs.Code.{refusal_code}
use Rattle.hem_zone.specs.Book.{CBookState, book_state_of, c_book_state_of}

-- the returned number, and `temps`, `nodes`, `count`, `used`, `last_version` after the call
abbrev pub Reply : Type 0
Reply = ℕ × CBookState

-- 0 where a call is accepted, else number + 256 × index, and then nothing is written: a refusal leaves the values that it was given
abbrev pub reply_in : Book.Answer Carried → Reply
reply_in (Book.accepted v) = (0, c_book_state_of v)
reply_in (Book.refused_with number index v) = (refusal_code number index, c_book_state_of v)

-- and back: number and index as HEM_NUMBER and HEM_INDEX of the C header read them
abbrev pub answer_by : (returned : ℕ) → Book.BookState Carried → Book.Answer Carried
answer_by zero v = Book.accepted v
answer_by (suc c) v = Book.refused_with (suc c % 256) (suc c / 256) v

abbrev pub answer_of : Reply → Book.Answer Carried
answer_of r = answer_by r.0 (book_state_of r.1)

abbrev pub c_types : CodeTypes year_interface
c_types =
    record {
      BookState = CBookState;
      Reply = Reply;
      given_of = book_state_of;
      answer_of = answer_of;
    }
