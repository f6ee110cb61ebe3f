-- Whole lists of calls on the year book, and what else is claimed of its books.
use Rattle.std.proofs.Common.{◌≡◌, refl, List, ℕ}
use Rattle.std.specs.Prelude.{Ok, Err}
use Rattle.std.specs.Prelude as Rust
use Rattle.book.specs.declared.book_error.BookError.{BookError}
use Rattle.book.specs.Model.Calls as Book
use Rattle.book.specs.Model.Plain.{empty, book, WellFormed}
use Rattle.book.specs.Model.Session.{CodeTypes}
use Rattle.book.specs.Model.Claims.{WholeLists, SessionFrom, HandedOn, Claims}
use Rattle.book.specs.Year.{year_interface}
use Rattle.book.specs.Answers.{given_of, answer_by, rust_types}
use Rattle.book.proofs.Replies.{rust_laws}
use Rattle.book.proofs.Model.CodeLaws.{CodeLaws}
use Rattle.book.proofs.Model.Sessions as Sessions
use Rattle.book.proofs.Model.Whole as Whole
use Rattle.book.proofs.Model.Books.Equal as Equal
use Rattle.book.proofs.Model.Books.Cuts as Cuts
use Rattle.book.proofs.Model.Books.TakenUp as TakenUp
use Rattle.book.proofs.Model.Books.Behind as Behind
use Rattle.book.proofs.Laws.Interface.{year_laws}

-- ---- lists of calls, at any types whose replies have every answer

module _ (T : CodeTypes year_interface) (C : CodeLaws year_interface T) where
  pub whole_lists_at : WholeLists year_interface T
  whole_lists_at = Sessions.whole_lists year_interface T C year_laws

  pub session_exactly_at : SessionFrom year_interface T empty
  session_exactly_at = Sessions.session_exactly year_interface T C year_laws

  pub session_from_at : (head : List ℕ) (is : List year_interface.Item) → WellFormed year_interface head is → SessionFrom year_interface T (book head is)
  session_from_at = Sessions.session_from year_interface T C year_laws

-- ---- and at those of `begin`, `append` and `take_up`

-- One claim about the whole list, not one for each call. For every list of calls that starts with no book, of begins, appends, cuts and take-ups with
-- whatever arguments, and for whatever `begin`, `append` and `take_up` returned and left in the lent buffers, of which a session holds what their contracts
-- ensure and nothing else: each answer (acceptance or number and index, temperatures, last version, count, used length), each buffer, byte for byte, and the
-- book held after each call are those of the plain book, which is fed the calls' arguments only.
pub whole_lists : WholeLists year_interface rust_types
whole_lists = whole_lists_at rust_types rust_laws

-- The lists of calls that have a session are those whose calls may all be made, and the contracts of `begin`, `append` and `take_up` leave each of
-- these one list of events, the plain book's. Any begin and any take-up may be made; appends and cuts come once there is a book; a cut lies from the
-- head's end to the used length.
pub session_exactly : SessionFrom year_interface rust_types empty
session_exactly = session_exactly_at rust_types rust_laws

-- The same from any book that is held, be it by a list of calls or by any accepted bytes.
pub session_from : (head : List ℕ) (is : List year_interface.Item) → WellFormed year_interface head is → SessionFrom year_interface rust_types (book head is)
session_from = session_from_at rust_types rust_laws

-- What a caller gives the next call: the values of the reply are those that its answer hands back.
pub handed_on : HandedOn year_interface rust_types (λ r. r.values)
handed_on r = by r.answer
  where
    by : (x : Rust.Result (Unit {0}) BookError) → given_of r.values ≡ Book.handed_back (answer_by x (given_of r.values))
    by (Ok u) = refl
    by (Err e) = refl

-- ---- what follows for books

-- Two books are equal byte for byte exactly when heads and hours, their versions among them, are; a cut is a take-up of the bytes before it, is never refused
-- and keeps the first hours; hours that a cut took are held again once accepted anew; which bytes are taken up, and which number and index there is
-- otherwise; bytes behind the used ones stay.
pub year_claims : Claims year_interface
year_claims =
    record {
      well_formed_after = Whole.well_formed_after year_interface year_laws;
      equal_books = Equal.equal_books year_interface year_laws;
      two_books = Equal.two_books year_interface year_laws;
      of_book = Cuts.of_book year_interface year_laws;
      take_up_accepts = TakenUp.take_up_accepts year_interface year_laws;
      take_up_gives = TakenUp.take_up_gives year_interface year_laws;
      take_up_refuses = TakenUp.take_up_refuses year_interface year_laws;
      begin_leaves_behind = Behind.begin_leaves_behind year_interface year_laws;
      append_leaves_behind = Behind.append_leaves_behind year_interface year_laws;
    }
