-- The calls on a book: those of the contracts (book specs/Model/Calls.antt) at the interface of the year. Each definition gives the returned number, then what
-- stands after the call in the buffer (a take-up has none), `temps`, `nodes`, `count`, `used` and `last_version`.
-- Specification, Begin; Append; Take-up; Values of a book; Answers in C.
use Rattle.std.specs.Prelude.{ℕ, List, Float}
use Rattle.book.specs.Model.Calls as Book
use Rattle.book.specs.Year.{hour_item, Carried, carried, year_interface}
use Rattle.hem_zone.specs.Code.{answered}
use Rattle.hem_zone.specs.Arrays.{state_in, limits_of}
use Rattle.hem_zone.specs.Zone.{with_zone}

-- what a caller holds of a book, by the names of the C parameters
pub record CBookState : Type 0 where
  pub temps : List Float
  pub nodes : ℕ
  pub count : ℕ
  pub used : ℕ
  pub last_version : ℕ

abbrev pub c_book_state : (temps : List Float) → (nodes count used last_version : ℕ) → CBookState
c_book_state temps nodes count used last_version =
    record { temps = temps; nodes = nodes; count = count; used = used; last_version = last_version }

-- these are the values of a book, and back
abbrev pub book_state_of : CBookState → Book.BookState Carried
book_state_of h = record { state = carried (state_in h.temps h.nodes) h.last_version; count = h.count; used = h.used }

abbrev pub c_book_state_of : Book.BookState Carried → CBookState
c_book_state_of v = c_book_state v.state.state.temps v.state.state.nodes v.count v.used v.state.last_version

-- what a begin or an append writes: the buffer, and the values
abbrev pub book_out : Book.BookState Carried × List ℕ → List ℕ × CBookState
book_out r = (r.1, c_book_state_of r.0)

unfoldable pub hem_begin_outcome : (head buf : List ℕ) → CBookState → ℕ × (List ℕ × CBookState)
hem_begin_outcome head buf held =
    answered book_out (buf, held)
    (Book.begin_res year_interface head buf)

-- the zone is that of the given head, the hour's version the one that the call names, 64 bits wide
unfoldable pub hem_append_outcome : (head buf : List ℕ) → CBookState → (conditions : List ℕ) → (version : ℕ) → (heating_limit cooling_limit : Float)
    → ℕ × (List ℕ × CBookState)
hem_append_outcome head buf held conditions version heating_limit cooling_limit =
    answered book_out (buf, held)
    (with_zone head λ z. Book.append_res year_interface z (book_state_of held) (hour_item version conditions (limits_of heating_limit cooling_limit)) buf)

unfoldable pub hem_take_up_outcome : (bytes : List ℕ) → CBookState → ℕ × CBookState
hem_take_up_outcome bytes held =
    answered c_book_state_of held
    (Book.take_up_res year_interface bytes)
