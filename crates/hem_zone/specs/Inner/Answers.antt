-- Words of private contracts: the returned number of what the zone or the book answered.
use Rattle.std.specs.Prelude.{ℕ, List, Ok, Err}
use Rattle.std.specs.Prelude as Rust
use Rattle.zone.specs.Answers.{number_of, index_of}
use Rattle.zone.specs.declared.record.refusal.Refusal.{Refusal}
use Rattle.book.specs.Model.Calls as Book
use Rattle.book.specs.Year.{Carried}
use Rattle.hem_zone.specs.Code.{refusal_code}
use Rattle.hem_zone.specs.Book.{CBookState, c_book_state, c_book_state_of}
use Rattle.hem_zone.specs.declared.book_calls.HeldBook.{HeldBook}

-- 0 where the zone accepts, else number + 256 × index
abbrev pub code_of : {A : Type 0} → Rust.Result A Refusal → ℕ
code_of (Ok a) = 0
code_of (Err e) = refusal_code (number_of e) (index_of e)

-- what stands where a caller holds it
abbrev pub held_in : HeldBook → CBookState
held_in h = c_book_state h.temps.now h.nodes.now h.count.now h.used.now h.last_version.now

-- the returned number and the values from what the book answers
unfoldable pub by_answer : Book.Answer Carried → (before : CBookState) → ℕ × CBookState
by_answer (Book.accepted v) before = (0, c_book_state_of v)
by_answer (Book.refused_with number index v) before = (refusal_code number index, before)

-- beside what a begin or an append leaves in the buffer
abbrev pub by_outcome : Book.Outcome Carried → (before : CBookState) → ℕ × (List ℕ × CBookState)
by_outcome d before = ((by_answer d.answer before).0, (d.buffer, (by_answer d.answer before).1))
