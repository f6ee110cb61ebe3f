-- What a session has of one call of hem_append, whatever it was given: a call that a caller may make (book specs/Model/InSession.antt). Its zone is told by a
-- head's bytes: those of the book that is held, as they stand at the front of its used bytes, with any bytes behind them.
-- Specification, Lists of calls; Append.
use Rattle.std.specs.Prelude.{ℕ, ◌≡◌, List, ◌++◌, take}
use Rattle.std.proofs.Math.Option.{some}
use Rattle.zone.specs.Promise.{ok}
use Rattle.zone.specs.Format.Head.{ReadHead, head_of}
use Rattle.zone.specs.declared.record.zone_record.Zone.{Zone}
use Rattle.book.specs.Model.Plain.{Snapshot}
use Rattle.book.specs.Model.Run.{call_append}
use Rattle.book.specs.Model.Session.{after_append, returned, Made}
use Rattle.book.specs.Year.{Item, Carried, year_interface}
use Rattle.hem_zone.specs.Book.{CBookState, book_state_of}
use Rattle.hem_zone.specs.BookTypes.{Reply, c_types}

abbrev pub AppendInSession : (head : List ℕ) (i : Item) (buf : List ℕ) (held : CBookState) (r : Reply) (out : List ℕ) → Type 0
AppendInSession head i buf held r out =
    (v : Snapshot Carried) (h : ReadHead Zone) (spare behind : List ℕ) → head_of v.bytes ≡ ok h → head ≡ take h.length v.bytes ++ behind → book_state_of held ≡ v.values
    → buf ≡ v.bytes ++ spare → Made year_interface c_types (some v) (call_append i spare) (after_append year_interface (returned year_interface c_types r out))
