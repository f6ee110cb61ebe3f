-- What a session has of one call of a function: whatever the function was given, its reply and the buffer that it left make a call that a caller may make
-- (`Made`).
use Rattle.std.specs.Prelude.{◌≡◌, List, ◌++◌, ℕ, ◌≤◌, take}
use Rattle.std.proofs.Math.Option.{some}
use Rattle.zone.specs.Promise.{ok}
use Rattle.zone.specs.Format.Head.{ReadHead}
use Rattle.book.specs.Model.Interface.{Interface}
use Rattle.book.specs.Model.Plain.{Snapshot}
use Rattle.book.specs.Model.Run.{call_begin, call_append, call_take_up, call_cut}
use Rattle.book.specs.Model.Session.{CodeTypes, HeldBook, after_begin, after_take_up, after_append, returned, Made}

module _ (L : Interface) (T : CodeTypes L) where
  -- a begin or a take-up, whatever book is held
  abbrev pub BeginInSession : (head buf : List ℕ) (given : T.BookState) (r : T.Reply) (out : List ℕ) → Type 0
  BeginInSession head buf given r out =
      (h : HeldBook L) → Made L T h (call_begin head (T.given_of given) buf) (after_begin L h (returned L T r out))

  abbrev pub TakeUpInSession : (bytes : List ℕ) (given : T.BookState) (r : T.Reply) → Type 0
  TakeUpInSession bytes given r = (h : HeldBook L) → Made L T h (call_take_up (T.given_of given) bytes) (after_take_up L h bytes (T.answer_of r))

  -- an append to the book that is held, with the zone of its head, its values, and a buffer that begins with its used bytes
  abbrev pub AppendInSession : (z : L.Zone) (i : L.Item) (buf : List ℕ) (given : T.BookState) (r : T.Reply) (out : List ℕ) → Type 0
  AppendInSession z i buf given r out =
      (v : Snapshot L.State) (h : ReadHead L.Zone) (spare : List ℕ) → L.head_of v.bytes ≡ ok h → z ≡ h.zone → T.given_of given ≡ v.values → buf ≡ v.bytes ++ spare
      → Made L T (some v) (call_append i spare) (after_append L (returned L T r out))

  -- the take-up of a cut of the book that is held
  abbrev pub CutInSession : (bytes : List ℕ) (given : T.BookState) (r : T.Reply) → Type 0
  CutInSession bytes given r =
      (v : Snapshot L.State) (h : ReadHead L.Zone) (at : ℕ) → L.head_of v.bytes ≡ ok h → h.length ≤ at → at ≤ v.values.used → T.given_of given ≡ v.values → bytes ≡ take at v.bytes
      → Made L T (some v) (call_cut at) (after_take_up L (some v) bytes (T.answer_of r))
