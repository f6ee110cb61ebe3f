-- What a caller does, and what the functions returned to him, call by call.
-- Specification, Lists of calls; Values of a book.
use Rattle.std.specs.Prelude.{◌≡◌, List, [], ◌∷◌, ◌++◌, ℕ, ◌≤◌, take}
use Rattle.std.proofs.Math.Option.{Option, none, some}
use Rattle.zone.specs.Promise.{ok}
use Rattle.zone.specs.Format.Head.{ReadHead}
use Rattle.book.specs.Model.Interface.{Interface}
use Rattle.book.specs.Model.Calls as Book
use Rattle.book.specs.Model.Plain.{Snapshot}
use Rattle.book.specs.Model.Run.{Call, call_begin, call_append, call_take_up, call_cut, Calls, Event}

-- The types of the functions' values and replies, and what they stand for: values, and for each reply an answer.
pub record CodeTypes (L : Interface) : Type 1 where
  pub BookState : Type 0
  pub Reply : Type 0
  pub given_of : BookState → Book.BookState L.State
  pub answer_of : Reply → Book.Answer L.State

-- a reply and the whole lent buffer after the call, for what the call's definition says: the contracts of begin and append
pub record CallSpec (L : Interface) (T : CodeTypes L) (r : T.Reply) (buffer : List ℕ) (d : Book.Outcome L.State) : Type 0 where
  pub answer : T.answer_of r ≡ d.answer
  pub bytes : buffer ≡ d.buffer

module _ (L : Interface) where
  -- the book that a caller holds, if any: the used bytes as the last call on it left them, and the values that this call handed back
  abbrev pub HeldBook : Type 0
  HeldBook = Option (Snapshot L.State)

  -- a begin or a take-up, accepted, replaces the book held
  abbrev pub replaced : HeldBook → (bytes : List ℕ) → Book.Answer L.State → HeldBook
  replaced h bytes (Book.accepted v) = some (record { bytes = take v.used bytes; values = v })
  replaced h bytes (Book.refused_with c j v) = h

  abbrev pub after_begin : HeldBook → Book.Outcome L.State → Event L.State
  after_begin h d = record { answer = some d.answer; buffer = some d.buffer; held = replaced h d.buffer d.answer }

  abbrev pub after_take_up : HeldBook → (bytes : List ℕ) → Book.Answer L.State → Event L.State
  after_take_up h bytes a = record { answer = some a; buffer = none; held = replaced h bytes a }

  -- what an append hands back belongs to the book held, accepted or refused
  abbrev pub held_after_append : Book.Outcome L.State → Snapshot L.State
  held_after_append d = record { bytes = take (Book.handed_back d.answer).used d.buffer; values = Book.handed_back d.answer }

  abbrev pub after_append : Book.Outcome L.State → Event L.State
  after_append d = record { answer = some d.answer; buffer = some d.buffer; held = some (held_after_append d) }

module _ (L : Interface) (T : CodeTypes L) where
  -- what a function returned and left in the buffer
  abbrev pub returned : T.Reply → (buffer : List ℕ) → Book.Outcome L.State
  returned r buffer = record { answer = T.answer_of r; buffer = buffer }

  -- A call that a caller makes who holds this book, and what is seen of it. Of the function it has what the contract ensures, and nothing else. Each
  -- call on a book is given the zone of its head, the used bytes as the last call on it left them, and the temperatures, count and used length that
  -- this call handed back, and with them the last version; a cut book comes back by a take-up of the bytes before the cut.
  pub data Made : HeldBook L → Call L.State L.Item → Event L.State → Type 0 where
    begins : (h : HeldBook L) (head buf : List ℕ) (g : T.BookState) (r : T.Reply) (out : List ℕ)
        → CallSpec L T r out (Book.begin L head (T.given_of g) buf)
        → Made h (call_begin head (T.given_of g) buf) (after_begin L h (returned r out))
    takes_up : (h : HeldBook L) (bytes : List ℕ) (g : T.BookState) (r : T.Reply)
        → T.answer_of r ≡ Book.take_up L (T.given_of g) bytes
        → Made h (call_take_up (T.given_of g) bytes) (after_take_up L h bytes (T.answer_of r))
    -- the buffer has the used bytes, and any bytes behind them
    appends : (v : Snapshot L.State) (h : ReadHead L.Zone) (i : L.Item) (spare : List ℕ) (g : T.BookState) (r : T.Reply) (out : List ℕ)
        → L.head_of v.bytes ≡ ok h → T.given_of g ≡ v.values
        → CallSpec L T r out (Book.append L h.zone (T.given_of g) i (v.bytes ++ spare))
        → Made (some v) (call_append i spare) (after_append L (returned r out))
    -- the place lies between the head's end and the used length, ends included
    cuts : (v : Snapshot L.State) (h : ReadHead L.Zone) (at : ℕ) (g : T.BookState) (r : T.Reply)
        → L.head_of v.bytes ≡ ok h → h.length ≤ at → at ≤ v.values.used → T.given_of g ≡ v.values
        → T.answer_of r ≡ Book.take_up L (T.given_of g) (take at v.bytes)
        → Made (some v) (call_cut at) (after_take_up L (some v) (take at v.bytes) (T.answer_of r))

  -- A list of calls, each made with the book that the one before it left.
  pub data Session : HeldBook L → Calls L → List (Event L.State) → Type 0 where
    ends : (h : HeldBook L) → Session h [] []
    calls : (h : HeldBook L) (c : Call L.State L.Item) (e : Event L.State) (cs : Calls L) (es : List (Event L.State))
        → Made h c e → Session e.held cs es → Session h (c ∷ cs) (e ∷ es)
