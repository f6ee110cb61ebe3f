-- Lists of calls, and the plain book's run of them.
-- Specification, Plain book; Lists of calls.
use Rattle.std.specs.Prelude.{◌&&◌, cond, List, [], ◌∷◌, ◌++◌, ℕ, length, drop, leb}
use Rattle.std.proofs.Math.Option.{Option, none, some}
use Rattle.zone.specs.Promise.{Result, ok, refused}
use Rattle.book.specs.Model.Bytes.{from_option, map_option}
use Rattle.book.specs.Model.Interface.{Interface}
use Rattle.book.specs.Model.Calls.{BookState, Answer, accepted, refused_with}
use Rattle.book.specs.Model.Plain.{Plain, empty, book, Snapshot, snapshot, begin_plain, append_plain, cut_plain}
use Rattle.book.specs.Model.PlainTakeUp.{take_up_plain}

-- What the caller chooses. Of a begin: the head's bytes, the values that it hands in, and the whole buffer. Of an append: the item, and the bytes
-- behind the used ones, of any number. Of a take-up: the values that it hands in, and the bytes. Of a cut: the place.
pub data Call (State Item : Type 0) : Type 0 where
  call_begin : (head : List ℕ) → (given : BookState State) → (buf : List ℕ) → Call State Item
  call_append : Item → (spare : List ℕ) → Call State Item
  call_take_up : (given : BookState State) → (bytes : List ℕ) → Call State Item
  call_cut : (at : ℕ) → Call State Item

-- What is seen of a call: its answer; the whole buffer after it, where one was lent; and the book held after it. No answer where the call may not be
-- made: appends and cuts come once there is a book, and a cut lies between the head's end and the used length, ends included.
pub record Event (State : Type 0) : Type 0 where
  pub answer : Option (Answer State)
  pub buffer : Option (List ℕ)
  pub held : Option (Snapshot State)

module _ (L : Interface) where
  abbrev pub Calls : Type 0
  Calls = List (Call L.State L.Item)

  -- what the plain book answers, the lent buffer after it, and the plain book after it
  pub record PlainOutcome : Type 0 where
    pub answer : Option (Answer L.State)
    pub buffer : Option (List ℕ)
    pub next : Plain L.Item

  -- every lent byte: the book's used bytes, and behind them what the buffer held
  abbrev pub written : Snapshot L.State → (lent : List ℕ) → List ℕ
  written v lent = v.bytes ++ drop (length v.bytes) lent

  abbrev pub written_to : (lent : Option (List ℕ)) → Option (Snapshot L.State) → Option (List ℕ)
  written_to lent seen = from_option lent (λ v. map_option (written v) lent) seen

  -- accepted: the values of the new book. Refused: the values that were given, and buffer and plain book as they were.
  abbrev pub plain_outcome : (given : BookState L.State) → (lent : Option (List ℕ)) → Plain L.Item → Result (Plain L.Item) → PlainOutcome
  plain_outcome g lent p (ok q) = record { answer = map_option (λ v. accepted v.values) (snapshot L q); buffer = written_to lent (snapshot L q); next = q }
  plain_outcome g lent p (refused c j) = record { answer = some (refused_with c j g); buffer = lent; next = p }

  abbrev pub plain_not_made : Plain L.Item → PlainOutcome
  plain_not_made p = record { answer = none; buffer = none; next = p }

  -- an append or a cut: zone, used bytes and values are not fed to the plain book, which has its own
  abbrev pub on_book : Plain L.Item → ((head : List ℕ) → List L.Item → Snapshot L.State → PlainOutcome) → PlainOutcome
  on_book empty f = plain_not_made empty
  on_book (book head is) f = from_option (plain_not_made (book head is)) (f head is) (snapshot L (book head is))

  unfoldable pub plain_make : Plain L.Item → Call L.State L.Item → PlainOutcome
  plain_make p (call_begin head g buf) = plain_outcome g (some buf) p (begin_plain L head buf)
  plain_make p (call_take_up g bytes) = plain_outcome g none p (take_up_plain L bytes)
  plain_make p (call_append i spare) = on_book p λ head is v. plain_outcome v.values (some (v.bytes ++ spare)) p (append_plain L head is i spare)
  plain_make p (call_cut at) =
      on_book p λ head is v.
      cond (leb (length head) at && leb at (length v.bytes)) (plain_outcome v.values none p (cut_plain L head is at)) (plain_not_made p)

  unfoldable pub plain_event : PlainOutcome → Event L.State
  plain_event t = record { answer = t.answer; buffer = t.buffer; held = snapshot L t.next }

  unfoldable pub plain_run : Plain L.Item → Calls → List (Event L.State)
  plain_run p [] = []
  plain_run p (c ∷ cs) = plain_event (plain_make p c) ∷ plain_run (plain_make p c).next cs

  -- the plain book after a list of calls
  unfoldable pub plain_after : Plain L.Item → Calls → Plain L.Item
  plain_after p [] = p
  plain_after p (c ∷ cs) = plain_after (plain_make p c).next cs
