-- What is claimed of books, each claim as a type. They are proved in proofs/Model for all layers that meet the laws of proofs/Model/InterfaceLaws.antt,
-- and in proofs/WholeLists.antt for the year book.
-- Specification, Lists of calls; Plain book; Equality of books; Take-up.
use Rattle.std.specs.Prelude.{◌≡◌, ◌↔◌, true, false, List, [], ◌∷◌, ◌++◌, map, ℕ, ◌≤◌, ◌<◌, length, take, drop}
use Rattle.std.proofs.Math.Option.{none, some}
use Rattle.zone.specs.Promise.{ok, refused}
use Rattle.book.specs.Numbers.{book_full, false_entry}
use Rattle.book.specs.Model.Interface.{Interface, Written}
use Rattle.book.specs.Model.Calls.{BookState, Answer, accepted, refused_with, handed_back, Outcome, begin, append, take_up}
use Rattle.book.specs.Model.Plain.{Plain, Entry, empty, book, Snapshot, used_bytes, own_book_state, snapshot, items_ending_by, cut_plain, WellFormed}
use Rattle.book.specs.Model.PlainTakeUp.{number_of_entries, items_in, false_at, take_up_plain}
use Rattle.book.specs.Model.Run.{call_append, call_cut, Calls, Event, plain_make, plain_run, plain_after}
use Rattle.book.specs.Model.Session.{CodeTypes, Session}

module _ (L : Interface) where
  -- ---- lists of calls

  -- One claim about the whole list, not one for each call: for every list of calls that starts with no book, whatever the functions return, each answer, each
  -- lent buffer and the book held after each call are the plain book's.
  abbrev pub WholeLists : CodeTypes L → Type 0
  WholeLists T = (cs : Calls L) (es : List (Event L.State)) → Session L T none cs es → es ≡ plain_run L empty cs

  -- the calls of a run may all be made: each has an answer
  abbrev pub Admissible : List (Event L.State) → Type 0
  Admissible [] = Unit {0}
  Admissible (e ∷ es) = ((a : Answer L.State) × (e.answer ≡ some a)) × Admissible es

  -- There are such sessions, and no others: the lists of calls that have one are those whose calls may all be made, and each of these has one list of
  -- events only, the plain book's. So it is from no book and from any that is held.
  abbrev pub SessionFrom : CodeTypes L → Plain L.Item → Type 0
  SessionFrom T p = (cs : Calls L) (es : List (Event L.State)) → Session L T (snapshot L p) cs es ↔ (Admissible (plain_run L p cs) × (es ≡ plain_run L p cs))

  -- What a caller gives the next call: the values that stand in a reply are those that its answer hands back.
  abbrev pub HandedOn : (T : CodeTypes L) → (T.Reply → T.BookState) → Type 0
  HandedOn T values = (r : T.Reply) → T.given_of (values r) ≡ handed_back (T.answer_of r)

  -- Every list of calls leaves no book or a well-formed one.
  abbrev pub WellFormedAfter : Type 0
  WellFormedAfter = (cs : Calls L) (head : List ℕ) (is : List L.Item) → plain_after L empty cs ≡ book head is → WellFormed L head is

  -- ---- equal books

  -- Two books are equal byte for byte exactly when their heads and items are equal.
  abbrev pub EqualBooks : Type 0
  EqualBooks =
      (head head' : List ℕ) (is is' : List L.Item) (S : WellFormed L head is) (S' : WellFormed L head' is')
      → (used_bytes L head S.contents ≡ used_bytes L head' S'.contents) ↔ ((head ≡ head') × (is ≡ is'))

  -- So it is with the books of two lists of calls.
  abbrev pub TwoBooks : Type 0
  TwoBooks =
      (cs cs' : Calls L) (head head' : List ℕ) (is is' : List L.Item) → plain_after L empty cs ≡ book head is → plain_after L empty cs' ≡ book head' is'
      → (v v' : Snapshot L.State) → snapshot L (book head is) ≡ some v → snapshot L (book head' is') ≡ some v'
      → (v.bytes ≡ v'.bytes) ↔ ((head ≡ head') × (is ≡ is'))

  -- ---- appends and cuts of a well-formed book

  -- appends of items, each with its own bytes behind the used ones
  abbrev pub appends_of : List (L.Item × List ℕ) → Calls L
  appends_of ps = map (λ p. call_append p.0 p.1) ps

  abbrev pub AllAccepted : List (Event L.State) → Type 0
  AllAccepted [] = Unit {0}
  AllAccepted (e ∷ es) = ((v : BookState L.State) × (e.answer ≡ some (accepted v))) × AllAccepted es

  -- each append has room for its entry, and accepts its item wherever the hour step does (of an item that is still judged true but no longer taken it does not)
  abbrev pub HaveRoom : List (Entry L) → List (L.Item × List ℕ) → Type 0
  HaveRoom es [] = Unit {0}
  HaveRoom [] (p ∷ ps) = Unit {0}
  HaveRoom (e ∷ es) (p ∷ ps) =
      (length e.bytes ≤ length p.1)
      × ((z : L.Zone) (k : ℕ) (s : L.State) (d : Written L.State) → L.step z k s p.0 ≡ ok d → L.append_step z k s p.0 ≡ ok d)
      × HaveRoom es ps

  -- the items that a cut keeps: those whose entries end by it
  abbrev pub kept_by : (at : ℕ) → (head : List ℕ) (is : List L.Item) → WellFormed L head is → List L.Item
  kept_by at head is S = items_ending_by L at (length head) S.contents.entries

  pub record OfBook (head : List ℕ) (is : List L.Item) (S : WellFormed L head is) : Type 0 where
    -- An append to a book that is there can be made, whatever its item and the bytes behind the used ones.
    pub append_made : (i : L.Item) (spare : List ℕ) → (a : Answer L.State) × ((plain_make L (book head is) (call_append i spare)).answer ≡ some a)
    -- After an accepted append the book holds the item behind the others, whatever came before.
    pub append_holds : (i : L.Item) (spare : List ℕ) (v : BookState L.State) → (plain_make L (book head is) (call_append i spare)).answer ≡ some (accepted v)
        → (plain_make L (book head is) (call_append i spare)).next ≡ book head (is ++ (i ∷ []))
    -- A cut between the head's end and the used length, ends included, can be made: its answer is that of the take-up of the bytes before it,
    pub cut_made : (at : ℕ) → length head ≤ at → at ≤ length (used_bytes L head S.contents)
        → (plain_make L (book head is) (call_cut at)).answer ≡ some (take_up L (own_book_state L head S.contents) (take at (used_bytes L head S.contents)))
    -- and it holds the items whose entries end by then.
    pub cut_holds : (at : ℕ) → length head ≤ at → at ≤ length (used_bytes L head S.contents)
        → (plain_make L (book head is) (call_cut at)).next ≡ book head (kept_by at head is S)
    -- No other cut can be made.
    pub cut_made_only : (at : ℕ) (a : Answer L.State) → (plain_make L (book head is) (call_cut at)).answer ≡ some a
        → (length head ≤ at) × (at ≤ length (used_bytes L head S.contents))
    -- The two ways to say what a cut leaves agree: the bytes before it taken up, and the items whose entries end by then.
    pub cut_is_take_up : (at : ℕ) → length head ≤ at → cut_plain L head is at ≡ take_up_plain L (take at (used_bytes L head S.contents))
    -- The take-up of what a cut leaves is never refused.
    pub cut_accepted : (at : ℕ) → length head ≤ at → (g : BookState L.State)
        → (v : BookState L.State) × (take_up L g (take at (used_bytes L head S.contents)) ≡ accepted v)
    -- It keeps the first items and loses the others.
    pub cut_keeps_first : (at : ℕ) → length head ≤ at → (lost : List L.Item) × (kept_by at head is S ++ lost ≡ is)
    -- Hours that a cut took are held again once they are accepted anew;
    pub held_again : (at : ℕ) → length head ≤ at → at ≤ length (used_bytes L head S.contents)
        → (ps : List (L.Item × List ℕ)) → kept_by at head is S ++ map (λ p. p.0) ps ≡ is → AllAccepted (plain_run L (book head (kept_by at head is S)) (appends_of ps))
        → plain_after L (book head is) (call_cut at ∷ appends_of ps) ≡ book head is
    -- and they are accepted anew where each has room and is one that appends still take.
    pub accepted_anew : (at : ℕ) → length head ≤ at → at ≤ length (used_bytes L head S.contents)
        → (ps : List (L.Item × List ℕ)) → kept_by at head is S ++ map (λ p. p.0) ps ≡ is → HaveRoom (drop (length (kept_by at head is S)) S.contents.entries) ps
        → AllAccepted (plain_run L (book head (kept_by at head is S)) (appends_of ps))

  -- ---- which bytes are taken up, and which number and index there is otherwise

  -- An accepted head with an accepted start-up, at most 8,784 whole entries, and none of them false.
  pub record TakenUp (bytes : List ℕ) : Type 0 where
    pub zone : L.Zone
    pub n : ℕ
    pub start : L.State
    pub head_is : L.head_of bytes ≡ ok (record { zone = zone; length = n })
    pub start_is : L.start_up zone ≡ ok start
    pub within_limit : number_of_entries L zone (drop n bytes) ≤ L.limit
    pub none_false : (k : ℕ) → k < number_of_entries L zone (drop n bytes) → false_at L zone start (drop n bytes) k ≡ false

  -- Bytes are taken up exactly when they are such;
  abbrev pub TakeUpAccepts : Type 0
  TakeUpAccepts = (g : BookState L.State) (bytes : List ℕ) → ((v : BookState L.State) × (take_up L g bytes ≡ accepted v)) ↔ TakenUp bytes

  -- then the values handed back, and the bytes up to the used length, are those of the plain book with this head and these entries' items.
  abbrev pub TakeUpGives : Type 0
  TakeUpGives =
      (g : BookState L.State) (bytes : List ℕ) (v : BookState L.State) → take_up L g bytes ≡ accepted v → (t : TakenUp bytes)
      → snapshot L (book (take t.n bytes) (items_in L t.zone (drop t.n bytes))) ≡ some (record { bytes = take v.used bytes; values = v })

  -- The head's or start-up's refusal; 17 where there are more than 8,784 whole entries and the first 8,784 are true; or 18 at the first false one.
  pub data NotTakenUp (bytes : List ℕ) : (number index : ℕ) → Type 0 where
    by_head : (c j : ℕ) → L.head_of bytes ≡ refused c j → NotTakenUp bytes c j
    by_start_up : (z : L.Zone) (n c j : ℕ) → L.head_of bytes ≡ ok (record { zone = z; length = n }) → L.start_up z ≡ refused c j → NotTakenUp bytes c j
    by_book_full : (z : L.Zone) (n : ℕ) (s : L.State) → L.head_of bytes ≡ ok (record { zone = z; length = n }) → L.start_up z ≡ ok s
        → L.limit < number_of_entries L z (drop n bytes)
        → ((k : ℕ) → k < L.limit → false_at L z s (drop n bytes) k ≡ false)
        → NotTakenUp bytes book_full 0
    by_false_entry : (z : L.Zone) (n : ℕ) (s : L.State) (k : ℕ) → L.head_of bytes ≡ ok (record { zone = z; length = n }) → L.start_up z ≡ ok s
        → k < number_of_entries L z (drop n bytes) → k < L.limit
        → ((j : ℕ) → j < k → false_at L z s (drop n bytes) j ≡ false)
        → false_at L z s (drop n bytes) k ≡ true
        → NotTakenUp bytes false_entry k

  abbrev pub TakeUpRefuses : Type 0
  TakeUpRefuses =
      (g : BookState L.State) (bytes : List ℕ) (c j : ℕ) (v : BookState L.State)
      → (take_up L g bytes ≡ refused_with c j v) ↔ ((v ≡ g) × NotTakenUp bytes c j)

  -- ---- bytes behind the used ones, for any values and any buffer

  -- They are as they were in the buffer lent;
  abbrev pub SameBehind : (buf : List ℕ) → Outcome L.State → Type 0
  SameBehind buf d = drop (handed_back d.answer).used d.buffer ≡ drop (handed_back d.answer).used buf

  -- after a begin and after an append, accepted or refused.
  abbrev pub BeginLeavesBehind : Type 0
  BeginLeavesBehind = (head : List ℕ) (g : BookState L.State) (buf : List ℕ) → SameBehind buf (begin L head g buf)

  abbrev pub AppendLeavesBehind : Type 0
  AppendLeavesBehind = (z : L.Zone) (g : BookState L.State) (i : L.Item) (buf : List ℕ) → SameBehind buf (append L z g i buf)

-- ---- all that is claimed of books beside the lists of calls

pub record Claims (L : Interface) : Type 0 where
  pub well_formed_after : WellFormedAfter L
  pub equal_books : EqualBooks L
  pub two_books : TwoBooks L
  pub of_book : (head : List ℕ) (is : List L.Item) (S : WellFormed L head is) → OfBook L head is S
  pub take_up_accepts : TakeUpAccepts L
  pub take_up_gives : TakeUpGives L
  pub take_up_refuses : TakeUpRefuses L
  pub begin_leaves_behind : BeginLeavesBehind L
  pub append_leaves_behind : AppendLeavesBehind L
