-- The plain book: a head's bytes and the items that it holds, and nothing else. Whatever else it has is worked out from these.
-- Specification, Plain book.
use Rattle.std.specs.Prelude.{cond, ◌≡◌, List, [], ◌∷◌, ◌++◌, map, ℕ, ◌+◌, ◌≤◌, length, take, leb, ltb}
use Rattle.std.proofs.Math.Option.{Option, none, some}
use Rattle.zone.specs.Promise.{Result, ok, refused, bind, require}
use Rattle.book.specs.Numbers.{buffer_short, book_full}
use Rattle.book.specs.Model.Bytes.{concat}
use Rattle.book.specs.Model.Interface.{Interface}
use Rattle.book.specs.Model.Calls.{BookState}

-- it is empty, or holds a head's bytes and hours
pub data Plain (Item : Type 0) : Type 0 where
  empty : Plain Item
  book : (head : List ℕ) → (items : List Item) → Plain Item

-- what is seen of a book: its used bytes, and the values that belong to it
pub record Snapshot (State : Type 0) : Type 0 where
  pub bytes : List ℕ
  pub values : BookState State

-- an item that a book holds, the bytes of its entry and the state after it
pub record Entry (L : Interface) : Type 0 where
  pub item : L.Item
  pub bytes : List ℕ
  pub after : L.State

module _ {L : Interface} where
  -- the bytes of entries, one behind the other
  abbrev pub entry_bytes : List (Entry L) → List ℕ
  entry_bytes es = concat (map (λ e. e.bytes) es)

  -- the state after entries, s where there are none
  abbrev pub last_state : (s : L.State) → List (Entry L) → L.State
  last_state s [] = s
  last_state s (e ∷ es) = last_state e.after es

-- what belongs to a head and items: the zone, start-up's state, and the entries of the items
pub record Contents (L : Interface) : Type 0 where
  pub zone : L.Zone
  pub start : L.State
  pub entries : List (Entry L)

module _ (L : Interface) where
  -- per hour the entry that the hour step gives from the state before it: from index k and state s on
  unfoldable pub entries_of : L.Zone → (k : ℕ) → L.State → List L.Item → Result (List (Entry L))
  entries_of z k s [] = ok []
  entries_of z k s (i ∷ is) =
      bind (L.step z k s i) λ w.
      bind (entries_of z (k + 1) w.after is) λ es.
      ok (record { item = i; bytes = w.bytes; after = w.after } ∷ es)

  -- the first of them from start-up's state
  unfoldable pub contents_of : (head : List ℕ) → List L.Item → Result (Contents L)
  contents_of head is =
      bind (L.head_of head) λ h.
      bind (L.start_up h.zone) λ s.
      bind (entries_of h.zone 0 s is) λ es.
      ok (record { zone = h.zone; start = s; entries = es })

  -- its used bytes: the head, then per hour the entry
  abbrev pub used_bytes : (head : List ℕ) → Contents L → List ℕ
  used_bytes head c = head ++ entry_bytes c.entries

  -- its values: the state after the last entry (start-up's where there is none), the number of these entries, the length of these bytes
  abbrev pub own_book_state : (head : List ℕ) → Contents L → BookState L.State
  own_book_state head c = record { state = last_state c.start c.entries; count = length c.entries; used = length (used_bytes head c) }

  abbrev pub snapshot_of : (head : List ℕ) → Result (Contents L) → Option (Snapshot L.State)
  snapshot_of head (ok c) = some (record { bytes = used_bytes head c; values = own_book_state head c })
  snapshot_of head (refused n j) = none

  unfoldable pub snapshot : Plain L.Item → Option (Snapshot L.State)
  snapshot empty = none
  snapshot (book head is) = snapshot_of head (contents_of head is)

  -- ---- what a begin, an append and a cut make of it, or the refusal

  -- a begin: the head's own bytes, no hours
  unfoldable pub begin_plain : (head buf : List ℕ) → Result (Plain L.Item)
  begin_plain head buf =
      bind (L.head_of head) λ h.
      bind (L.start_up h.zone) λ s.
      bind (require (leb h.length (length buf)) buffer_short) λ _.
      ok (book (take h.length head) [])

  -- an append: as it was, with the hour behind the others; `spare` are the bytes of the lent buffer behind the used ones
  unfoldable pub append_plain : (head : List ℕ) (is : List L.Item) → L.Item → (spare : List ℕ) → Result (Plain L.Item)
  append_plain head is i spare =
      bind (contents_of head is) λ c.
      bind (require (ltb (own_book_state head c).count L.limit) book_full) λ _.
      bind (L.append_step c.zone (own_book_state head c).count (own_book_state head c).state i) λ e.
      bind (require (leb (length e.bytes) (length spare)) buffer_short) λ _.
      ok (book head (is ++ (i ∷ [])))

  -- the items whose entries end by byte `at`, where the first of the entries begins at byte `b`
  unfoldable pub items_ending_by : (at b : ℕ) → List (Entry L) → List L.Item
  items_ending_by at b [] = []
  items_ending_by at b (e ∷ es) =
      let others = items_ending_by at (b + length e.bytes) es in
      cond (leb (b + length e.bytes) at) (e.item ∷ others) others

  -- a cut at a place between the head's end and the used length, ends included: the hours whose entries end by then stay
  unfoldable pub cut_plain : (head : List ℕ) (is : List L.Item) → (at : ℕ) → Result (Plain L.Item)
  cut_plain head is at =
      bind (contents_of head is) λ c.
      ok (book head (items_ending_by at (length head) c.entries))

  -- a plain book as lists of calls leave it: no bytes behind the head's own, head, start-up and items all accepted, and at most 8,784 items
  pub record WellFormed (head : List ℕ) (is : List L.Item) : Type 0 where
    pub contents : Contents L
    pub head_is : L.head_of head ≡ ok (record { zone = contents.zone; length = length head })
    pub start_is : L.start_up contents.zone ≡ ok contents.start
    pub entries_are : entries_of contents.zone 0 contents.start is ≡ ok contents.entries
    pub within_limit : length is ≤ L.limit
