-- The plain book's own take-up. It goes by the index of an entry, and shares no loop with the take-up that the contract cites.
-- Specification, Take-up; Where an entry ends; Plain book.
use Rattle.std.specs.Prelude.{Bool, true, not, ◌||◌, cond, List, [], ◌∷◌, ◌++◌, ℕ, zero, suc, length, take, drop, eqb}
use Rattle.zone.specs.Promise.{Result, ok, refused, bind}
use Rattle.book.specs.Numbers.{book_full, false_entry}
use Rattle.book.specs.Model.Bytes.{from_option, equal_bytes, first_below}
use Rattle.book.specs.Model.Interface.{Interface, Written}
use Rattle.book.specs.Model.Plain.{Plain, empty, book, Contents, entries_of, contents_of, last_state}

module _ (L : Interface) (z : L.Zone) where
  -- the length of the whole entry with which a rest begins; 0 where it begins with none
  abbrev pub first_entry_length : (rest : List ℕ) → ℕ
  first_entry_length rest = from_option 0 (λ n. n) (L.entry_length z rest)

  -- the rest of the bytes behind their first k whole entries
  unfoldable pub rest_at : (bs : List ℕ) → (k : ℕ) → List ℕ
  rest_at bs zero = bs
  rest_at bs (suc k) = rest_at (drop (first_entry_length bs) bs) k

  -- the whole entry with index k
  unfoldable pub entry_at : (bs : List ℕ) → (k : ℕ) → List ℕ
  entry_at bs k = take (first_entry_length (rest_at bs k)) (rest_at bs k)

  -- the number of whole entries: the first index at which none begins
  unfoldable pub number_of_entries : (bs : List ℕ) → ℕ
  number_of_entries bs = first_below (length bs) (λ k. eqb (first_entry_length (rest_at bs k)) 0)

  -- the items of the first k whole entries
  unfoldable pub items_before : (bs : List ℕ) → (k : ℕ) → List L.Item
  items_before bs zero = []
  items_before bs (suc k) = items_before bs k ++ (L.item_of z (entry_at bs k) ∷ [])

  -- what the hour step gives for the item of the entry with index k, from the state that the plain book has there
  unfoldable pub step_at : (start : L.State) → (bs : List ℕ) → (k : ℕ) → Result (Written L.State)
  step_at start bs k =
      bind (entries_of L z 0 start (items_before bs k)) λ es.
      L.step z k (last_state start es) (L.item_of z (entry_at bs k))

  abbrev pub refuses_or_differs : Result (Written L.State) → (entry : List ℕ) → Bool
  refuses_or_differs (ok e) c = not (equal_bytes e.bytes c)
  refuses_or_differs (refused n j) c = true

  -- an entry is false where the hour step refuses its item or gives other bytes
  unfoldable pub false_at : (start : L.State) → (bs : List ℕ) → (k : ℕ) → Bool
  false_at start bs k = refuses_or_differs (step_at start bs k) (entry_at bs k)

  -- the first index of a whole entry that is 8,784 or whose entry is false; the number of whole entries where there is none
  unfoldable pub first_invalid : (start : L.State) → (bs : List ℕ) → ℕ
  first_invalid start bs = first_below (number_of_entries bs) (λ k. eqb k L.limit || false_at start bs k)

  -- of the first invalid entry: 17 where it is the 8,785th, else 18 with its index
  abbrev pub refusal_at : (k : ℕ) → Result (Unit {0})
  refusal_at k = cond (eqb k L.limit) (refused book_full 0) (refused false_entry k)

  unfoldable pub test_entries : (start : L.State) → (bs : List ℕ) → Result (Unit {0})
  test_entries start bs = cond (eqb (first_invalid start bs) (number_of_entries bs)) (ok tt) (refusal_at (first_invalid start bs))

  -- the items of all whole entries
  abbrev pub items_in : (bs : List ℕ) → List L.Item
  items_in bs = items_before bs (number_of_entries bs)

module _ (L : Interface) where
  -- a take-up: the head, and the items of the whole entries, that stand in its bytes
  unfoldable pub take_up_plain : (bytes : List ℕ) → Result (Plain L.Item)
  take_up_plain bytes =
      bind (L.head_of bytes) λ h.
      bind (L.start_up h.zone) λ s.
      bind (test_entries L h.zone s (drop h.length bytes)) λ _.
      ok (book (take h.length bytes) (items_in L h.zone (drop h.length bytes)))

  -- what belongs to the plain book that bytes are taken up as: its zone, start-up's state, and its items with their entries and the states after them
  -- (a take-up gives no empty one, which has no head)
  abbrev pub contents_held : Plain L.Item → Result (Contents L)
  contents_held empty = contents_of L [] []
  contents_held (book head is) = contents_of L head is

  unfoldable pub contents_in : (bytes : List ℕ) → Result (Contents L)
  contents_in bytes = bind (take_up_plain bytes) contents_held
