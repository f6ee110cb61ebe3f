-- What a take-up makes of bytes behind a book's own. It drops a rest under 5 bytes, or shorter than its version byte calls for; an unknown version byte makes
-- any rest of 5 bytes or more count as one whole entry, a false one.
-- Specification, Where an entry ends.
use Rattle.std.specs.Prelude.{ℕ, ◌+◌, ◌*◌, ◌≤◌, ◌<◌, ◌≡◌, ◌≢◌, ◌⊎◌, List, ◌++◌, length, take}
use Rattle.zone.specs.Promise.{Result, ok, refused}
use Rattle.zone.specs.Format.Bytes.{bytes_of}
use Rattle.zone.specs.Format.Layout.{version_in}
use Rattle.zone.specs.Record.BuildingElement.{node_count}
use Rattle.book.specs.Numbers.{book_full, false_entry}
use Rattle.book.specs.Layout.{most_entries}
use Rattle.book.specs.Model.Calls.{BookState, take_up_res}
use Rattle.book.specs.Model.Plain.{used_bytes, own_book_state, WellFormed}
use Rattle.book.specs.Year.{Item, Carried, year_interface}

module _ (head : List ℕ) (is : List Item) (S : WellFormed year_interface head is) where
  -- the book's bytes and a rest behind them, taken up
  abbrev pub taken_up_with : (rest : List ℕ) → Result (BookState Carried)
  taken_up_with rest = take_up_res year_interface (used_bytes year_interface head S.contents ++ rest)

  -- the rest is dropped: what is handed back is the book's own
  abbrev pub DroppedBehind : (rest : List ℕ) → Type 0
  DroppedBehind rest = taken_up_with rest ≡ ok (own_book_state year_interface head S.contents)

  -- 41n + 8N: the part of an entry's length that the head gives
  abbrev pub length_by_head : ℕ
  length_by_head = 41 * S.contents.zone.count + 8 * node_count S.contents.zone

  pub record RestClaims : Type 0 where
    pub under_5 : (rest : List ℕ) → length rest < 5 → DroppedBehind rest
    -- shorter than an entry of version 1 or 2: the 4 bytes of its length, and 147 + 41n + 8N;
    pub short : (rest : List ℕ) → 5 ≤ length rest → (version_in rest ≡ 1) ⊎ (version_in rest ≡ 2) → length rest < 151 + length_by_head → DroppedBehind rest
    -- of version 3 16 more
    pub short_3 : (rest : List ℕ) → 5 ≤ length rest → version_in rest ≡ 3 → length rest < 167 + length_by_head → DroppedBehind rest
    -- A rest of so many bytes or more begins with a whole entry, whatever is behind it: 17 where the book holds 8,784 already;
    pub whole_full : (rest : List ℕ) → (version_in rest ≡ 1) ⊎ (version_in rest ≡ 2) → 151 + length_by_head ≤ length rest → length is ≡ most_entries → taken_up_with rest ≡ refused book_full 0
    pub whole_full_3 : (rest : List ℕ) → version_in rest ≡ 3 → 167 + length_by_head ≤ length rest → length is ≡ most_entries → taken_up_with rest ≡ refused book_full 0
    -- else a wrong length in its first four bytes makes it false, 18 with its index: they do not say where it ends
    pub wrong_length : (rest : List ℕ) → (version_in rest ≡ 1) ⊎ (version_in rest ≡ 2) → 151 + length_by_head ≤ length rest → length is < most_entries
        → take 4 rest ≢ bytes_of 4 (147 + length_by_head) → taken_up_with rest ≡ refused false_entry (length is)
    pub wrong_length_3 : (rest : List ℕ) → version_in rest ≡ 3 → 167 + length_by_head ≤ length rest → length is < most_entries
        → take 4 rest ≢ bytes_of 4 (163 + length_by_head) → taken_up_with rest ≡ refused false_entry (length is)
    -- An unknown version byte: a false entry, 18 with its index, or 17 where the book holds 8,784 already
    pub unknown : (rest : List ℕ) → 5 ≤ length rest → version_in rest ≢ 1 → version_in rest ≢ 2 → version_in rest ≢ 3 → length is < most_entries
        → taken_up_with rest ≡ refused false_entry (length is)
    pub unknown_full : (rest : List ℕ) → 5 ≤ length rest → version_in rest ≢ 1 → version_in rest ≢ 2 → version_in rest ≢ 3 → length is ≡ most_entries
        → taken_up_with rest ≡ refused book_full 0
