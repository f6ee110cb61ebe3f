-- What is claimed of the converter: every demand, temperature, chosen rate and trigger has the same bits as before, the output is what the plain book has for
-- the converted hours, and an hour with rate code 1 stays as it is.
-- Specification, Conversion; Fixed rate.
use Rattle.std.specs.Prelude.{ℕ, ◌+◌, ◌≤◌, ◌<◌, ◌≡◌, true, false, not, List, [], ◌∷◌, ◌++◌, map, length, take, drop}
use Rattle.std.specs.List.{list_all}
use Rattle.zone.specs.Promise.{ok, refused}
use Rattle.zone.specs.Format.FixedRate.{is_fixed}
use Rattle.zone.specs.declared.record.zone_record.Zone.{Zone}
use Rattle.book.specs.Numbers.{buffer_short}
use Rattle.book.specs.Layout.{front_size}
use Rattle.book.specs.Model.Calls.{BookState, take_up_res}
use Rattle.book.specs.Model.Plain.{Entry, Contents, used_bytes, WellFormed}
use Rattle.book.specs.Model.PlainTakeUp.{contents_in}
use Rattle.book.specs.Year.{Item, Carried, year_interface}
use Rattle.tools.specs.Numbers.{version_1_entry}
use Rattle.tools.specs.Convert.{converted_body, converted_item, has_fixed_rate, is_version_1, ConvertedBook, convert_in}

-- Appends give these entries, one behind the other from a state on: none is refused for a code 0.
unfoldable pub Appended : Zone → (k : ℕ) → Carried → List (Entry year_interface) → Type 0
Appended z k s [] = Unit {0}
Appended z k s (e ∷ es) = (year_interface.append_step z k s e.item ≡ ok (record { bytes = e.bytes; after = e.after })) × Appended z (k + 1) e.after es

-- Of an accepted book and its output, both taken up: one zone, one start-up, and hour by hour the converted hour, the same state after it, and the same bytes
-- but those of a fixed rate's code and second float. So demands, rates and triggers stand in the output as they did.
pub record Converts (bytes : List ℕ) (b : ConvertedBook) : Type 0 where
  pub head : List ℕ
  pub old : Contents year_interface
  pub new : Contents year_interface
  pub old_taken : contents_in year_interface bytes ≡ ok old
  pub new_taken : contents_in year_interface b.bytes ≡ ok new
  -- the last temperatures, the count and the used length are the same
  pub same_values : take_up_res year_interface b.bytes ≡ take_up_res year_interface bytes
  -- the head's bytes are the book's, and behind the entries there is nothing
  pub same_head : take (length head) bytes ≡ head
  pub output_is : used_bytes year_interface head new ≡ b.bytes
  pub same_zone : new.zone ≡ old.zone
  pub same_start : new.start ≡ old.start
  pub count_is : length old.entries ≡ b.count
  pub items : map (λ e. e.item) new.entries ≡ map (λ e. converted_item e.item) old.entries
  pub states : map (λ e. e.after) new.entries ≡ map (λ e. e.after) old.entries
  pub entries : map (λ e. e.bytes) new.entries ≡ map (λ e. take front_size e.bytes ++ converted_body (drop front_size e.bytes)) old.entries
  -- no hour has the fixed rate any more, and appends from start-up's state on give the same entries;
  pub none_fixed : list_all (λ i. not (has_fixed_rate i)) (map (λ e. e.item) new.entries) ≡ true
  pub appended : Appended new.zone 0 new.start new.entries
  -- and converting again changes nothing.
  pub again : (out : List ℕ) → length b.bytes ≤ length out → convert_in b.bytes out ≡ ok b

-- Of an accepted book, whose hours are `is`: 24 where it has an entry of version 1; else 16 where the output is shorter than the used length.
pub record ConvertReasons (bytes : List ℕ) (v : BookState Carried) (is : List Item) : Type 0 where
  pub version_1 : list_all (λ i. not (is_version_1 i)) is ≡ false → (out : List ℕ) → convert_in bytes out ≡ refused version_1_entry 0
  pub short : list_all (λ i. not (is_version_1 i)) is ≡ true → (out : List ℕ) → length out < v.used → convert_in bytes out ≡ refused buffer_short 0
  -- any other is converted
  pub converted : list_all (λ i. not (is_version_1 i)) is ≡ true → (out : List ℕ) → v.used ≤ length out
      → (b : ConvertedBook) × (convert_in bytes out ≡ ok b) × (b.count ≡ v.count) × (length b.bytes ≡ v.used)

pub record ConvertClaims : Type 0 where
  -- Bytes that are not taken up have the take-up's refusal.
  pub not_taken : (bytes out : List ℕ) (number index : ℕ) → take_up_res year_interface bytes ≡ refused number index → convert_in bytes out ≡ refused number index
  pub reasons : (bytes : List ℕ) (v : BookState Carried) (c : Contents year_interface) → take_up_res year_interface bytes ≡ ok v → contents_in year_interface bytes ≡ ok c
      → ConvertReasons bytes v (map (λ e. e.item) c.entries)
  pub converts : (bytes out : List ℕ) (b : ConvertedBook) → convert_in bytes out ≡ ok b → Converts bytes b
  -- An hour with rate code 1 stays as it is.
  pub untouched : (body : List ℕ) → is_fixed body ≡ false → converted_body body ≡ body
  -- So the output for a book that has no other hours is its used bytes.
  pub unchanged : (head : List ℕ) (is : List Item) (S : WellFormed year_interface head is)
      → list_all (λ i. not (is_version_1 i)) is ≡ true → list_all (λ i. not (has_fixed_rate i)) is ≡ true
      → (out : List ℕ) → length (used_bytes year_interface head S.contents) ≤ length out
      → convert_in (used_bytes year_interface head S.contents) out ≡ ok (record { count = length S.contents.entries; bytes = used_bytes year_interface head S.contents })
