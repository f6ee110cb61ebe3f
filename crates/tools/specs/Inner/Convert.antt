-- Entries, as the converter writes them anew.
use Rattle.std.specs.Prelude.{ℕ, ◌+◌, ◌≤◌, ◌≡◌, Bool, false, not, List, [], ◌∷◌, ◌++◌, map, length, take, drop, leb, eqb, Ok, Err}
use Rattle.std.specs.Prelude as Rust
use Rattle.std.specs.List.{list_all}
use Rattle.zone.specs.Promise.{Result, ok, refused, bind, require}
use Rattle.zone.specs.Format.Layout.{version_in}
use Rattle.zone.specs.declared.record.zone_record.Zone.{Zone}
use Rattle.book.specs.Answers.{number_of, index_of}
use Rattle.book.specs.Numbers.{buffer_short}
use Rattle.book.specs.Model.Bytes.{concat}
use Rattle.book.specs.Model.Calls.{whole_entries, take_up_res}
use Rattle.book.specs.Year.{item_in, year_interface}
use Rattle.book.specs.declared.book.BookState.{BookState}
use Rattle.book.specs.declared.book_error.BookError.{BookError}
use Rattle.tools.specs.Numbers.{version_1_entry}
use Rattle.zone.specs.Format.Layout.{first_element_hour}
use Rattle.book.specs.Layout.{front_size}
use Rattle.tools.specs.Convert.{converted_body, is_version_1, ConvertedBook, convert_in}

-- what stands before the body and behind the conditions stays
abbrev pub converted_entry : List ℕ → List ℕ
converted_entry e = take front_size e ++ converted_body (drop front_size e)

-- the bytes of an entry up to its elements' parts
abbrev pub least_entry : ℕ
least_entry = front_size + first_element_hour

unfoldable pub AllLong : List (List ℕ) → Type 0
AllLong [] = Unit {0}
AllLong (c ∷ cs) = (least_entry ≤ length c) × AllLong cs

-- whether the first hour of these is of version 1
abbrev pub first_is_version_1 : (entries : List (List ℕ)) → Bool
first_is_version_1 [] = false
first_is_version_1 (c ∷ cs) = eqb (version_in c) 1

-- what converting gives of these bytes: z is the zone of their head, of n bytes
abbrev pub converted_bytes : Zone → (n : ℕ) → (bytes : List ℕ) → List ℕ
converted_bytes z n bytes = take n bytes ++ concat (map converted_entry (whole_entries year_interface z (drop n bytes)))

abbrev pub conversion_of : Zone → (n : ℕ) → (bytes out : List ℕ) → Result ConvertedBook
conversion_of z n bytes out =
    bind (require (list_all (λ i. not (is_version_1 i)) (map (item_in z) (whole_entries year_interface z (drop n bytes)))) version_1_entry) λ _.
    bind (require (leb (length (converted_bytes z n bytes)) (length out)) buffer_short) λ _.
    ok (record { count = length (whole_entries year_interface z (drop n bytes)); bytes = converted_bytes z n bytes })

-- what is known of a book that is accepted: of its bytes, its head's zone and length, and its values
pub record Known (bytes : List ℕ) (z : Zone) (n : ℕ) (v : BookState) : Type 0 where
  pub few : z.count ≤ 24
  pub inside : n ≤ length bytes
  pub used_is : n + length (concat (whole_entries year_interface z (drop n bytes))) ≡ v.used
  pub count_is : length (whole_entries year_interface z (drop n bytes)) ≡ v.count
  pub long : AllLong (whole_entries year_interface z (drop n bytes))
  pub version : list_all (λ i. not (is_version_1 i)) (map (item_in z) (whole_entries year_interface z (drop n bytes)))
      ≡ not (first_is_version_1 (whole_entries year_interface z (drop n bytes)))
  pub converts : (out : List ℕ) → convert_in bytes out ≡ conversion_of z n bytes out

-- what reading it answers: its head's length and its values, or the take-up's refusal
abbrev pub Accepts : (bytes : List ℕ) → Zone → Rust.Result (ℕ × BookState) BookError → Type 0
Accepts bytes z (Ok a) = Known bytes z a.0 a.1
Accepts bytes z (Err e) = refused (number_of e) (index_of e) ≡ take_up_res year_interface bytes
