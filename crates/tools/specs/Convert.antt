-- The conversion of a whole book that is taken up: an hour with rate code 0 becomes one with code 1 and its rate twice, and an hour with code 1 stays as it is.
-- The output is what the plain book has for these hours.
-- Specification, Conversion.
use Rattle.std.specs.Prelude.{ℕ, Bool, not, cond, List, [], ◌++◌, map, length, drop, leb, eqb}
use Rattle.std.specs.List.{list_all}
use Rattle.zone.specs.Promise.{Result, ok, bind, require}
use Rattle.zone.specs.Format.FixedRate.{is_fixed, rate_twice}
use Rattle.book.specs.Numbers.{buffer_short}
use Rattle.book.specs.Model.Plain.{Plain, empty, book, contents_of, used_bytes}
use Rattle.book.specs.Model.PlainTakeUp.{take_up_plain}
use Rattle.book.specs.Year.{Item, hour, year_interface}
use Rattle.tools.specs.Numbers.{version_1_entry}

-- the body of an hour is its conditions' bytes and, in version 3, behind them those of its limits, which stay
abbrev pub converted_body : List ℕ → List ℕ
converted_body body = cond (is_fixed body) (rate_twice body) body

abbrev pub converted_item : Item → Item
converted_item (hour version body) = hour version (converted_body body)

-- an hour with the fixed rate
abbrev pub has_fixed_rate : Item → Bool
has_fixed_rate (hour version body) = is_fixed body

-- A book with an entry of version 1 is not converted.
abbrev pub is_version_1 : Item → Bool
is_version_1 (hour version body) = eqb version 1

-- the number of hours, and the used bytes
pub record ConvertedBook : Type 0 where
  pub count : ℕ
  pub bytes : List ℕ

-- After the take-up 24, an entry of version 1, then 16, the output shorter than the used length. The output has the used bytes of the plain book with the same
-- head and the converted hours.
unfoldable pub convert_items : (head : List ℕ) (is : List Item) → (out : List ℕ) → Result ConvertedBook
convert_items head is out =
    bind (contents_of year_interface head is) λ _.
    bind (require (list_all (λ i. not (is_version_1 i)) is) version_1_entry) λ _.
    bind (contents_of year_interface head (map converted_item is)) λ c.
    let bytes = used_bytes year_interface head c in
    bind (require (leb (length bytes) (length out)) buffer_short) λ _.
    ok (record { count = length c.entries; bytes = bytes })

abbrev pub convert_plain : Plain Item → (out : List ℕ) → Result ConvertedBook
convert_plain empty out = convert_items [] [] out
convert_plain (book head is) out = convert_items head is out

unfoldable pub convert_in : (bytes out : List ℕ) → Result ConvertedBook
convert_in bytes out = bind (take_up_plain year_interface bytes) λ p. convert_plain p out

-- the output after the call: its bytes behind the book stay
abbrev pub output : ConvertedBook → (out : List ℕ) → List ℕ
output b out = b.bytes ++ drop (length b.bytes) out
