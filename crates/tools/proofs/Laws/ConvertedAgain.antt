-- A book with no fixed rate and no entry of version 1 is its own conversion. So converting again changes nothing.
use Rattle.std.proofs.Common.{ℕ, ◌+◌, ◌≤◌, ◌≡◌, refl, sym, ap, ◌∙◌, true, false, not, ◌&&◌, List, [], ◌∷◌, map, arith, le-leb, length, length-append, eqb}
use lib.Seq.{take-length}
use Rattle.std.specs.List.{list_all}
use Rattle.zone.specs.Promise.{ok}
use Rattle.zone.proofs.Promise.{and_true}
use Rattle.zone.specs.declared.record.zone_record.Zone.{Zone}
use Rattle.book.specs.Model.Plain.{Entry, entry_bytes, used_bytes, book, items_ending_by, entries_of, WellFormed}
use Rattle.book.specs.Model.PlainTakeUp.{take_up_plain}
use Rattle.book.specs.VersionOrder.{versions_of}
use Rattle.book.specs.Year.{Item, hour, Carried, year_interface}
use Rattle.book.proofs.Laws.Interface.{year_laws}
use Rattle.book.proofs.Model.Agreement.{contents_is}
use Rattle.book.proofs.Model.AppendCut.{cut_is, cut_take_up}
use Rattle.book.proofs.Model.Laws.Entries.{Entries, entries_cons, items_are}
use Rattle.tools.specs.Convert.{converted_item, has_fixed_rate, is_version_1, convert_items, convert_in}
use Rattle.tools.proofs.Laws.Nearer.{not_true}
use Rattle.tools.proofs.Laws.ConvertedStep.{fixed_gone}

-- ---- hours

-- no accepted hour has the fixed rate once it is converted
pub none_fixed : (z : Zone) (k : ℕ) (s : Carried) (is : List Item) (es : Entries year_interface) → entries_of year_interface z k s is ≡ ok es
    → list_all (λ i. not (has_fixed_rate i)) (map converted_item is) ≡ true
unfolding entries_of
none_fixed z k s [] es h = refl
none_fixed z k s (i ∷ is) es h =
    let a = entries_cons year_interface z k s i is es h in
    rw (fixed_gone z k s i a.e a.stepped) (none_fixed z (k + 1) a.e.after is a.others a.rest)

-- what has none stays as it is, and its version in any case
item_stays : (i : Item) → has_fixed_rate i ≡ false → converted_item i ≡ i
item_stays (hour version body) h = rw h refl

version_stays : (i : Item) → is_version_1 (converted_item i) ≡ is_version_1 i
version_stays (hour version body) = refl

-- whether it is 1 is told by the versions alone
pub by_versions : (is : List Item) → list_all (λ i. not (is_version_1 i)) is ≡ list_all (λ v. not (eqb v 1)) (versions_of is)
by_versions [] = refl
by_versions (hour version body ∷ is) = ap (λ b. not (eqb version 1) && b) (by_versions is)

same_items : (is : List Item) → list_all (λ i. not (has_fixed_rate i)) is ≡ true → map converted_item is ≡ is
same_items [] h = refl
same_items (i ∷ is) h =
    let both = and_true (not (has_fixed_rate i)) (list_all (λ i. not (has_fixed_rate i)) is) h in
    λ t. item_stays i (not_true (has_fixed_rate i) both.0) t ∷ same_items is both.1 t

pub versions_stay : (is : List Item) → list_all (λ i. not (is_version_1 i)) (map converted_item is) ≡ list_all (λ i. not (is_version_1 i)) is
versions_stay [] = refl
versions_stay (i ∷ is) = λ t. not (version_stays i t) && versions_stay is t

-- ---- a book

-- all entries end by the end of the used bytes
all_end : (at b : ℕ) (es : List (Entry year_interface)) → b + length (entry_bytes es) ≤ at → items_ending_by year_interface at b es ≡ map (λ e. e.item) es
unfolding items_ending_by
all_end at b [] h = refl
all_end at b (e ∷ es) h =
    let l = length-append e.bytes (entry_bytes es) in
    rw (le-leb (b + length e.bytes) at (omega (arith, h, l))) (ap (λ x. e.item ∷ x) (all_end at (b + length e.bytes) es (omega (arith, h, l))))

module _ (head : List ℕ) (is : List Item) (S : WellFormed year_interface head is) where
  abbrev bytes : List ℕ
  bytes = used_bytes year_interface head S.contents

  taken_up : take_up_plain year_interface bytes ≡ ok (book head is)
  taken_up =
      let l = length-append head (entry_bytes S.contents.entries) in
      ap (take_up_plain year_interface) (sym (take-length bytes))
      ∙ sym (cut_take_up year_interface year_laws head is S (length bytes) (omega (arith, l)))
      ∙ cut_is year_interface year_laws head is S (length bytes)
      ∙ ap (λ x. ok (book head x)) (all_end (length bytes) (length head) S.contents.entries (omega (arith, l)) ∙ items_are year_interface S.contents.zone 0 S.contents.start is S.contents.entries S.entries_are)

  pub unchanged_lem : list_all (λ i. not (is_version_1 i)) is ≡ true → list_all (λ i. not (has_fixed_rate i)) is ≡ true → (out : List ℕ) → length bytes ≤ length out
      → convert_in bytes out ≡ ok (record { count = length S.contents.entries; bytes = bytes })
  unfolding convert_in convert_items
  unchanged_lem later none out room =
      rw (taken_up, contents_is year_interface head is S, later, same_items is none, contents_is year_interface head is S, le-leb (length bytes) (length out) room) refl
