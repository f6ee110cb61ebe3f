-- The claims of specs/ConvertClaims.antt, proved.
use Rattle.std.proofs.Common.{ℕ, ◌≡◌, refl, sym, ap, ◌∙◌, Bool, false, not, List, map, le-leb, length}
use borrow.Author.Tests.{lt-leb}
use Rattle.std.specs.List.{list_all}
use Rattle.zone.specs.Promise.{Result, ok, refused}
use Rattle.zone.proofs.Promise.{ok_not_refused}
use Rattle.zone.specs.Format.FixedRate.{is_fixed}
use Rattle.book.specs.Model.Calls.{BookState, take_up_res}
use Rattle.book.specs.Model.Plain.{Contents}
use Rattle.book.specs.Model.PlainTakeUp.{contents_in}
use Rattle.book.specs.Year.{Item, Carried, year_interface}
use Rattle.tools.specs.Convert.{converted_body, is_version_1, ConvertedBook, convert_in}
use Rattle.tools.specs.ConvertClaims.{Converts, ConvertReasons, ConvertClaims}
use Rattle.tools.proofs.Laws.ConvertedAgain.{unchanged_lem}
use Rattle.tools.proofs.Laws.ConvertedBook.{Conversion, conversion}
use Rattle.tools.proofs.Refusals.{convert_not_taken}

-- what an accepted book is refused with
module _ (bytes : List ℕ) (v : BookState Carried) (c : Contents year_interface) (taken : take_up_res year_interface bytes ≡ ok v) (held : contents_in year_interface bytes ≡ ok c) where
  abbrev C : Conversion bytes v (sym taken)
  C = conversion bytes v (sym taken)

  abbrev tested : List Item → Bool
  tested is = list_all (λ i. not (is_version_1 i)) is

  reasons : ConvertReasons bytes v (map (λ e. e.item) c.entries)
  reasons =
      let is = C.items c held in
      record {
        version_1 = λ t out. C.converts out ∙ rw (ap tested (sym is) ∙ t) refl;
        short = λ t out h. C.converts out ∙ rw (ap tested (sym is) ∙ t, C.made_long, lt-leb v.used (length out) h) refl;
        converted = λ t out h. (_, C.converts out ∙ rw (ap tested (sym is) ∙ t, C.made_long, le-leb v.used (length out) h) refl, C.count_is, C.made_long);
      }

converts : (bytes out : List ℕ) (b : ConvertedBook) → convert_in bytes out ≡ ok b → Converts bytes b
converts bytes out b e = go (take_up_res year_interface bytes) refl
  where
    go : (d : Result (BookState Carried)) → take_up_res year_interface bytes ≡ d → Converts bytes b
    go (ok v) h = let c = conversion bytes v (sym h) in c.alike out b (sym (c.converts out) ∙ e)
    go (refused n j) h = ok_not_refused b n j (sym e ∙ convert_not_taken bytes out n j h)

untouched : (body : List ℕ) → is_fixed body ≡ false → converted_body body ≡ body
untouched body h = rw h refl

pub convert_claims : ConvertClaims
convert_claims = record { not_taken = convert_not_taken; reasons = reasons; converts = converts; untouched = untouched; unchanged = unchanged_lem }
