-- The first hour of an accepted book: what reading the first record tells of its version.
use Rattle.std.proofs.Common.{ℕ, ◌≤◌, ◌≡◌, refl, sym, ap, ◌∙◌, Bool, false, List, arith, take, get_or-take, le-leb, eqb}
use Rattle.std.specs.Prelude.{None, Some}
use Rattle.std.specs.Prelude as Rust
use Rattle.zone.specs.Format.Layout.{version_at, version_in}
use Rattle.zone.specs.declared.record.zone_record.Zone.{Zone}
use Rattle.book.specs.Model.Calls.{whole_entries}
use Rattle.book.specs.Year.{entry_length, year_interface}
use Rattle.book.specs.Inner.Reader.{read_length}
use Rattle.book.specs.Inner.Record.{length_of, length_read}
use Rattle.book.specs.declared.record.ReadRecord.{ReadRecord}
use Rattle.book.proofs.Laws.Interface.{year_laws}
use Rattle.book.proofs.Laws.Rest.{begins, begins_within}
use Rattle.book.proofs.Model.Laws.Decode.{whole_none, whole_some}
use Rattle.tools.specs.Inner.Convert.{first_is_version_1}

module _ (z : Zone) (few : z.count ≤ 24) (bs : List ℕ) (r : Rust.Option ReadRecord) (e : length_read r ≡ read_length z bs) where
  length_here : length_read r ≡ entry_length z bs
  length_here = e ∙ rw (le-leb z.count 24 few) refl

  pub no_first : r ≡ None → false ≡ first_is_version_1 (whole_entries year_interface z bs)
  no_first d = rw (whole_none year_interface year_laws z bs (sym length_here ∙ ap length_read d)) refl

  pub first_told : (x : ReadRecord) → r ≡ Some x → (b : Bool) → b ≡ eqb (version_in bs) 1 → b ≡ first_is_version_1 (whole_entries year_interface z bs)
  first_told x w b b_is =
      let n = length_of x in
      let whole = sym length_here ∙ ap length_read w in
      let five = (begins_within z bs n (begins z bs n whole)).0 in
      let same : version_in (take n bs) ≡ version_in bs = get_or-take n bs version_at 0 (omega (arith, five)) in
      b_is ∙ rw (whole_some year_interface year_laws z bs n whole, same) refl
