-- The hours of a book as they are read, one after the other.
use Rattle.std.proofs.Common.{ℕ, zero, suc, ◌+◌, ◌-◌, ◌^◌, ◌≤◌, ◌<◌, ◌≡◌, refl, sym, ap, ◌∙◌, Bool, true, false, cond, List, [], ◌∷◌, map, arith, length, take, drop, replicate, leb, Float, Bor}
use Rattle.std.specs.Prelude.{None, Some}
use Rattle.std.specs.Prelude as Rust
use mathlib.Core.Option.{Option, none, some}
use lib.ListN.{length-map}
use Rattle.solver.proofs.Promise.{part_to_end}
use Rattle.zone.specs.Promise.{zero64}
use Rattle.zone.specs.Inner.Temperatures.{most_nodes}
use Rattle.zone.specs.Calls.State.{operative_of}
use Rattle.zone.specs.declared.record.zone_record.Zone.{Zone}
use Rattle.book.specs.Model.Calls.{whole_entries_up_to, whole_entries}
use Rattle.book.specs.Model.Bytes.{from_option}
use Rattle.book.specs.Year.{entry_length, year_interface}
use Rattle.book.specs.Inner.Reader.{most_elements, read_length, read_first}
use Rattle.book.specs.Inner.Record.{length_of, length_read}
use Rattle.book.specs.declared.record.ReadRecord.{ReadRecord}
use Rattle.book.proofs.Model.Laws.Bytes.{none_not_some}
use Rattle.book.proofs.Model.Laws.Decode.{whole_none, whole_some}
use Rattle.book.proofs.Laws.Interface.{year_laws}
use Rattle.book.proofs.Laws.Rest.{begins, begins_within}
use Rattle.tools.specs.Inner.Hours.{entry_temperature, temperatures_in, hours_left}
use Rattle.tools.specs.declared.hours.Hours.{Hours}

pub hour_inside : (z : Zone) (bs : List ℕ) (r : Rust.Option ReadRecord) → length_read r ≡ read_length z bs → (x : ReadRecord) → r ≡ Some x → (n : ℕ) → n ≡ length_of x → n ≤ length bs
hour_inside z bs r length_is x w n n_is = go (leb z.count most_elements) (sym length_is ∙ ap length_read w ∙ ap some (sym n_is))
  where
    go : (b : Bool) → cond b (entry_length z bs) none ≡ some n → n ≤ length bs
    go false q = none_not_some n q
    go true q = (begins_within z bs n (begins z bs n q)).1

module _ (h : Hours) (r : Rust.Option ReadRecord) (length_is : length_read r ≡ read_length h.zone.now h.entries.now) where
  abbrev z : Zone
  z = h.zone.now

  abbrev bs : List ℕ
  bs = h.entries.now

  pub no_hour_left : r ≡ None → hours_left h ≡ []
  unfolding hours_left
  no_hour_left d = go (leb z.count most_elements) refl (sym length_is ∙ ap length_read d)
    where
      go : (b : Bool) → leb z.count most_elements ≡ b → cond b (entry_length z bs) none ≡ none → cond b (temperatures_in z bs) [] ≡ []
      go false e q = refl
      go true e q = ap (map (entry_temperature z)) (whole_none year_interface year_laws z bs q)

  module _ (x : ReadRecord) (w : r ≡ Some x) (n : ℕ) (n_is : n ≡ length_of x) where
    pub hour_next : (out : List Float) → out ≡ read_first z bs (replicate most_nodes zero64) → (others : Bor (List ℕ)) → others.now ≡ take (length bs - n) (drop n bs)
        → hours_left h ≡ operative_of z out ∷ hours_left (record { zone = h.zone; entries = others })
    unfolding hours_left
    hour_next out out_is others others_are = go (leb z.count most_elements) refl (sym length_is ∙ ap length_read w ∙ ap some (sym n_is))
      where
        go : (b : Bool) → leb z.count most_elements ≡ b → cond b (entry_length z bs) none ≡ some n
            → cond b (temperatures_in z bs) [] ≡ operative_of z out ∷ cond b (temperatures_in z others.now) []
        go false e q = none_not_some n q
        go true e q =
            let t : operative_of z out ≡ entry_temperature z (take n bs) = ap (operative_of z) (out_is ∙ rw (e, q) refl) in
            rw (t, others_are, part_to_end bs n) (ap (map (entry_temperature z)) (whole_some year_interface year_laws z bs n q))

-- no more hours than bytes
few_entries : (of : Zone) (f : ℕ) (bytes : List ℕ) → length (whole_entries_up_to year_interface of f bytes) ≤ f
unfolding whole_entries_up_to
few_entries of zero bytes = omega arith
few_entries of (suc f) bytes = go (entry_length of bytes) (λ n. few_entries of f (drop n bytes))
  where
    go : (o : Option ℕ) → ((n : ℕ) → length (whole_entries_up_to year_interface of f (drop n bytes)) ≤ f)
        → length (from_option [] (λ n. take n bytes ∷ whole_entries_up_to year_interface of f (drop n bytes)) o) ≤ suc f
    go none few = omega arith
    go (some n) few = let k = few n in omega (arith, k)

pub few_hours : (h : Hours) → length (hours_left h) ≤ length h.entries.now
unfolding hours_left whole_entries
few_hours h = go (leb h.zone.now.count most_elements)
  where
    go : (b : Bool) → length (cond b (temperatures_in h.zone.now h.entries.now) []) ≤ length h.entries.now
    go false = omega arith
    go true =
        let few = few_entries h.zone.now (length h.entries.now) h.entries.now in
        omega (arith, few, length-map (whole_entries year_interface h.zone.now h.entries.now) (entry_temperature h.zone.now))

-- their numbers fit, from 0 on
pub numbers_fit : (h : Hours) → length h.entries.now < 2 ^ 64 → (n : ℕ) → n ≡ 0 → (left : Hours) → left ≡ h → n + length (hours_left left) < 2 ^ 64
numbers_fit h size n n_is left left_is = let e = ap (λ x. length (hours_left x)) left_is in omega (arith, size, n_is, e, few_hours h)
