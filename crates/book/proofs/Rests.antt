-- What a take-up makes of bytes behind a book's own.
use Rattle.std.proofs.Common.{ℕ, ◌≤◌, ◌<◌, ◌≡◌, refl, sym, ap, ◌∙◌, ◌≢◌, ◌⊎◌, inl, inr, Bool, true, false, List, [], append-nil, arith, length, take, drop, take-append-drop, length-take-le, get_or-take, take-take}
use mathlib.Core.Option.{some}
use Rattle.zone.specs.Promise.{Result, ok, refused}
use Rattle.zone.specs.Calls.Hour.{hour_version}
use Rattle.zone.specs.Format.Bytes.{bytes_of}
use Rattle.zone.specs.Format.Layout.{version_at, version_in}
use Rattle.zone.specs.declared.record.zone_record.Zone.{Zone}
use Rattle.zone.specs.declared.format.conditions.FixedRate.TheVariants.{StillTaken}
use Rattle.zone.proofs.Promise.{hour_version_not}
use Rattle.book.specs.Numbers.{book_full, false_entry}
use Rattle.book.specs.Layout.{most_entries, limits_length, following_length, whole_length}
use Rattle.book.specs.Model.Bytes.{equal_bytes}
use Rattle.book.specs.Model.Interface.{Written}
use Rattle.book.specs.Model.Calls.{check_entry}
use Rattle.book.specs.Model.Plain.{last_state, WellFormed}
use Rattle.book.specs.Year.{Item, Carried, may_follow, hour_entry, body_in, item_in, year_interface}
use Rattle.book.specs.Rests.{taken_up_with, DroppedBehind, RestClaims}
use Rattle.book.proofs.Model.Laws.Bytes.{equal_true}
use Rattle.book.proofs.Model.Books.Further.{dropped_behind, full_behind, false_behind, refused_behind}
use Rattle.book.proofs.Laws.Entry.{length_back}
use Rattle.book.proofs.Laws.Interface.{step_hour, year_laws}
use Rattle.book.proofs.Laws.NextHour.{step_not_next}
use Rattle.book.proofs.Laws.Rest.{rest_under, rest_short, rest_whole, rest_unknown}

-- versions 1 and 2 are known, and have no limits
pub one_or_two : (version : ℕ) → (version ≡ 1) ⊎ (version ≡ 2) → (hour_version version ≡ true) × (limits_length version ≡ 0)
one_or_two version (inl e) = rw e (refl, refl)
one_or_two version (inr e) = rw e (refl, refl)

-- version 3 is known, and has
three : (version : ℕ) → version ≡ 3 → (hour_version version ≡ true) × (limits_length version ≡ 16)
three version e = rw e (refl, refl)

module _ (head : List ℕ) (is : List Item) (S : WellFormed year_interface head is) (rest : List ℕ) where
  abbrev zone : Zone
  zone = S.contents.zone

  abbrev last : Carried
  last = last_state S.contents.start S.contents.entries

  module _ (known : hour_version (version_in rest) ≡ true) where
    dropped : 5 ≤ length rest → length rest < whole_length zone (version_in rest) → DroppedBehind head is S rest
    dropped five less = dropped_behind year_interface year_laws head is S rest (rest_short zone rest five known less)

    module _ (long : whole_length zone (version_in rest) ≤ length rest) where
      abbrev n : ℕ
      n = whole_length zone (version_in rest)

      abbrev c : List ℕ
      c = take n rest

      counts : length is ≡ most_entries → taken_up_with head is S rest ≡ refused book_full 0
      counts full = full_behind year_interface year_laws head is S full rest n (rest_whole zone rest (omega (arith, long)) known long)

      same_version : version_in c ≡ version_in rest
      same_version = get_or-take n rest version_at 0 (omega arith)

      module _ (other : take 4 rest ≢ bytes_of 4 (following_length zone (version_in rest))) where
        -- an entry that the hour step gives begins with its version's length
        judged : (x : Result (Written Carried)) → hour_entry StillTaken zone (length is) last (item_in zone c) ≡ x → check_entry year_interface (length is) c x ≡ refused false_entry (length is)
        unfolding item_in
        judged (refused a b) e = refl
        judged (ok w) e = go (equal_bytes w.bytes c) refl
          where
            go : (b : Bool) → equal_bytes w.bytes c ≡ b → check_entry year_interface (length is) c (ok w) ≡ refused false_entry (length is)
            go true t =
                let a = step_hour StillTaken zone (length is) last (version_in c) (body_in zone (version_in c) c) w e in
                absurd (other (
                sym (take-take 4 n rest (omega arith))
                ∙ ap (take 4) (sym (equal_true w.bytes c t))
                ∙ sym (ap (λ y. take 4 y.bytes) a.gives)
                ∙ length_back zone (version_in c) (body_in zone (version_in c) c) a.result.demand a.result.state
                ∙ ap (λ (v : ℕ). bytes_of 4 (following_length zone v)) same_version))
            go false t = rw t refl

        wrong : length is < most_entries → taken_up_with head is S rest ≡ refused false_entry (length is)
        wrong few =
            let joined = take-append-drop n rest in
            ap (taken_up_with head is S) (sym joined)
            ∙ false_behind year_interface year_laws head is S few c (drop n rest)
            (ap (λ (x : List ℕ). year_interface.entry_length zone x) joined ∙ rest_whole zone rest (omega (arith, long)) known long ∙ ap some (sym (length-take-le n rest long)))
            (judged _ refl)

  module _ (five : 5 ≤ length rest) (not1 : version_in rest ≢ 1) (not2 : version_in rest ≢ 2) (not3 : version_in rest ≢ 3) where
    not_known : hour_version (version_in rest) ≡ false
    not_known = hour_version_not (version_in rest) not1 not2 not3

    unknown_18 : length is < most_entries → taken_up_with head is S rest ≡ refused false_entry (length is)
    unfolding item_in
    unknown_18 few =
        let v = version_in rest in
        let f : may_follow last.last_version v ≡ false = rw not_known refl in
        ap (taken_up_with head is S) (sym (append-nil rest))
        ∙ refused_behind year_interface year_laws head is S few rest [] (rw (append-nil rest) (rest_unknown zone rest five not_known)) false_entry (length is)
        (step_not_next StillTaken zone last v f (body_in zone v rest) (length is))

    unknown_17 : length is ≡ most_entries → taken_up_with head is S rest ≡ refused book_full 0
    unknown_17 full = full_behind year_interface year_laws head is S full rest (length rest) (rest_unknown zone rest five not_known)

pub rest_claims : (head : List ℕ) (is : List Item) (S : WellFormed year_interface head is) → RestClaims head is S
rest_claims head is S =
    record {
      under_5 = λ rest less. dropped_behind year_interface year_laws head is S rest (rest_under S.contents.zone rest less);
      short = λ rest five v less. let k = one_or_two (version_in rest) v in dropped head is S rest k.0 five (omega (arith, less, k.1));
      short_3 = λ rest five v less. let k = three (version_in rest) v in dropped head is S rest k.0 five (omega (arith, less, k.1));
      whole_full = λ rest v long. let k = one_or_two (version_in rest) v in counts head is S rest k.0 (omega (arith, long, k.1));
      whole_full_3 = λ rest v long. let k = three (version_in rest) v in counts head is S rest k.0 (omega (arith, long, k.1));
      wrong_length = λ rest v long few other.
          let k = one_or_two (version_in rest) v in
          wrong head is S rest k.0 (omega (arith, long, k.1)) (λ e. other (e ∙ ap (bytes_of 4) (omega (arith, k.1)))) few;
      wrong_length_3 = λ rest v long few other.
          let k = three (version_in rest) v in
          wrong head is S rest k.0 (omega (arith, long, k.1)) (λ e. other (e ∙ ap (bytes_of 4) (omega (arith, k.1)))) few;
      unknown = unknown_18 head is S;
      unknown_full = unknown_17 head is S;
    }
