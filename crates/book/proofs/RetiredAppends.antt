-- An append of an hour with code 0 is refused, also where a cut lost the hour: the claims of specs/RetiredAppends.antt, proved.
use Rattle.std.proofs.Common.{ℕ, ◌≤◌, ◌<◌, ◌≡◌, refl, sym, ap, subst, ◌∙◌, true, List, [], ◌∷◌, ◌++◌, leb, length, le-leb, lt-ltb}
use Rattle.zone.specs.Promise.{ok, refused}
use Rattle.zone.proofs.Promise.{and_true, bind_ok, ok_inj, conditions_length_lem, hour_version_bounds, hour_tested}
use Rattle.zone.specs.Record.Numbers.{conditions_code}
use Rattle.zone.specs.Record.BuildingElement.{standard_coefficients}
use Rattle.zone.specs.Format.FixedRate.{is_fixed, rate_twice}
use Rattle.zone.specs.Check.ZoneTest.{zone_test}
use Rattle.zone.specs.Calls.State.{zone_and_state_test}
use Rattle.zone.specs.Calls.Hour.{hour_version}
use Rattle.zone.specs.declared.record.zone_record.Zone.{Zone}
use Rattle.zone.specs.declared.format.conditions.FixedRate.TheVariants.{Retired, StillTaken}
use Rattle.zone.specs.declared.format.limits.Limits.{Limits}
use Rattle.zone.specs.Claims.FixedRate.{FixedHour}
use Rattle.zone.proofs.Claims.FixedRate.{retired_claims}
use Rattle.book.specs.Layout.{most_entries, whole_length}
use Rattle.book.specs.Model.Interface.{Written}
use Rattle.book.specs.Model.Calls.{BookState, refused_with, append, append_res}
use Rattle.book.specs.Model.Plain.{book, last_state, append_plain, used_bytes, WellFormed}
use Rattle.book.specs.Model.Run.{call_append, plain_make}
use Rattle.book.specs.Model.Claims.{kept_by}
use Rattle.book.specs.Year.{Item, hour, body_conditions, body_limits, Carried, may_follow, limits_part, hour_item, hour_entry, year_interface}
use Rattle.book.specs.RetiredAppends.{RefusedWith8, RetiredAppends}
use Rattle.book.proofs.Model.Agreement.{contents_is, snapshot_for, snapshot_is}
use Rattle.book.proofs.Model.AppendCut.{plain_append}
use Rattle.book.proofs.Model.Books.Cuts.{formed_after, lost_entry}
use Rattle.book.proofs.Laws.Body.{conditions_are, part_length}
use Rattle.book.proofs.Laws.Interface.{step_hour, step_length, year_laws}
use Rattle.book.proofs.Laws.Twice.{written_twice, entry_twice}

-- the entry of such an hour, of a version that may follow
module _ (z : Zone) (s : Carried) (version : ℕ) (body : List ℕ) (follows : may_follow s.last_version version ≡ true) (f : FixedHour z s.state (body_conditions version body)) where
  entry_refused : (k : ℕ) → hour_entry Retired z k s (hour version body) ≡ refused conditions_code 0
  unfolding hour_entry
  entry_refused k =
      let known = hour_version_bounds version (and_true (hour_version version) (leb s.last_version version) follows).0 in
      let calls = (retired_claims z (body_conditions version body)).calls_refuse standard_coefficients s.state f in
      rw (follows, calls.hour_steps version (body_limits version body) known.0 known.1)

module _ (z : Zone) (given : BookState Carried) (version : ℕ) (conditions buf : List ℕ) (l : Limits) where
  append_refused : given.count < most_entries → may_follow given.state.last_version version ≡ true → FixedHour z given.state.state conditions
      → append year_interface z given (hour_item version conditions l) buf ≡ record { answer = refused_with conditions_code 0 given; buffer = buf }
  unfolding append append_res zone_and_state_test
  append_refused few follows f =
      let same : body_conditions version (conditions ++ limits_part version l) ≡ conditions = conditions_are version conditions (limits_part version l) (part_length version l) in
      let of_body : FixedHour z given.state.state (body_conditions version (conditions ++ limits_part version l)) = rw same f in
      let t = bind_ok (zone_test z) _ tt f.tests in
      rw (t.1, lt-ltb given.count most_entries few, entry_refused z given.state version (conditions ++ limits_part version l) follows of_body given.count)

-- an hour that is judged true has its size, behind a zone and a state that pass their tests
fixed_hour : (z : Zone) (k : ℕ) (s : Carried) (version : ℕ) (body : List ℕ) (e : Written Carried) → hour_entry StillTaken z k s (hour version body) ≡ ok e
    → is_fixed (body_conditions version body) ≡ true → FixedHour z s.state (body_conditions version body)
fixed_hour z k s version body e p fixed =
    let a = step_hour StillTaken z k s version body e p in
    record {
      tests = hour_tested standard_coefficients z s.state StillTaken version (body_limits version body) (body_conditions version body) a.result a.stepped;
      size = conditions_length_lem standard_coefficients z s.state StillTaken version (body_limits version body) (body_conditions version body) a.result a.stepped;
      fixed = fixed;
    }

module _ (head : List ℕ) (is : List Item) (S : WellFormed year_interface head is) (at : ℕ) (lo : length head ≤ at) (hi : at ≤ length (used_bytes year_interface head S.contents))
    (version : ℕ) (body : List ℕ) (later : List Item) (whole : kept_by year_interface at head is S ++ (hour version body ∷ later) ≡ is) (fixed : is_fixed (body_conditions version body) ≡ true)
    (spare : List ℕ) where
  abbrev kept : List Item
  kept = kept_by year_interface at head is S

  lost_refused : RefusedWith8 head kept (hour version body) spare
  unfolding append_plain
  lost_refused =
      let T = formed_after year_interface year_laws head is S at lo hi in
      let N = lost_entry year_interface year_laws head is S at lo hi (hour version body) later whole in
      let s = last_state T.contents.start T.contents.entries in
      let k = length T.contents.entries in
      let a = step_hour StillTaken T.contents.zone k s version body N.e N.stepped in
      let r = entry_refused T.contents.zone s version body a.follows (fixed_hour T.contents.zone k s version body N.e N.stepped fixed) k in
      record {
        own = snapshot_for year_interface head kept T;
        is_own = snapshot_is year_interface head kept T;
        outcome = plain_append year_interface year_laws head kept T (hour version body) spare ∙ rw (contents_is year_interface head kept T, lt-ltb k most_entries N.room, r) refl;
      }

  -- its rate twice
  lost_as_another : whole_length S.contents.zone version ≤ length spare
      → (plain_make year_interface (book head kept) (call_append (hour version (rate_twice body)) spare)).next ≡ book head (kept ++ (hour version (rate_twice body) ∷ []))
  unfolding append_plain
  lost_as_another room =
      let T = formed_after year_interface year_laws head is S at lo hi in
      let N = lost_entry year_interface year_laws head is S at lo hi (hour version body) later whole in
      let z = T.contents.zone in
      let s = last_state T.contents.start T.contents.entries in
      let k = length T.contents.entries in
      let same : S.contents.zone ≡ z = ap (λ x. x.zone) (ok_inj (sym S.head_is ∙ T.head_is)) in
      let room' : whole_length z version ≤ length spare = subst (λ x. whole_length x version ≤ length spare) same room in
      let w = written_twice z k s version body N.e N.stepped fixed in
      let e = entry_twice z k s version body N.e N.stepped fixed in
      let l = step_length Retired z k s version (rate_twice body) w e in
      ap (λ t. t.next) (plain_append year_interface year_laws head kept T (hour version (rate_twice body)) spare)
      ∙ rw (contents_is year_interface head kept T, lt-ltb k most_entries N.room, e, le-leb (length w.bytes) (length spare) (rw l room')) refl

pub retired_appends : RetiredAppends
retired_appends =
    record {
      append_refused = append_refused;
      lost_refused = lost_refused;
      lost_as_another = lost_as_another;
    }
