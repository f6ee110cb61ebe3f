-- The year book's layers meet the laws that the plain book asks of its layers.
use Rattle.std.proofs.Common.{ℕ, ◌<◌, ◌≡◌, refl, sym, ap, ◌∙◌, Bool, true, false, List, ◌++◌, arith, length, take, length-append, length-take-le, get_or-take, leb, leb-true, leb-false}
use mathlib.Core.Option.{none, some}
use lib.ListN.{get_or-append}
use Rattle.zone.specs.Promise.{ok, require_at}
use Rattle.zone.specs.Record.BuildingElement.{standard_coefficients}
use Rattle.zone.proofs.Promise.{and_true, bind_is, bind_ok, hour_version_bounds, ok_inj, require_ok}
use Rattle.zone.specs.declared.record.zone_record.Zone.{Zone}
use Rattle.zone.specs.declared.format.conditions.FixedRate.{FixedRate}
use Rattle.zone.specs.declared.format.conditions.FixedRate.TheVariants.{Retired, StillTaken}
use Rattle.zone.proofs.Claims.Head.{head_within, head_then, head_tested}
use Rattle.zone.proofs.Claims.FixedRate.{hour_still}
use Rattle.zone.specs.Calls.Hour.{HourResult, hour_version, hour_step}
use Rattle.book.specs.Numbers.{false_entry}
use Rattle.book.specs.Model.Interface.{Written}
use Rattle.book.proofs.Model.InterfaceLaws.{Laws}
use Rattle.zone.specs.Format.Layout.{version_at, version_in}
use Rattle.book.specs.Layout.{front_size, whole_length}
use Rattle.book.specs.Entry.{entry_of}
use Rattle.book.specs.Year.{Item, hour, body_conditions, body_limits, Carried, carried, may_follow, hour_entry, entry_length, body_in, item_in, year_interface}
use Rattle.book.proofs.Laws.Entry.{version_back, body_back}
use Rattle.book.proofs.Laws.Accepted.{hour_body, hour_entry_lem}
use Rattle.book.proofs.Laws.Rest.{rest_under, rest_short, rest_whole, begins, begins_within}

-- an accepted hour's entry
pub record HourEntered (fixed : FixedRate) (z : Zone) (s : Carried) (version : ℕ) (i : List ℕ) (e : Written Carried) : Type 0 where
  pub follows : may_follow s.last_version version ≡ true
  pub result : HourResult
  pub stepped : hour_step fixed standard_coefficients z version (body_limits version i) s.state (body_conditions version i) ≡ ok result
  pub gives : record { bytes = entry_of z version i result.demand result.state; after = carried result.state version } ≡ e

module _ (fixed : FixedRate) (z : Zone) (k : ℕ) (s : Carried) (version : ℕ) (i : List ℕ) (e : Written Carried) (p : hour_entry fixed z k s (hour version i) ≡ ok e) where
  pub step_hour : HourEntered fixed z s version i e
  unfolding hour_entry
  step_hour =
      let f = bind_ok (require_at (may_follow s.last_version version) false_entry k) _ e p in
      let r = bind_ok (hour_step fixed standard_coefficients z version (body_limits version i) s.state (body_conditions version i)) _ e f.2 in
      record {
        follows = require_ok (may_follow s.last_version version) false_entry k f.0 f.1;
        result = r.0;
        stepped = r.1;
        gives = ok_inj r.2;
      }

  step_known : hour_version version ≡ true
  step_known = (and_true (hour_version version) (leb s.last_version version) step_hour.follows).0

  -- versions that hours have are bytes
  version_few : version < 256
  version_few = omega (arith, (hour_version_bounds version step_known).1)

  step_version : version_in e.bytes ≡ version
  step_version =
      let a = step_hour in
      let l = hour_body fixed z version s.state i a.result a.stepped in
      sym (ap (λ x. version_in x.bytes) a.gives) ∙ version_back z version i a.result.demand a.result.state l version_few

  step_item : item_in z e.bytes ≡ hour version i
  unfolding item_in
  step_item =
      let a = step_hour in
      let l = hour_body fixed z version s.state i a.result a.stepped in
      (λ t. hour (step_version t) (body_in z (step_version t) e.bytes))
      ∙ ap (hour version) (sym (ap (λ x. body_in z version x.bytes) a.gives) ∙ body_back z version i a.result.demand a.result.state l)

  pub step_length : length e.bytes ≡ whole_length z version
  step_length = let a = step_hour in sym (ap (λ x. length x.bytes) a.gives) ∙ hour_entry_lem fixed z version s.state i a.result a.stepped

  -- the entry is a whole record, whatever follows it,
  module _ (rest : List ℕ) where
    version_on : version_in (e.bytes ++ rest) ≡ version
    version_on = get_or-append e.bytes rest 0 version_at (omega (arith, step_length)) ∙ step_version

    step_on : entry_length z (e.bytes ++ rest) ≡ some (length e.bytes)
    step_on =
        let l = length-append e.bytes rest in
        rest_whole z (e.bytes ++ rest) (omega (arith, l, step_length)) (rw version_on step_known) (rw version_on (omega (arith, l, step_length)))
        ∙ rw version_on (ap some (sym step_length))

  -- and less of it is none
  module _ (m : ℕ) (less : m < length e.bytes) where
    cut : length (take m e.bytes) ≡ m
    cut = length-take-le m e.bytes (omega (arith, less))

    step_cut : entry_length z (take m e.bytes) ≡ none
    step_cut = go (leb front_size m) refl
      where
        go : (b : Bool) → leb front_size m ≡ b → entry_length z (take m e.bytes) ≡ none
        go true t =
            let five = leb-true front_size m t in
            let same : version_in (take m e.bytes) ≡ version = get_or-take m e.bytes version_at 0 (omega (arith, five)) ∙ step_version in
            rest_short z (take m e.bytes) (omega (arith, cut, five)) (rw same step_known) (rw same (omega (arith, cut, less, step_length)))
        go false t = rest_under z (take m e.bytes) (omega (arith, cut, leb-false front_size m t))

step_back : (z : Zone) (k : ℕ) (s : Carried) (i : Item) (e : Written Carried) → hour_entry StillTaken z k s i ≡ ok e → item_in z e.bytes ≡ i
step_back z k s (hour version i) e p = step_item StillTaken z k s version i e p

whole_behind : (z : Zone) (k : ℕ) (s : Carried) (i : Item) (e : Written Carried) → hour_entry StillTaken z k s i ≡ ok e → (rest : List ℕ) → entry_length z (e.bytes ++ rest) ≡ some (length e.bytes)
whole_behind z k s (hour version i) e p = step_on StillTaken z k s version i e p

none_before : (z : Zone) (k : ℕ) (s : Carried) (i : Item) (e : Written Carried) → hour_entry StillTaken z k s i ≡ ok e → (m : ℕ) → m < length e.bytes → entry_length z (take m e.bytes) ≡ none
none_before z k s (hour version i) e p = step_cut StillTaken z k s version i e p

-- what an append gives is what a take-up judges by
append_still : (z : Zone) (k : ℕ) (s : Carried) (i : Item) (e : Written Carried) → hour_entry Retired z k s i ≡ ok e → hour_entry StillTaken z k s i ≡ ok e
unfolding hour_entry
append_still z k s (hour version i) e p =
    let f = bind_ok (require_at (may_follow s.last_version version) false_entry k) _ e p in
    let r = bind_ok (hour_step Retired standard_coefficients z version (body_limits version i) s.state (body_conditions version i)) _ e f.2 in
    bind_is (require_at (may_follow s.last_version version) false_entry k) _ f.0 _ f.1
    (bind_is (hour_step StillTaken standard_coefficients z version (body_limits version i) s.state (body_conditions version i)) _ r.0 _
    (hour_still standard_coefficients z version (body_limits version i) s.state (body_conditions version i) r.0 r.1) r.2)

pub year_laws : Laws year_interface
year_laws =
    record {
      head_within = head_within;
      head_own = head_then;
      start_tested = λ bs h s e f. head_tested bs h e;
      step_tested = λ z k s i e t h. t;
      append_step_lem = append_still;
      length_within = λ z bs n p. let f = begins_within z bs n (begins z bs n p) in (omega (arith, f.0), f.1);
      length_whole = whole_behind;
      length_short = none_before;
      item_back = step_back;
    }
