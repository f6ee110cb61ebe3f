-- Versions never fall in a well-formed book, the last is handed back, and a version that may not follow is 18, at an append and at a take-up.
use Rattle.std.proofs.Common.{ℕ, zero, suc, ◌+◌, ◌≤◌, ◌<◌, ◌≡◌, refl, sym, ap, subst, ◌∙◌, ◌⊎◌, inl, inr, Bool, true, false, List, [], ◌∷◌, ◌++◌, arith, leb, length, length-append, leb-true, leb-false, lt-ltb}
use mathlib.Core.Option.{some}
use lib.ListN.{get_or-append}
use borrow.Author.Tests.{lt-leb}
use Rattle.zone.specs.Promise.{RefusesOnly, ok, refused}
use Rattle.zone.proofs.Promise.{and_true, bind_ok, hour_version_bounds, hour_version_not, ok_inj, refusal_by, refuses_also}
use Rattle.zone.specs.Record.BuildingElement.{standard_coefficients}
use Rattle.zone.specs.Check.ZoneTest.{zone_test}
use Rattle.zone.specs.Calls.Hour.{hour_version}
use Rattle.zone.specs.Calls.StartUp.{init_node_temps}
use Rattle.zone.specs.Format.Layout.{version_at, version_in}
use Rattle.zone.specs.declared.record.zone_record.Zone.{Zone}
use Rattle.zone.specs.declared.format.conditions.FixedRate.TheVariants.{Retired, StillTaken}
use Rattle.zone.proofs.Claims.HeadRefusals.{zone_below, zone_refusals}
use Rattle.zone.proofs.Claims.Refusals.{demand_below}
use Rattle.zone.specs.Claims.Refusals.{KnownHourRefusal, hour_demand, hour_limit_value}
use Rattle.book.specs.Numbers.{buffer_short, book_full, false_entry}
use Rattle.book.specs.Layout.{most_entries, whole_length}
use Rattle.book.specs.Model.Interface.{Written}
use Rattle.book.specs.Model.Calls.{BookState, append_res, take_up_res}
use Rattle.book.specs.Model.Plain.{Entry, last_state, entries_of, used_bytes, WellFormed}
use Rattle.book.specs.Year.{Item, hour, version_of, Carried, no_entry_version, may_follow, start_up, hour_entry, body_in, item_in, year_interface}
use Rattle.book.specs.VersionOrder.{versions_of, NeverFall, last_version_of, MayNotFollow, InOrder, VersionClaims}
use Rattle.book.proofs.Model.Laws.Bytes.{some_inj}
use Rattle.book.proofs.Model.Laws.Entries.{entries_cons}
use Rattle.book.proofs.Model.Laws.Refusals.{append_refuses_by}
use Rattle.book.proofs.Model.Agreement.{snapshot_is}
use Rattle.book.proofs.Model.Whole.{well_formed_after}
use Rattle.book.proofs.Model.Books.Further.{refused_behind}
use Rattle.book.proofs.Laws.Interface.{step_hour, year_laws}
use Rattle.book.proofs.Laws.Rest.{rest_whole}
use Rattle.book.proofs.Laws.NextHour.{step_not_next}
use Rattle.book.proofs.Refusals.{hour_refuses_by}
use Rattle.book.proofs.Rests.{one_or_two}

-- ---- hour by hour

module _ (z : Zone) where
  step_version : (k : ℕ) (s : Carried) (i : Item) (e : Written Carried) → hour_entry StillTaken z k s i ≡ ok e
      → (hour_version (version_of i) ≡ true) × (s.last_version ≤ version_of i) × (e.after.last_version ≡ version_of i)
  step_version k s (hour version body) e p =
      let a = step_hour StillTaken z k s version body e p in
      let f = and_true (hour_version version) (leb s.last_version version) a.follows in
      (f.0, leb-true s.last_version version f.1, sym (ap (λ x. x.after.last_version) a.gives))

  entries_never_fall : (k : ℕ) (s : Carried) (is : List Item) (es : List (Entry year_interface)) → entries_of year_interface z k s is ≡ ok es → NeverFall s.last_version (versions_of is)
  unfolding NeverFall
  entries_never_fall k s [] es h = tt
  entries_never_fall k s (i ∷ is) es h =
      let c = entries_cons year_interface z k s i is es h in
      let v = step_version k s i c.e c.stepped in
      let b = hour_version_bounds (version_of i) v.0 in
      (b.0, b.1, v.1, subst (λ x. NeverFall x (versions_of is)) v.2 (entries_never_fall (k + 1) c.e.after is c.others c.rest))

  entries_last : (k : ℕ) (s : Carried) (is : List Item) (es : List (Entry year_interface)) → entries_of year_interface z k s is ≡ ok es
      → (last_state s es).last_version ≡ last_version_of s.last_version (versions_of is)
  unfolding entries_of last_version_of
  entries_last k s [] es h = ap (λ x. (last_state s x).last_version) (sym (ok_inj h))
  entries_last k s (i ∷ is) es h =
      let c = entries_cons year_interface z k s i is es h in
      let v = step_version k s i c.e c.stepped in
      sym (ap (λ x. (last_state s x).last_version) c.joined)
      ∙ entries_last (k + 1) c.e.after is c.others c.rest
      ∙ ap (λ x. last_version_of x (versions_of is)) v.2

  first_version_lem : (s : Carried) → start_up z ≡ ok s → s.last_version ≡ no_entry_version
  first_version_lem s e =
      let t = bind_ok (init_node_temps standard_coefficients z) _ s e in
      sym (ap (λ x. x.last_version) (ok_inj t.2))

-- ---- of a well-formed book

module _ (head : List ℕ) (is : List Item) (S : WellFormed year_interface head is) where
  last_held : (last_state S.contents.start S.contents.entries).last_version ≡ last_version_of no_entry_version (versions_of is)
  last_held =
      let c = S.contents in
      entries_last c.zone 0 c.start is c.entries S.entries_are ∙ ap (λ x. last_version_of x (versions_of is)) (first_version_lem c.zone c.start S.start_is)

  in_order : InOrder head is
  in_order =
      let c = S.contents in
      record {
        never_fall = subst (λ x. NeverFall x (versions_of is)) (first_version_lem c.zone c.start S.start_is) (entries_never_fall c.zone 0 c.start is c.entries S.entries_are);
        last_version_lem = λ v f. ap (λ x. x.values.state.last_version) (some_inj (sym f ∙ snapshot_is year_interface head is S)) ∙ last_held;
      }

-- ---- versions that may not follow

not_follow : (last version : ℕ) → MayNotFollow last version → may_follow last version ≡ false
not_follow last version (inl n) = rw (hour_version_not version n.0 n.1 n.2) refl
not_follow last version (inr l) = below (hour_version version) refl
  where
    below : (t : Bool) → hour_version version ≡ t → may_follow last version ≡ false
    below true e = rw (e, lt-leb last version l) refl
    below false e = rw e refl

may_not : (last version : ℕ) → may_follow last version ≡ false → MayNotFollow last version
may_not last zero e = inl ((λ p. absurd (omega (arith, p))), (λ p. absurd (omega (arith, p))), (λ p. absurd (omega (arith, p))))
may_not last (suc zero) e = inr (leb-false last 1 e)
may_not last (suc (suc zero)) e = inr (leb-false last 2 e)
may_not last (suc (suc (suc zero))) e = inr (leb-false last 3 e)
may_not last (suc (suc (suc (suc n)))) e = inl ((λ p. absurd (omega (arith, p))), (λ p. absurd (omega (arith, p))), (λ p. absurd (omega (arith, p))))

-- ---- 18 at an append

-- an hour of a version that hours have is not refused with it
known_apart : (number index : ℕ) → KnownHourRefusal number index → number ≡ false_entry → ⊥
known_apart number index (hour_demand p) e = omega (arith, demand_below number index p, e)
known_apart number index hour_limit_value e = omega (arith, e)

module _ (z : Zone) (given : BookState Carried) (version : ℕ) (body buf : List ℕ) where
  -- where a refusal is 18
  abbrev Only18 : (number index : ℕ) → Type 0
  Only18 number index = number ≡ false_entry → (zone_test z ≡ ok tt) × (given.count < most_entries) × MayNotFollow given.state.last_version version × (index ≡ given.count)

  below : (number index : ℕ) → number < false_entry → Only18 number index
  below number index l e = absurd (omega (arith, l, e))

  only_18 : RefusesOnly Only18 (append_res year_interface z given (hour version body) buf)
  only_18 =
      append_refuses_by year_interface z given (hour version body) buf
      (refuses_also (λ n i p. below n i (omega (arith, zone_below n i p))) (zone_refusals z))
      (λ tested few. hour_refuses_by Retired z given.count given.state (hour version body)
      (λ f _. (tested, few, may_not given.state.last_version version f, refl))
      (λ n i p e. absurd (known_apart n i p e)))
      (below buffer_short 0 (omega arith)) (below book_full 0 (omega arith))

  append_18 : (index : ℕ) → (zone_test z ≡ ok tt) × (given.count < most_entries) × MayNotFollow given.state.last_version version × (index ≡ given.count)
      → append_res year_interface z given (hour version body) buf ≡ refused false_entry index
  unfolding append_res
  append_18 index p =
      let f = not_follow given.state.last_version version p.2 in
      rw (p.0, lt-ltb given.count most_entries p.1, step_not_next Retired z given.state version f body given.count, p.3) refl

-- ---- 18 at a take-up

take_up_18 : (head : List ℕ) (is : List Item) (S : WellFormed year_interface head is) → length is < most_entries
    → (entry rest : List ℕ) → (version_in entry ≡ 1) ⊎ (version_in entry ≡ 2) → version_in entry < last_version_of no_entry_version (versions_of is)
    → length entry ≡ whole_length S.contents.zone (version_in entry)
    → take_up_res year_interface (used_bytes year_interface head S.contents ++ (entry ++ rest)) ≡ refused false_entry (length is)
unfolding item_in
take_up_18 head is S few entry rest known below long =
    let z = S.contents.zone in
    let v = version_in entry in
    let s = last_state S.contents.start S.contents.entries in
    let f : may_follow s.last_version v ≡ false = ap (λ (x : ℕ). may_follow x v) (last_held head is S) ∙ not_follow (last_version_of no_entry_version (versions_of is)) v (inr below) in
    let same : version_in (entry ++ rest) ≡ v = get_or-append entry rest 0 version_at (omega (arith, long)) in
    let l = length-append entry rest in
    refused_behind year_interface year_laws head is S few entry rest
    (rest_whole z (entry ++ rest) (omega (arith, l, long)) (rw same (one_or_two v known).0) (rw same (omega (arith, l, long))) ∙ rw same (ap some (sym long)))
    false_entry (length is) (step_not_next StillTaken z s v f (body_in z v entry) (length is))

pub version_claims : VersionClaims
version_claims =
    record {
      calls_in_order = λ cs head is e. in_order head is (well_formed_after year_interface year_laws cs head is e);
      formed_in_order = in_order;
      append_refused = λ z given version body buf index.
          (λ e. refusal_by (only_18 z given version body buf) e refl, append_18 z given version body buf index);
      take_up_refused = take_up_18;
    }
