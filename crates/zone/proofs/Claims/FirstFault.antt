-- Which element is named in a refusal, and why a head, a zone, a state and an hour's conditions are refused: for no other reason, and whenever there is one.
use Rattle.std.proofs.Common.{ℕ, zero, suc, ◌+◌, ◌≡◌, refl, Bool, true, false, ◌&&◌, List, [], ◌∷◌, leb, eqb, length, take}
use Rattle.solver.specs.Result.{ok, refused, require_at}
use Rattle.solver.specs.Refusals.{RefusesOnly, accepts, refuses}
use Rattle.solver.proofs.Promise.{bind_refuses}
use Rattle.zone.specs.declared.record.zone_record.Zone.{Zone}
use Rattle.zone.specs.declared.format.conditions.FixedRate.{FixedRate}
use Rattle.zone.specs.declared.calls.state.State.{State}
use Rattle.zone.specs.Record.Numbers as Number
use Rattle.zone.specs.Record.BuildingElement.{node_count}
use Rattle.zone.specs.Format.Layout.{length_size, version_of_head, version_in, count_in, first_element, element_floats}
use Rattle.zone.specs.Format.ElementLayout.{kind_valid_at, size_at}
use Rattle.zone.specs.Format.Decode.{zone_at}
use Rattle.zone.specs.Format.Head.{elements_end, structure_of, head_of}
use Rattle.zone.specs.Check.ZoneTest.{all_required, count_valid, element_treatments_valid, element_hour_in_range, element_in_range, front_in_range, values_test, counts_test, zone_test}
use Rattle.zone.specs.Format.Conditions.{conditions_at, conditions_test, conditions_of}
use Rattle.zone.specs.Calls.State.{all_within_state_bound, state_test}
use Rattle.zone.specs.Claims.FirstFault.{
  First,
  here,
  behind,
  ZoneReason,
  by_count,
  by_treatments,
  by_front,
  by_element,
  ElementFault,
  past,
  kind,
  remainder,
  next,
  head_end,
  length_valid,
  front_valid,
  Front,
  HeadReason,
  by_four,
  by_length,
  by_end,
  by_version,
  by_basis_or_count,
  by_elements,
  by_left_over,
  by_head_front,
  by_head_element,
  StateReason,
  by_state,
  size_valid,
  codes_valid,
  hour_valid,
  ConditionsReason,
  by_size,
  by_codes,
  by_hour,
  by_part,
  FirstFaults,
}
use Rattle.zone.proofs.Laws.Refusals.{because}

required_first : {A : Type 0} {P : ℕ → ℕ → Type 0} (test : A → Bool) (number : ℕ) (l : List A) (k : ℕ) → ((j : ℕ) → First test l k j → P number j)
    → RefusesOnly P (all_required test number l k)
unfolding all_required
required_first test number [] k p = accepts tt
required_first test number (a ∷ as') k p =
    because (test a) number k _ (λ e. p k (here e)) λ e.
    required_first test number as' (k + 1) (λ j q. p j (behind e q))

counts_first : (z : Zone) → RefusesOnly (ZoneReason z) (counts_test z)
unfolding counts_test
counts_first z =
    because (count_valid z.count) Number.structure 0 _ by_count λ e.
    required_first element_treatments_valid Number.structure (take z.count z.building_elements) 1 (λ j q. by_treatments e q)

pub zones_first : (z : Zone) → RefusesOnly (ZoneReason z) (zone_test z)
unfolding zone_test values_test
zones_first z =
    bind_refuses _ (counts_first z) λ u e.
    because (front_in_range z) Number.zone_value 0 _ (by_front e) λ f.
    required_first element_in_range Number.zone_value (take z.count z.building_elements) 1 (λ j q. by_element e f q)

elements_first : {P : ℕ → ℕ → Type 0} (bs : List ℕ) (end left i p : ℕ) → ((number index : ℕ) → ElementFault bs end left i p number index → P number index)
    → RefusesOnly P (elements_end bs end left i p)
unfolding elements_end
elements_first bs end zero i p w = accepts p
elements_first bs end (suc left) i p w =
    because (leb (p + element_floats) end) Number.head_length 0 _ (λ e. w _ _ (past e)) λ e.
    because (kind_valid_at bs p) Number.structure (i + 1) _ (λ f. w _ _ (kind e f)) λ f.
    because (leb (p + size_at bs p) end) Number.head_length 0 _ (λ g. w _ _ (remainder e f g)) λ g.
    elements_first bs end left (i + 1) (p + size_at bs p) (λ number index q. w number index (next e f g q))

structures_first : (bs : List ℕ) → RefusesOnly (HeadReason bs) (structure_of bs)
unfolding structure_of
structures_first bs =
    because (leb length_size (length bs)) Number.head_short 0 _ by_four λ a.
    because (length_valid bs) Number.head_length 0 _ (by_length a) λ b.
    because (leb (head_end bs) (length bs)) Number.head_short 0 _ (by_end a b) λ c.
    because (eqb (version_in bs) version_of_head) Number.head_version 0 _ (by_version a b c) λ d.
    because (front_valid bs) Number.structure 0 _ (by_basis_or_count a b c d) λ e.
    bind_refuses _ (elements_first bs (head_end bs) (count_in bs) 0 first_element (λ number index q. by_elements (record { four = a; length_good = b; there = c; version = d; front = e }) q)) λ p f.
    because (eqb p (head_end bs)) Number.head_length 0 _ (by_left_over (record { four = a; length_good = b; there = c; version = d; front = e }) f) λ g.
    accepts (head_end bs)

heads_first : (bs : List ℕ) → RefusesOnly (HeadReason bs) (head_of bs)
unfolding head_of values_test
heads_first bs =
    bind_refuses _ (structures_first bs) λ n e.
    bind_refuses _ (
    because (front_in_range (zone_at bs)) Number.zone_value 0 _ (by_head_front e) λ f.
    required_first element_in_range Number.zone_value (take (zone_at bs).count (zone_at bs).building_elements) 1 (λ j q. by_head_element e f q)) λ _ _.
    accepts (record { zone = zone_at bs; length = n })

-- a test alone
tested_because : {P : ℕ → ℕ → Type 0} (test : Bool) (number index : ℕ) → (test ≡ false → P number index) → RefusesOnly P (require_at test number index)
tested_because true number index p = accepts tt
tested_because false number index p = refuses (p refl)

pub states_first : (z : Zone) (s : State) → RefusesOnly (StateReason z s) (state_test z s)
unfolding state_test
states_first z s = tested_because (eqb s.nodes (node_count z) && all_within_state_bound (take s.nodes s.temps)) Number.state_invalid 0 by_state

pub hours_first : (fixed : FixedRate) (z : Zone) (bs : List ℕ) → RefusesOnly (ConditionsReason fixed z bs) (conditions_of fixed z bs)
unfolding conditions_of conditions_test
hours_first fixed z bs =
    because (size_valid fixed z bs) Number.conditions_size 0 _ by_size λ e.
    because (codes_valid fixed z bs) Number.conditions_code 0 _ (by_codes e) λ f.
    bind_refuses _ (
    because (hour_valid fixed z bs) Number.conditions_value 0 _ (by_hour e f) λ g.
    required_first element_hour_in_range Number.conditions_value (take z.count (conditions_at bs z.count).elements) 1 (λ j q. by_part e f g q)) λ _ _.
    accepts (conditions_at bs z.count)

-- ---- whenever there is a reason

required_whenever : {A : Type 0} {test : A → Bool} (number : ℕ) {l : List A} {k j : ℕ} → First test l k j → all_required test number l k ≡ refused number j
unfolding all_required
required_whenever number (here e) = rw e refl
required_whenever number (behind e q) = rw e (required_whenever number q)

module _ (z : Zone) where
  count_refused : count_valid z.count ≡ false → counts_test z ≡ refused Number.structure 0
  unfolding counts_test
  count_refused e = rw e refl

  treatments_refused : (j : ℕ) → count_valid z.count ≡ true → First element_treatments_valid (take z.count z.building_elements) 1 j → counts_test z ≡ refused Number.structure j
  unfolding counts_test
  treatments_refused j e q = rw e (required_whenever Number.structure q)

  front_refused : front_in_range z ≡ false → values_test z ≡ refused Number.zone_value 0
  unfolding values_test
  front_refused e = rw e refl

  element_refused : (j : ℕ) → front_in_range z ≡ true → First element_in_range (take z.count z.building_elements) 1 j → values_test z ≡ refused Number.zone_value j
  unfolding values_test
  element_refused j e q = rw e (required_whenever Number.zone_value q)

  pub zones_whenever : (number index : ℕ) → ZoneReason z number index → zone_test z ≡ refused number index
  unfolding zone_test
  zones_whenever number index (by_count e) = rw (count_refused e) refl
  zones_whenever number index (by_treatments e q) = rw (treatments_refused index e q) refl
  zones_whenever number index (by_front e f) = rw (e, front_refused f) refl
  zones_whenever number index (by_element e f q) = rw (e, element_refused index f q) refl

module _ (bs : List ℕ) where
  elements_whenever : {end left i p number index : ℕ} → ElementFault bs end left i p number index → elements_end bs end left i p ≡ refused number index
  unfolding elements_end
  elements_whenever (past e) = rw e refl
  elements_whenever (kind e f) = rw (e, f) refl
  elements_whenever (remainder e f g) = rw (e, f, g) refl
  elements_whenever (next e f g q) = rw (e, f, g) (elements_whenever q)

  elements_refused : (number index : ℕ) → Front bs → ElementFault bs (head_end bs) (count_in bs) 0 first_element number index → structure_of bs ≡ refused number index
  unfolding structure_of
  elements_refused number index u q = rw (u.four, u.length_good, u.there, u.version, u.front, elements_whenever q) refl

  left_over_refused : (p : ℕ) → Front bs → elements_end bs (head_end bs) (count_in bs) 0 first_element ≡ ok p → eqb p (head_end bs) ≡ false
      → structure_of bs ≡ refused Number.head_length 0
  unfolding structure_of
  left_over_refused p u e f = rw (u.four, u.length_good, u.there, u.version, u.front, e, f) refl

  short_refused : leb length_size (length bs) ≡ false → structure_of bs ≡ refused Number.head_short 0
  unfolding structure_of
  short_refused a = rw a refl

  length_refused : leb length_size (length bs) ≡ true → length_valid bs ≡ false → structure_of bs ≡ refused Number.head_length 0
  unfolding structure_of
  length_refused a b = rw (a, b) refl

  end_refused : leb length_size (length bs) ≡ true → length_valid bs ≡ true → leb (head_end bs) (length bs) ≡ false → structure_of bs ≡ refused Number.head_short 0
  unfolding structure_of
  end_refused a b c = rw (a, b, c) refl

  version_refused : leb length_size (length bs) ≡ true → length_valid bs ≡ true → leb (head_end bs) (length bs) ≡ true → eqb (version_in bs) version_of_head ≡ false
      → structure_of bs ≡ refused Number.head_version 0
  unfolding structure_of
  version_refused a b c d = rw (a, b, c, d) refl

  front_bytes_refused : leb length_size (length bs) ≡ true → length_valid bs ≡ true → leb (head_end bs) (length bs) ≡ true → eqb (version_in bs) version_of_head ≡ true
      → front_valid bs ≡ false → structure_of bs ≡ refused Number.structure 0
  unfolding structure_of
  front_bytes_refused a b c d e = rw (a, b, c, d, e) refl

  heads_whenever : (number index : ℕ) → HeadReason bs number index → head_of bs ≡ refused number index
  unfolding head_of
  heads_whenever number index (by_four a) = rw (short_refused a) refl
  heads_whenever number index (by_length a b) = rw (length_refused a b) refl
  heads_whenever number index (by_end a b c) = rw (end_refused a b c) refl
  heads_whenever number index (by_version a b c d) = rw (version_refused a b c d) refl
  heads_whenever number index (by_basis_or_count a b c d e) = rw (front_bytes_refused a b c d e) refl
  heads_whenever number index (by_elements u q) = rw (elements_refused number index u q) refl
  heads_whenever number index (by_left_over {p = p} u e f) = rw (left_over_refused p u e f) refl
  heads_whenever number index (by_head_front e f) = rw (e, front_refused (zone_at bs) f) refl
  heads_whenever number index (by_head_element e f q) = rw (e, element_refused (zone_at bs) index f q) refl

pub states_whenever : (z : Zone) (s : State) (number index : ℕ) → StateReason z s number index → state_test z s ≡ refused number index
unfolding state_test
states_whenever z s number index (by_state e) = rw e refl

pub hours_whenever : (fixed : FixedRate) (z : Zone) (bs : List ℕ) (number index : ℕ) → ConditionsReason fixed z bs number index → conditions_of fixed z bs ≡ refused number index
unfolding conditions_of conditions_test
hours_whenever fixed z bs number index (by_size e) = rw e refl
hours_whenever fixed z bs number index (by_codes e f) = rw (e, f) refl
hours_whenever fixed z bs number index (by_hour e f g) = rw (e, f, g) refl
hours_whenever fixed z bs number index (by_part e f g q) = rw (e, f, g, required_whenever Number.conditions_value q) refl

pub first_faults : FirstFaults
first_faults =
    record {
      heads = λ bs. record { only = heads_first bs; whenever = heads_whenever bs };
      zones = λ z. record { only = zones_first z; whenever = zones_whenever z };
      states = λ z s. record { only = states_first z s; whenever = states_whenever z s };
      hours = λ fixed z bs. record { only = hours_first fixed z bs; whenever = hours_whenever fixed z bs };
    }
