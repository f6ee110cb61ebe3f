-- Why a head, a zone, a state and an hour's conditions are refused, 1 to 9, and which element is named: the first that does not pass, where all before it
-- pass (Specification, Order of tests). Each reason comes for no other, and whenever it holds.
use Rattle.std.specs.Prelude.{ℕ, suc, ◌+◌, ◌&&◌, ◌≡◌, Bool, true, false, List, ◌∷◌, map, take, length, leb, eqb}
use Rattle.solver.specs.Result.{ok}
use Rattle.zone.specs.declared.record.zone_record.Zone.{Zone}
use Rattle.zone.specs.declared.format.conditions.FixedRate.{FixedRate}
use Rattle.zone.specs.declared.calls.state.State.{State}
use Rattle.zone.specs.Record.Numbers.{head_short, head_length, head_version, structure, zone_value, state_invalid, conditions_size, conditions_code, conditions_value}
use Rattle.zone.specs.Record.BuildingElement.{node_count}
use Rattle.zone.specs.Format.Layout.{
  length_size,
  length_field,
  shortest_length,
  longest_length,
  version_of_head,
  version_in,
  basis_in,
  count_in,
  first_element,
  element_floats,
  conditions_length,
  first_element_hour,
}
use Rattle.zone.specs.Format.ElementLayout.{kind_valid_at, size_at}
use Rattle.zone.specs.Format.Decode.{zone_at}
use Rattle.zone.specs.Format.Head.{elements_end, structure_of, head_of}
use Rattle.zone.specs.Format.Conditions.{conditions_at, rate_code_valid, open_bits_valid, hour_and_gains_in_range, setpoints_in_range, ach_args_in_range, conditions_of}
use Rattle.zone.specs.Check.ZoneTest.{count_valid, element_treatments_valid, element_hour_in_range, element_in_range, front_in_range, counts_test, zone_test}
use Rattle.zone.specs.Calls.State.{all_within_state_bound, state_test}
use Rattle.zone.specs.Claims.RefusesWhere.{RefusesWhere}

-- of a list whose first has index k, the one with index j is the first that does not pass
pub data First {A : Type 0} (test : A → Bool) : List A → (k j : ℕ) → Type 0 where
  here : {a : A} {as' : List A} {k : ℕ} → test a ≡ false → First test (a ∷ as') k k
  behind : {a : A} {as' : List A} {k j : ℕ} → test a ≡ true → First test as' (k + 1) j → First test (a ∷ as') k j

pub data ZoneReason (z : Zone) : (number index : ℕ) → Type 0 where
  by_count : count_valid z.count ≡ false → ZoneReason z structure 0
  by_treatments : {j : ℕ} → count_valid z.count ≡ true → First element_treatments_valid (take z.count z.building_elements) 1 j → ZoneReason z structure j
  by_front : counts_test z ≡ ok tt → front_in_range z ≡ false → ZoneReason z zone_value 0
  by_element : {j : ℕ} → counts_test z ≡ ok tt → front_in_range z ≡ true → First element_in_range (take z.count z.building_elements) 1 j → ZoneReason z zone_value j

-- of a head's elements, of which so many are left from place p on, the first with index i + 1: the first fault
pub data ElementFault (bs : List ℕ) (end : ℕ) : (left i p number index : ℕ) → Type 0 where
  past : {left i p : ℕ} → leb (p + element_floats) end ≡ false → ElementFault bs end (suc left) i p head_length 0
  kind : {left i p : ℕ} → leb (p + element_floats) end ≡ true → kind_valid_at bs p ≡ false → ElementFault bs end (suc left) i p structure (i + 1)
  remainder : {left i p : ℕ} → leb (p + element_floats) end ≡ true → kind_valid_at bs p ≡ true → leb (p + size_at bs p) end ≡ false
      → ElementFault bs end (suc left) i p head_length 0
  next : {left i p number index : ℕ} → leb (p + element_floats) end ≡ true → kind_valid_at bs p ≡ true → leb (p + size_at bs p) end ≡ true
      → ElementFault bs end left (i + 1) (p + size_at bs p) number index → ElementFault bs end (suc left) i p number index

module _ (bs : List ℕ) where
  abbrev pub head_end : ℕ
  head_end = length_size + length_field bs

  abbrev pub length_valid : Bool
  length_valid = leb shortest_length (length_field bs) && leb (length_field bs) longest_length

  abbrev pub front_valid : Bool
  front_valid = leb (basis_in bs) 1 && count_valid (count_in bs)

  -- the head's own bytes are there, of its version, basis and count
  pub record Front : Type 0 where
    pub four : leb length_size (length bs) ≡ true
    pub length_good : length_valid ≡ true
    pub there : leb head_end (length bs) ≡ true
    pub version : eqb (version_in bs) version_of_head ≡ true
    pub front : front_valid ≡ true

  pub data HeadReason : (number index : ℕ) → Type 0 where
    by_four : leb length_size (length bs) ≡ false → HeadReason head_short 0
    by_length : leb length_size (length bs) ≡ true → length_valid ≡ false → HeadReason head_length 0
    by_end : leb length_size (length bs) ≡ true → length_valid ≡ true → leb head_end (length bs) ≡ false → HeadReason head_short 0
    by_version : leb length_size (length bs) ≡ true → length_valid ≡ true → leb head_end (length bs) ≡ true
        → eqb (version_in bs) version_of_head ≡ false → HeadReason head_version 0
    by_basis_or_count : leb length_size (length bs) ≡ true → length_valid ≡ true → leb head_end (length bs) ≡ true → eqb (version_in bs) version_of_head ≡ true
        → front_valid ≡ false → HeadReason structure 0
    by_elements : {number index : ℕ} → Front → ElementFault bs head_end (count_in bs) 0 first_element number index → HeadReason number index
    by_left_over : {p : ℕ} → Front → elements_end bs head_end (count_in bs) 0 first_element ≡ ok p → eqb p head_end ≡ false → HeadReason head_length 0
    by_head_front : {n : ℕ} → structure_of bs ≡ ok n → front_in_range (zone_at bs) ≡ false → HeadReason zone_value 0
    by_head_element : {n j : ℕ} → structure_of bs ≡ ok n → front_in_range (zone_at bs) ≡ true
        → First element_in_range (take (zone_at bs).count (zone_at bs).building_elements) 1 j → HeadReason zone_value j

pub data StateReason (z : Zone) (s : State) : (number index : ℕ) → Type 0 where
  by_state : (eqb s.nodes (node_count z) && all_within_state_bound (take s.nodes s.temps)) ≡ false → StateReason z s state_invalid 0

module _ (fixed : FixedRate) (z : Zone) (bs : List ℕ) where
  abbrev pub size_valid : Bool
  size_valid = leb z.count 24 && eqb (length bs) (conditions_length z.count)

  abbrev pub codes_valid : Bool
  codes_valid = rate_code_valid fixed bs && open_bits_valid bs (take z.count (map (λ e. e.treatments) z.building_elements)) first_element_hour

  abbrev pub hour_valid : Bool
  hour_valid =
      let c = conditions_at bs z.count in
      hour_and_gains_in_range c && setpoints_in_range c && ach_args_in_range c.ach_args

  pub data ConditionsReason : (number index : ℕ) → Type 0 where
    by_size : size_valid ≡ false → ConditionsReason conditions_size 0
    by_codes : size_valid ≡ true → codes_valid ≡ false → ConditionsReason conditions_code 0
    by_hour : size_valid ≡ true → codes_valid ≡ true → hour_valid ≡ false → ConditionsReason conditions_value 0
    by_part : {j : ℕ} → size_valid ≡ true → codes_valid ≡ true → hour_valid ≡ true
        → First element_hour_in_range (take z.count (conditions_at bs z.count).elements) 1 j → ConditionsReason conditions_value j

pub record FirstFaults : Type 0 where
  pub heads : (bs : List ℕ) → RefusesWhere (HeadReason bs) (head_of bs)
  pub zones : (z : Zone) → RefusesWhere (ZoneReason z) (zone_test z)
  pub states : (z : Zone) (s : State) → RefusesWhere (StateReason z s) (state_test z s)
  pub hours : (fixed : FixedRate) (z : Zone) (bs : List ℕ) → RefusesWhere (ConditionsReason fixed z bs) (conditions_of fixed z bs)
