-- Which numbers and indices heads, zones given as records and conditions are refused with.
-- Specification, Order in a head.
use Rattle.std.proofs.Common.{ℕ, zero, suc, ◌+◌, ◌≤◌, ◌<◌, ◌≡◌, refl, ◌&&◌, List, map, arith, leb-true, leb, eqb, length, take, length-take}
use Rattle.solver.specs.Result.{ok}
use Rattle.solver.specs.Refusals.{RefusesOnly, accepts}
use Rattle.solver.proofs.Promise.{bind_refuses, test_refuses, and_true}
use Rattle.zone.specs.declared.record.building_element.Element.{Element}
use Rattle.zone.specs.declared.record.zone_record.Zone.{Zone}
use Rattle.zone.specs.Record.Numbers as Number
use Rattle.zone.specs.declared.format.conditions.Conditions.{Conditions}
use Rattle.zone.specs.declared.format.conditions.FixedRate.{FixedRate}
use Rattle.zone.specs.Format.ElementLayout.{kind_valid_at, size_at}
use Rattle.zone.specs.Format.Decode.{zone_at}
use Rattle.zone.specs.Check.ZoneTest.{count_valid, element_treatments_valid, element_hour_in_range, element_in_range, front_in_range, values_test, counts_test, zone_test}
use Rattle.zone.specs.Format.Layout.{length_size, shortest_length, longest_length, length_field, version_in, basis_in, count_in, first_element, conditions_length, element_floats, first_element_hour}
use Rattle.zone.specs.Format.Head.{elements_end, structure_of, head_of}
use Rattle.zone.specs.Format.Conditions.{conditions_at, rate_code_valid, open_bits_valid, hour_and_gains_in_range, setpoints_in_range, ach_args_in_range, conditions_test, conditions_of}
use Rattle.zone.specs.Claims.HeadRefusals.{
  HeadRefusal,
  head_short,
  head_length,
  head_version,
  head_structure,
  head_value,
  ZoneRefusal,
  zone_structure,
  zone_value,
  ConditionsRefusal,
  conditions_size,
  conditions_code,
  conditions_value,
}
use Rattle.zone.proofs.Laws.Ranges.{count_few, counts_few}
use Rattle.zone.proofs.Laws.Structure.{length_valid, structured}
use Rattle.zone.proofs.Laws.Required.{required_refuses}

-- ---- their numbers

pub zone_below : (number index : ℕ) → ZoneRefusal number index → number < 6
zone_below number index (zone_structure i h) = omega arith
zone_below number index (zone_value i h) = omega arith

pub conditions_below : (number index : ℕ) → ConditionsRefusal number index → number < 10
conditions_below number index conditions_size = omega arith
conditions_below number index conditions_code = omega arith
conditions_below number index (conditions_value i h) = omega arith

-- ---- which they are

take_few : {A : Type 0} (n : ℕ) (l : List A) → n ≤ 24 → length (take n l) + 1 ≤ 25
take_few n l h = simp length-take (omega arith)

-- ---- heads

-- length outside 176 to 4,157
pub shortest_length_lem : shortest_length ≡ 176
shortest_length_lem = refl

pub longest_length_lem : longest_length ≡ 4157
longest_length_lem = refl

-- elements, of which the first has index i + 1
end_refuses : (bs : List ℕ) (end left i p : ℕ) → left + i ≤ 24 → RefusesOnly HeadRefusal (elements_end bs end left i p)
unfolding elements_end
end_refuses bs end zero i p h = accepts p
end_refuses bs end (suc left) i p h =
    test_refuses (leb (p + element_floats) end) Number.head_length 0 _ head_length λ _.
    test_refuses (kind_valid_at bs p) Number.structure (i + 1) _ (head_structure (i + 1) (omega arith)) λ _.
    test_refuses (leb (p + size_at bs p) end) Number.head_length 0 _ head_length λ _.
    end_refuses bs end left (i + 1) (p + size_at bs p) (omega arith)

structure_refuses : (bs : List ℕ) → RefusesOnly HeadRefusal (structure_of bs)
unfolding structure_of
structure_refuses bs =
    test_refuses (leb length_size (length bs)) Number.head_short 0 _ head_short λ _.
    test_refuses (length_valid (length_field bs)) Number.head_length 0 _ head_length λ _.
    test_refuses (leb (length_size + length_field bs) (length bs)) Number.head_short 0 _ head_short λ _.
    test_refuses (eqb (version_in bs) 1) Number.head_version 0 _ head_version λ _.
    test_refuses (leb (basis_in bs) 1 && count_valid (count_in bs)) Number.structure 0 _ (head_structure 0 (omega arith)) λ e.
    let l = count_few (leb 1 (count_in bs)) (count_in bs) (and_true (leb (basis_in bs) 1) (count_valid (count_in bs)) e).1 in
    bind_refuses _ (end_refuses bs (length_size + length_field bs) (count_in bs) 0 first_element (omega (arith, l))) λ p _.
    test_refuses (eqb p (length_size + length_field bs)) Number.head_length 0 _ head_length λ _.
    accepts (length_size + length_field bs)

-- values of a head or of a zone: 5
module _ {P : ℕ → ℕ → Type 0} (value : (i : ℕ) → i ≤ 24 → P Number.zone_value i) where
  values_refuses : (z : Zone) → z.count ≤ 24 → RefusesOnly P (values_test z)
  unfolding values_test
  values_refuses z h =
      test_refuses (front_in_range z) Number.zone_value 0 _ (value 0 (omega arith)) λ _.
      required_refuses element_in_range Number.zone_value value (take z.count z.building_elements) 1 (take_few z.count z.building_elements h)

head_few : (bs : List ℕ) (n : ℕ) → structure_of bs ≡ ok n → (zone_at bs).count ≤ 24
unfolding zone_at
head_few bs n e = (structured bs n e).few

pub head_refusals : (bs : List ℕ) → RefusesOnly HeadRefusal (head_of bs)
unfolding head_of
head_refusals bs =
    bind_refuses _ (structure_refuses bs) λ n e.
    bind_refuses _ (values_refuses head_value (zone_at bs) (head_few bs n e)) λ _ _.
    accepts (record { zone = zone_at bs; length = n })

-- ---- a zone given as a record

counts_refuses : (z : Zone) → RefusesOnly ZoneRefusal (counts_test z)
unfolding counts_test
counts_refuses z =
    test_refuses (count_valid z.count) Number.structure 0 _ (zone_structure 0 (omega arith)) λ e.
    required_refuses element_treatments_valid Number.structure zone_structure (take z.count z.building_elements) 1
    (take_few z.count z.building_elements (count_few (leb 1 z.count) z.count e))

pub zone_refusals : (z : Zone) → RefusesOnly ZoneRefusal (zone_test z)
unfolding zone_test
zone_refusals z =
    bind_refuses _ (counts_refuses z) λ u e.
    values_refuses zone_value z (counts_few z e)

-- ---- conditions

conditions_test_refuses : (n : ℕ) (c : Conditions) → n ≤ 24 → RefusesOnly ConditionsRefusal (conditions_test n c)
unfolding conditions_test
conditions_test_refuses n c h =
    test_refuses (hour_and_gains_in_range c && setpoints_in_range c && ach_args_in_range c.ach_args) Number.conditions_value 0 _ (conditions_value 0 (omega arith)) λ _.
    required_refuses element_hour_in_range Number.conditions_value conditions_value (take n c.elements) 1 (take_few n c.elements h)

pub conditions_refusals : (fixed : FixedRate) (z : Zone) (bs : List ℕ) → RefusesOnly ConditionsRefusal (conditions_of fixed z bs)
unfolding conditions_of
conditions_refusals fixed z bs =
    let n = z.count in
    test_refuses (leb n 24 && eqb (length bs) (conditions_length n)) Number.conditions_size 0 _ conditions_size λ e.
    test_refuses (rate_code_valid fixed bs && open_bits_valid bs (take n (map (λ (e : Element). e.treatments) z.building_elements)) first_element_hour) Number.conditions_code 0 _ conditions_code λ _.
    bind_refuses _ (conditions_test_refuses n (conditions_at bs n) (leb-true n 24 (and_true (leb n 24) (eqb (length bs) (conditions_length n)) e).0)) λ _ _.
    accepts (conditions_at bs n)
