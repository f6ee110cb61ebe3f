-- The index of a refused head is that of an element that its count byte counts, or 0.
use Rattle.std.proofs.Common.{ℕ, zero, suc, ◌+◌, ◌≤◌, ◌≡◌, refl, ◌&&◌, List, [], ◌∷◌, arith, leb-true, leb, eqb, length, take, length-take}
use Rattle.solver.specs.Refusals.{RefusesOnly, accepts}
use Rattle.solver.proofs.Promise.{bind_refuses, test_refuses, and_true}
use Rattle.zone.specs.declared.record.building_element.Element.{Element}
use Rattle.zone.specs.Format.ElementLayout.{kind_valid_at, size_at}
use Rattle.zone.specs.Format.Decode.{zone_at}
use Rattle.zone.specs.Format.Layout.{length_field, version_in, basis_in, count_in, first_element, element_floats}
use Rattle.zone.specs.Format.Head.{elements_end, structure_of, head_of}
use Rattle.zone.specs.Check.ZoneTest.{count_valid, element_in_range, all_required, front_in_range, values_test}
use Rattle.zone.specs.Claims.Head.{OfHead, no_element, element}
use Rattle.zone.proofs.Laws.Ranges.{count_few}
use Rattle.zone.proofs.Laws.Structure.{length_valid, structured}
use Rattle.zone.specs.Record.Numbers as Number

module _ (bs : List ℕ) where
  counted : (zone_at bs).count ≡ count_in bs
  unfolding zone_at
  counted = refl

  module _ (basis : basis_in bs ≤ 1) (few : count_in bs ≤ 24) where
    -- elements, of which the first has index i + 1
    end_of_head : (end left i p : ℕ) → left + i ≤ count_in bs → RefusesOnly (OfHead bs) (elements_end bs end left i p)
    unfolding elements_end
    end_of_head end zero i p h = accepts p
    end_of_head end (suc left) i p h =
        test_refuses (leb (p + element_floats) end) 2 0 _ no_element λ _.
        test_refuses (kind_valid_at bs p) 4 (i + 1) _ (element (omega arith) basis few (omega arith) (omega arith)) λ _.
        test_refuses (leb (p + size_at bs p) end) 2 0 _ no_element λ _.
        end_of_head end left (i + 1) (p + size_at bs p) (omega arith)

    -- their values, of which the first has index i
    repeat_of_head : (es : List Element) (i : ℕ) → 1 ≤ i → length es + i ≤ count_in bs + 1 → RefusesOnly (OfHead bs) (all_required element_in_range Number.zone_value es i)
    unfolding all_required
    repeat_of_head [] i l h = accepts tt
    repeat_of_head (e ∷ es) i l h =
        test_refuses (element_in_range e) 5 i _ (element (omega arith) basis few l (omega arith)) λ _.
        repeat_of_head es (i + 1) (omega arith) (omega arith)

    values_of_head : RefusesOnly (OfHead bs) (values_test (zone_at bs))
    unfolding values_test
    values_of_head =
        test_refuses (front_in_range (zone_at bs)) Number.zone_value 0 _ no_element λ _.
        repeat_of_head (take (zone_at bs).count (zone_at bs).building_elements) 1 (omega arith) (simp length-take (omega (arith, counted)))

  structure_of_head : RefusesOnly (OfHead bs) (structure_of bs)
  unfolding structure_of
  structure_of_head =
      test_refuses (leb 4 (length bs)) 1 0 _ no_element λ _.
      test_refuses (length_valid (length_field bs)) 2 0 _ no_element λ _.
      test_refuses (leb (4 + length_field bs) (length bs)) 1 0 _ no_element λ _.
      test_refuses (eqb (version_in bs) 1) 3 0 _ no_element λ _.
      test_refuses (leb (basis_in bs) 1 && count_valid (count_in bs)) Number.structure 0 _ no_element λ e.
      let both = and_true (leb (basis_in bs) 1) (count_valid (count_in bs)) e in
      let few = count_few (leb 1 (count_in bs)) (count_in bs) both.1 in
      bind_refuses _ (end_of_head (leb-true (basis_in bs) 1 both.0) few (4 + length_field bs) (count_in bs) 0 first_element (omega arith)) λ p _.
      test_refuses (eqb p (4 + length_field bs)) 2 0 _ no_element λ _.
      accepts (4 + length_field bs)

pub head_indices : (bs : List ℕ) → RefusesOnly (OfHead bs) (head_of bs)
unfolding head_of
head_indices bs =
    bind_refuses _ (structure_of_head bs) λ n e.
    let q = structured bs n e in
    bind_refuses _ (values_of_head bs q.basis q.few) λ _ _.
    accepts (record { zone = zone_at bs; length = n })
