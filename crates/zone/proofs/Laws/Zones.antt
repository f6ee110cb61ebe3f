-- What a zone's arrays hold, against the zone: areas, and the number of its nodes.
use Rattle.std.proofs.Common.{◌≡◌, refl, sym, ap, ◌∙◌, Bool, false, cond, List, [], ◌∷◌, ℕ, zero, suc, ◌+◌, ◌≤◌, ◌<◌, arith, length, get_or, take, replicate, Float, le-ltb}
use Rattle.solver.specs.F64.{zero64}
use Rattle.solver.specs.Sums.{sum2}
use Rattle.solver.specs.FastSolver.{at_most24}
use Rattle.zone.specs.declared.record.building_element.Element.{Element}
use Rattle.zone.specs.declared.record.zone_record.Zone.{Zone}
use Rattle.zone.specs.Record.BuildingElement.{number_of_nodes, nodes_of, node_count}
use Rattle.zone.specs.Physics.Slots.{element}
use Rattle.zone.specs.Physics.System.{area_of, area_el_total, two_nodes_of, zone_two_nodes}
use Rattle.zone.specs.Physics.TempOperative.{temp_operative}
use Rattle.zone.specs.Inner.Assembly.{at}
use Rattle.zone.specs.Inner.Operative.{radiant_at, temp_operative_of, areas_of}
use Rattle.zone.specs.Physics.NodeLayout.{nodes_at, first_node}
use Rattle.zone.proofs.Laws.Elements.{element_is}
use Rattle.zone.proofs.Laws.Terms.{terms_at, total_stored}
use Rattle.zone.proofs.Laws.Agree.{Agree, stored, sum2_same}
use Rattle.zone.proofs.Laws.Nodes.{at_most_24_le, nodes_are}

module _ (z : Zone) where
  areas_agree : Agree (at_most24 z.count) (at (areas_of z)) (area_of z.building_elements)
  unfolding areas_of
  areas_agree = stored (at_most24 z.count) (area_of z.building_elements) (areas_of z) (replicate 24 zero64) refl (at_most_24_le z.count)

  pub areas_total : sum2 (take (at_most24 z.count) (areas_of z)) ≡ area_el_total (at_most24 z.count) z.building_elements
  unfolding area_el_total areas_of
  areas_total =
      let n = at_most24 z.count in
      total_stored n (area_of z.building_elements) (areas_of z) (replicate 24 zero64) _ refl (at_most_24_le z.count) refl
      ∙ sum2_same n (at (areas_of z)) (area_of z.building_elements) areas_agree

  -- from `areas_of` and the total that `assemble` gives
  pub operative_is : (t : List Float)
      → temp_operative_of (at_most24 z.count) (at (areas_of z)) (area_el_total (at_most24 z.count) z.building_elements) t ≡ temp_operative z t
  unfolding temp_operative temp_operative_of
  operative_is t =
      let n = at_most24 z.count in
      rw (sum2_same n (radiant_at (at (areas_of z)) t) (radiant_at (area_of z.building_elements) t) (λ e h. rw (areas_agree e h) refl)) refl

  -- from areas and a total that are worked out for it
  pub operative_from : (area : List Float) (n : ℕ) (total : Float) (t : List Float) →
      area ≡ areas_of z →
      n ≡ at_most24 z.count →
      total ≡ sum2 (take n area) →
      temp_operative_of (at_most24 z.count) (at area) total t ≡ temp_operative z t
  operative_from area n total t ha hn ht =
      let total_is : total ≡ area_el_total (at_most24 z.count) z.building_elements =
      ht
      ∙ ap (λ (a : List Float). sum2 (take n a)) ha
      ∙ ap (λ (m : ℕ). sum2 (take m (areas_of z))) hn
      ∙ areas_total in
      ap (λ (a : List Float). temp_operative_of (at_most24 z.count) (at a) total t) ha
      ∙ ap (λ (x : Float). temp_operative_of (at_most24 z.count) (at (areas_of z)) x t) total_is
      ∙ operative_is t

module _ (z : Zone) where
  pub two_nodes_at : (e : ℕ) → e < at_most24 z.count → get_or (zone_two_nodes z) e false ≡ two_nodes_of z.building_elements e
  unfolding zone_two_nodes
  two_nodes_at e h = terms_at (two_nodes_of z.building_elements) false (at_most24 z.count) (replicate 24 false) e h (at_most_24_le z.count)

  nodes_at_is : (e : ℕ) → e < at_most24 z.count → nodes_at (zone_two_nodes z) e ≡ number_of_nodes (element z.building_elements e).kind
  unfolding number_of_nodes
  nodes_at_is e h = nodes_are (zone_two_nodes z) e ∙ ap (λ (b : Bool). cond {A = ℕ} b 2 5) (two_nodes_at e h)

  -- the number that the code works out
  pub number_is : (e k : ℕ) (d : Element) → e < at_most24 z.count → e < length z.building_elements
      → k ≡ number_of_nodes (get_or z.building_elements e d).kind → k ≡ nodes_at (zone_two_nodes z) e
  number_is e k d h l told = told ∙ ap (λ (x : Element). number_of_nodes x.kind) (element_is z.building_elements e d l) ∙ sym (nodes_at_is e h)

-- one element more
nodes_next : (es : List Element) (i : ℕ) → i < length es → nodes_of (take (suc i) es) ≡ nodes_of (take i es) + number_of_nodes (element es i).kind
unfolding nodes_of
nodes_next [] i h = absurd (omega arith)
nodes_next (e ∷ es) zero h = omega arith
nodes_next (e ∷ es) (suc i) h = let k = nodes_next es i (omega arith) in omega (arith, k)

module _ (z : Zone) where
  -- no more nodes than the flags count
  nodes_le : (es : List Element) (i n : ℕ) → n ≡ number_of_nodes (element es i).kind → nodes_of (take (suc i) es) ≤ nodes_of (take i es) + n
  unfolding nodes_of
  nodes_le [] i n h = omega arith
  nodes_le (e ∷ es) zero n h = omega arith
  nodes_le (e ∷ es) (suc i) n h = let k = nodes_le es i n h in omega (arith, k)

  first_le_count : (e : ℕ) → e ≤ at_most24 z.count → nodes_of (take e z.building_elements) ≤ first_node (zone_two_nodes z) e
  unfolding first_node nodes_of
  first_le_count zero h = omega arith
  first_le_count (suc e) h =
      let k = nodes_at_is z e (omega arith) in
      let before = first_le_count e (omega arith) in
      let next = nodes_le z.building_elements e (nodes_at (zone_two_nodes z) e) k in
      omega (arith, before, next)

  pub node_count_le : z.count ≤ 24 → node_count z ≤ first_node (zone_two_nodes z) (at_most24 z.count) + 1
  unfolding node_count
  node_count_le h =
      let e : at_most24 z.count ≡ z.count = rw (le-ltb 24 z.count h) refl in
      let k = first_le_count (at_most24 z.count) (omega arith) in
      let same : nodes_of (take z.count z.building_elements) ≡ nodes_of (take (at_most24 z.count) z.building_elements) = rw e refl in
      omega (arith, k, same)

module _ (z : Zone) (whole : at_most24 z.count ≤ length z.building_elements) where
  first_is : (e : ℕ) → e ≤ at_most24 z.count → first_node (zone_two_nodes z) e ≡ nodes_of (take e z.building_elements)
  unfolding first_node nodes_of
  first_is zero h = refl
  first_is (suc e) h =
      let small = at_most_24_le z.count in
      let k = nodes_at_is z e (omega arith) in
      let before = first_is e (omega arith) in
      let next = nodes_next z.building_elements e (omega arith) in
      omega (arith, k, before, next)

  -- the air is the last of the zone's nodes
  pub node_count_is : z.count ≤ 24 → first_node (zone_two_nodes z) (at_most24 z.count) + 1 ≡ node_count z
  unfolding node_count
  node_count_is h =
      let e : at_most24 z.count ≡ z.count = rw (le-ltb 24 z.count h) refl in
      let all : at_most24 z.count ≤ at_most24 z.count = omega arith in
      ap (λ (n : ℕ). n + 1) (first_is (at_most24 z.count) all ∙ ap (λ (n : ℕ). nodes_of (take n z.building_elements)) e)
