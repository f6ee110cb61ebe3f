-- The operative temperature of node temperatures as the code finds it, without slots.
use Rattle.std.proofs.Common.{ℕ, ◌+◌, ◌-◌, ◌*◌, ◌<◌, ◌≡◌, sym, ap, ◌∙◌, Bool, List, arith, get_or, take, replicate, Float}
use lib.Ieee.{nan}
use Rattle.solver.specs.F64.{◌*ᶠ◌, ◌/ᶠ◌, zero64}
use Rattle.solver.specs.Sums.{sum2, terms}
use Rattle.solver.specs.Chain.{outer_slot}
use Rattle.solver.specs.FastSolver.{at_most24}
use Rattle.zone.specs.declared.record.zone_record.Zone.{Zone}
use Rattle.zone.specs.Calls.State.{operative_of}
use Rattle.zone.specs.Physics.System.{area_of, zone_two_nodes}
use Rattle.zone.specs.Physics.NodeLayout.{nodes_at, first_node, to_slots}
use Rattle.zone.specs.Physics.TempOperative.{mean_of}
use Rattle.zone.specs.Inner.Assembly.{at}
use Rattle.zone.specs.Inner.Operative.{radiant_at, radiant_of_nodes, temp_operative_of, areas_of}
use Rattle.zone.proofs.Laws.Nodes.{at_most_24_le, first_next, slot_le, to_slots_at_lem, to_slots_air}
use Rattle.zone.proofs.Laws.Agree.{Agree, stored, sum2_same}
use Rattle.zone.proofs.Laws.Zones.{operative_from}

-- the inner surface of element e, the last of its nodes, in slots
inner_at : (two : List Bool) (count : ℕ) (temps : List Float) (e : ℕ) → e < at_most24 count
    → get_or temps (first_node two (e + 1) - 1) nan ≡ get_or (to_slots count two temps) (5 * e + 4) nan
inner_at two count temps e h =
    let l = slot_le two e in
    let n = nodes_at two e in
    let node : first_node two (e + 1) - 1 ≡ first_node two e + (n - 1) = omega (arith, first_next two e, l) in
    let slot : outer_slot two e + (n - 1) ≡ 5 * e + 4 = omega (arith, l) in
    ap (λ (i : ℕ). get_or temps i nan) node
    ∙ sym (to_slots_at_lem two count temps e (n - 1) h (omega (arith, l)))
    ∙ ap (λ (i : ℕ). get_or (to_slots count two temps) i nan) slot

module _ (z : Zone) (temps area : List Float) (area_is : area ≡ areas_of z) (n : ℕ) (n_is : n ≡ at_most24 z.count)
    (total : Float) (total_is : total ≡ sum2 (take n area)) where
  abbrev m : ℕ
  m = at_most24 z.count

  abbrev two : List Bool
  two = zone_two_nodes z

  abbrev slots : List Float
  slots = to_slots z.count two temps

  area_at : Agree m (at area) (area_of z.building_elements)
  unfolding areas_of
  area_at = stored m (area_of z.building_elements) area (replicate 24 zero64) area_is (at_most_24_le z.count)

  radiant_is : sum2 (terms 0 m (radiant_of_nodes (area_of z.building_elements) two temps)) ≡ sum2 (terms 0 m (radiant_at (at area) slots))
  radiant_is =
      sum2_same m (radiant_of_nodes (area_of z.building_elements) two temps) (radiant_at (at area) slots)
      (λ e h. rw (area_at e h) (ap (λ (x : Float). area_of z.building_elements e *ᶠ x) (inner_at two z.count temps e h)))

  -- from the sum of the nodes and the node of the air
  pub operative_of_nodes : (sum : Float) → sum ≡ sum2 (terms 0 m (radiant_of_nodes (area_of z.building_elements) two temps)) → (node : ℕ) → node ≡ first_node two m
      → mean_of (get_or temps node nan) (sum /ᶠ total) ≡ operative_of z temps
  unfolding operative_of temp_operative_of
  operative_of_nodes sum sum_is_lem node node_is =
      (λ i. mean_of ((ap (λ (k : ℕ). get_or temps k nan) node_is ∙ sym (to_slots_air two z.count temps)) i) ((sum_is_lem ∙ radiant_is) i /ᶠ total))
      ∙ operative_from z area n total slots area_is n_is total_is
