use Rattle.std.proofs.Common.{◌≡◌, ◌∙◌, refl, ap, ℕ, ◌+◌, ◌<◌, length, take, get_or, arith, rules}
use Rattle.std.proofs.lemmas.List.{length-take, length-take-le, get_or-take}
use Rattle.solver.specs.Sums.{sum2, terms}
use Rattle.solver.specs.FastSolver.{at_most24}
use Rattle.zone.specs.declared.record.building_element.Element.{Element}
use Rattle.zone.specs.Physics.Slots.{element}
use Rattle.zone.specs.Record.BuildingElement.{number_of_nodes}
use Rattle.zone.specs.Physics.System.{area_of, zone_two_nodes}
use Rattle.zone.specs.Physics.NodeLayout.{first_node}
use Rattle.zone.specs.Inner.Operative.{radiant_of_nodes}
use Rattle.zone.proofs.Laws.Elements.{element_is}
use Rattle.zone.proofs.Laws.Loops.{sum2_turn, sum2_end}
use Rattle.zone.proofs.Laws.Nodes.{first_next, at_most_24_le}
use Rattle.zone.proofs.Laws.Element.{nodes_few}
use Rattle.zone.proofs.Laws.Zones.{number_is}
use Rattle.zone.proofs.physics.operative.radiant_sum_of_nodes.Goals as goal

pub loop-el-preserved : goal.loop-el-preserved
loop-el-preserved c =
    let l = c.loop-el in
    let z = c.args.z.now in
    let two = zone_two_nodes z in
    let t = c.loop-el-test.true in
    let i = l.el-index in
    let n = c.element_count.result in
    let counted : n ≡ at_most24 z.count = c.element_count.ensures.0 in
    let small = at_most_24_le z.count in
    let few : i < n = omega (arith, simp length-take at t) in
    let el : (d : Element) → get_or (take n z.building_elements) i d ≡ element z.building_elements i = λ (d : Element). get_or-take n z.building_elements i d few ∙ element_is z.building_elements i d (omega arith) in
    let number = number_is z i _ _ (rw (← counted) few) (omega arith) (c.number_of_nodes-node.ensures ∙ ap (λ (e : Element). number_of_nodes e.kind) (get_or-take n z.building_elements i _ few)) in
    let most = nodes_few _ _ c.number_of_nodes-node.ensures in
    let node_is : l.node + c.number_of_nodes-node.result ≡ first_node two (i + 1) = rw (first_next two i, ← number, ← l.invariant.node_is) refl in
    record {
      node_is = node_is;
      bound = omega (arith, most, l.invariant.bound);
      left = sum2_turn _ _ _ _ _ _ t (rw (← node_is) (rw el at c.add-total.ensures)) l.invariant.left;
    }

pub returns : goal.returns
returns c =
    let l = c.loop-el in
    let z = c.args.z.now in
    let two = zone_two_nodes z in
    let t = c.loop-el-test.false in
    let counted : c.element_count.result ≡ at_most24 z.count = c.element_count.ensures.0 in
    let small = at_most_24_le z.count in
    let whole : length z.building_elements ≡ 24 = search rules in
    let all : length (take c.element_count.result z.building_elements) ≡ at_most24 z.count = length-take-le _ _ (omega (arith, counted, whole, small)) ∙ counted in
    let done : l.el-index ≡ at_most24 z.count = omega (arith, all, l.auto.el-index-end) in (
      sum2_end _ _ _ _ _ _ _ t c.sum.ensures c.zero-total.ensures l.invariant.left
          ∙ ap (λ (n : ℕ). sum2 (terms 0 n (radiant_of_nodes (area_of z.building_elements) two c.args.temps.now))) all,
      l.invariant.node_is ∙ ap (first_node two) done,
      omega (arith, done, small, l.invariant.bound),
    )
