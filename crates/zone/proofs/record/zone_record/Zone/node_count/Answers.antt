use Rattle.std.proofs.Common.{◌≡◌, ℕ, ◌+◌, List, length, take, arith, rules, ap, sym, ◌∙◌}
use Rattle.std.proofs.lemmas.List.{length-take}
use Rattle.zone.specs.Record.BuildingElement.{node_count, nodes_of}
use Rattle.zone.specs.declared.record.building_element.Element.{Element}
use Rattle.zone.proofs.Laws.Element.{nodes_few, nodes_next, nodes_end}
use Rattle.zone.proofs.Laws.Counts.{min_24}
use Rattle.zone.proofs.Laws.Lists.{take_at_most}
use Rattle.zone.proofs.record.zone_record.Zone.node_count.Goals as goal

pub overflow_add-total : goal.overflow_add-total
overflow_add-total c = let few = nodes_few _ _ c.number_of_nodes-total.ensures in
    omega (arith, few, c.loop-e.invariant.few, simp length-take at c.loop-e-test.true)

pub loop-e-preserved : goal.loop-e-preserved
loop-e-preserved c = let few = nodes_few _ _ c.number_of_nodes-total.ensures in
    record { few = omega (arith, few, c.loop-e.invariant.few); left = nodes_next _ _ _ _ c.loop-e.invariant.left _ _ c.loop-e-test.true c.number_of_nodes-total.ensures }

pub returns : goal.returns
unfolding node_count
returns c = let z = c.args.self.now in
    let whole : length z.building_elements ≡ 24 = search rules in
    nodes_end _ _ _ _ c.loop-e.invariant.left c.loop-e-test.false
    ∙ ap (λ (n : ℕ). nodes_of (take n z.building_elements) + 1) (c.element_count.ensures.0 ∙ sym (min_24 z.count))
    ∙ ap (λ (l : List Element). nodes_of l + 1) (take_at_most z.count 24 z.building_elements whole)
