use Rattle.std.proofs.Common.{◌≡◌, refl, get_or, arith}
use Rattle.zone.specs.declared.record.building_element.Element.{Element}
use Rattle.zone.specs.declared.record.building_element.ElementHour.{ElementHour}
use Rattle.zone.specs.Physics.Slots.{element, element_hour}
use Rattle.zone.proofs.Laws.Loops.{repeat_turn}
use Rattle.zone.proofs.Laws.Elements.{element_is, element_hour_is}
use Rattle.zone.proofs.physics.fabric.fabric_sums.Goals as goal

pub loop-e-preserved : goal.loop-e-preserved
loop-e-preserved c =
    let e = c.loop-e.e in
    let es = c.args.z.now.building_elements in
    let hours = c.args.hour.now.elements in
    let el : (d : Element) → get_or es e d ≡ element es e = λ (d : Element). element_is es e d (omega arith) in
    let hour : (d : ElementHour) → get_or hours e d ≡ element_hour hours e = λ (d : ElementHour). element_hour_is hours e d (omega arith) in
    repeat_turn _ _ _ _ _ _ c.loop-e-test.true (rw (c.add_element.ensures, c.outer_surface-t.ensures, c.is_two_nodes.ensures, el, hour) refl) c.loop-e.invariant
