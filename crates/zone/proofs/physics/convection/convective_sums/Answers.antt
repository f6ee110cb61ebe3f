use Rattle.std.proofs.Common.{◌≡◌, refl, ap, ◌∙◌, ℕ, get_or, arith}
use Rattle.solver.specs.Repeat.{repeat}
use Rattle.zone.specs.declared.record.building_element.Element.{Element}
use Rattle.zone.specs.Record.BuildingElement.{h_ci}
use Rattle.zone.specs.Physics.Slots.{element}
use Rattle.zone.specs.Inner.ConvectiveSums.{add_loss_at, no_convection}
use Rattle.zone.proofs.Laws.Loops.{repeat_turn, repeat_end}
use Rattle.zone.proofs.Laws.Elements.{element_is}
use Rattle.zone.proofs.physics.convection.convective_sums.Goals as goal

pub loop-e-preserved : goal.loop-e-preserved
unfolding h_ci
loop-e-preserved c =
    let e = c.loop-e.e in
    let es = c.args.z.now.building_elements in
    let el : (d : Element) → get_or es e d ≡ element es e = λ (d : Element). element_is es e d (omega arith) in
    repeat_turn _ _ _ _ _ _ c.loop-e-test.true (rw (c.add_loss.ensures, c.h_ci-at_surface.ensures, el) refl) c.loop-e.invariant

pub returns : goal.returns
returns c =
    let zero = c.default-sums.ensures in
    let none : c.default-sums.result ≡ no_convection = λ i. record { total = zero.0 i; horizontal = zero.1.0 i; upwards = zero.1.1.0 i; downwards = zero.1.1.1 i } in
    let z = c.args.z.now in
    let add = add_loss_at c.args.c z.building_elements c.args.temp_prev.now c.args.vector_x.now in
    repeat_end _ _ _ _ _ c.loop-e-test.false c.loop-e.invariant
    ∙ ap (repeat 0 _ add) none
    ∙ ap (λ (n : ℕ). repeat 0 n add no_convection) (c.element_count-n.ensures.0)
