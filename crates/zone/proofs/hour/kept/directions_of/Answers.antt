use Rattle.std.proofs.Common.{◌∙◌, ap, rules, ℕ, replicate}
use Rattle.zone.specs.Physics.Slots.{with_terms}
use Rattle.zone.specs.Physics.System.{direction_at}
use Rattle.zone.specs.declared.record.building_element.HeatFlowDirection.TheVariants.{Horizontal}
use Rattle.zone.proofs.Laws.Elements.{element_is}
use Rattle.zone.proofs.hour.kept.directions_of.Goals as goal

pub returns : goal.returns
returns c =
    let direction = direction_at c.args.c c.args.z.now.building_elements c.args.t.now in
    c.with_terms.ensures direction (λ e x h told. search (rules, element_is))
    ∙ ap (λ (n : ℕ). with_terms n direction (replicate 24 Horizontal)) c.element_count.ensures.0
