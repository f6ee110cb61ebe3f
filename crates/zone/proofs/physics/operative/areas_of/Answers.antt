use Rattle.std.proofs.Common.{◌∙◌, ap, rules, ℕ, replicate}
use Rattle.solver.specs.F64.{zero64}
use Rattle.zone.specs.Physics.Slots.{with_terms}
use Rattle.zone.specs.Physics.System.{area_of}
use Rattle.zone.specs.Inner.Operative.{areas_of}
use Rattle.zone.proofs.Laws.Elements.{element_is}
use Rattle.zone.proofs.physics.operative.areas_of.Goals as goal

pub returns : goal.returns
unfolding areas_of
returns c =
    let area = area_of c.args.z.now.building_elements in
    c.with_terms.ensures area (λ e x h told. search (rules, element_is))
    ∙ ap (λ (n : ℕ). with_terms n area (replicate 24 zero64)) c.element_count.ensures.0
