use Rattle.std.proofs.Common.{◌≡◌, ℕ, List, length, take, rules, ap, ◌∙◌, eq-eqb, ne_eqb, Float}
use lib.Ieee.{nan}
use Rattle.solver.specs.F64.{◌/ᶠ◌, one64}
use Rattle.zone.specs.Record.BuildingElement.{add_closed, h_pli_transparent}
use Rattle.zone.proofs.Laws.Element.{closed_next, closed_end}
use Rattle.zone.proofs.Laws.Lists.{take_at_most}
use Rattle.zone.proofs.record.building_element.h_pli_transparent.Goals as goal
use Rattle.zone.proofs.record.building_element.h_pli_transparent.Goals.{then-treatments_open-j-eq0, else-treatments_open-j-eq0}

pub loop-j-preserved : goal.loop-j-preserved
loop-j-preserved c = let l = c.loop-j in
    closed_next _ l.j l.r _ _ l.invariant nan _ c.loop-j-test.true
    (elim c.if-treatments_open-j-eq0.branch [ then-treatments_open-j-eq0 w ↦ rw (eq-eqb _ _ w.if-treatments_open-j-eq0.true) w.r-is | else-treatments_open-j-eq0 w ↦ rw (ne_eqb _ _ w.if-treatments_open-j-eq0.false) w.r-is ])

pub returns : goal.returns
unfolding h_pli_transparent
returns c = let a = c.args in
    let whole : length a.delta_r.now ≡ 4 = search rules in
    ap (λ (x : Float). one64 /ᶠ x)
    (closed_end _ _ _ _ _ c.loop-j.invariant c.loop-j-test.false
    ∙ ap (λ (n : ℕ). add_closed a.treatments_open (one64 /ᶠ a.h) (take n a.delta_r.now)) c.min.ensures
    ∙ ap (λ (l : List Float). add_closed a.treatments_open (one64 /ᶠ a.h) l) (take_at_most a.treatments 4 a.delta_r.now whole))
