use Rattle.std.proofs.Common.{◌∙◌, refl, ap, Float}
use Rattle.solver.specs.Sums.{sum2_add}
use Rattle.zone.proofs.Laws.Loops.{sum2_turn, sum2_end}
use Rattle.zone.proofs.physics.terms.sum2_of.Goals as goal

pub loop-e-init : goal.loop-e-init
loop-e-init g c = λ term h. refl

pub loop-e-preserved : goal.loop-e-preserved
loop-e-preserved g c = λ term h.
    let t = c.loop-e-test.true in
    sum2_turn term _ _ _ _ _ t (c.add-total.ensures ∙ ap (λ (x : Float). sum2_add c.loop-e.total x) (h _ _ t c.f.ensures)) (c.loop-e.invariant term h)

pub returns : goal.returns
returns g c = λ term h. sum2_end term _ _ _ _ _ _ c.loop-e-test.false c.sum.ensures c.zero-total.ensures (c.loop-e.invariant term h)
