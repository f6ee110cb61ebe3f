use Rattle.std.proofs.Common.{refl}
use Rattle.zone.specs.Physics.Slots.{with_terms}
use Rattle.zone.proofs.Laws.Loops.{store_turn, repeat_end}
use Rattle.zone.proofs.physics.terms.with_terms.Goals as goal

pub loop-e-init : goal.loop-e-init
loop-e-init g c = λ term h. refl

pub loop-e-preserved : goal.loop-e-preserved
loop-e-preserved g c = λ term h.
    store_turn term _ _ _ _ _ c.loop-e-test.true (h _ _ c.loop-e-test.true c.f.ensures) (c.loop-e.invariant term h)

pub returns : goal.returns
unfolding with_terms
returns g c = λ term h. repeat_end _ _ _ _ _ c.loop-e-test.false (c.loop-e.invariant term h)
