use Rattle.std.proofs.Common.{refl, sym, ap, ◌∙◌}
use Rattle.zone.proofs.Laws.Required.{required_turn, required_stop, required_end}
use Rattle.zone.proofs.check.zone_tests.all_required.Goals as goal

pub loop-i-init : goal.loop-i-init
loop-i-init g c = λ test number told. refl

pub loop-i-preserved : goal.loop-i-preserved
loop-i-preserved g c = λ test number told.
    required_turn test number _ _ _ (c.loop-i.invariant test number told) c.index-items-i.result c.loop-i-test.true (ap test (sym c.index-items-i.is) ∙ sym (told _ _ c.passes.ensures) ∙ c.if-not-passes.false)

pub returns-then-not-passes : goal.returns-then-not-passes
returns-then-not-passes g c = λ test number told named.
    let n = named _ _ c.refusal.ensures in
    rw (n.0, n.1) (required_stop test number _ _ _ (c.loop-i.invariant test number told) c.index-items-i.result c.loop-i-test.true (ap test (sym c.index-items-i.is) ∙ sym (told _ _ c.passes.ensures) ∙ c.if-not-passes.true))

pub returns : goal.returns
returns g c = λ test number told named.
    required_end test number _ _ _ (c.loop-i.invariant test number told) c.loop-i-test.false
