use Rattle.std.proofs.Common.{sym, ap, ◌∙◌, inl}
use Rattle.tools.proofs.Laws.Hours.{numbers_fit}
use Rattle.tools.proofs.Laws.Above.{above_none, above_found, above_turn}
use Rattle.tools.proofs.above.hour_above.Goals as goal

pub loop-hour-init-derived : goal.loop-hour-init-derived
loop-hour-init-derived c =
    let e = c.enumerate-hour-items.ensures in
    let same = c.into_iter-hour-iterator.ensures.into_iter_gives in
    ((tt, tt, inl (numbers_fit c.args.hours c.ranges.hours.0 _ (ap (λ x. x.count) same ∙ e.count) _ (ap (λ x. x.iter) same ∙ e.source))), tt)

pub returns-then-goes_above : goal.returns-then-goes_above
returns-then-goes_above c =
    let s = c.in-Some.ensures.steps in
    rw s.1 (sym (above_found _ _ _ _ _ _ c.loop-hour.invariant _ _ s.0 (sym c.goes_above.ensures ∙ c.if-goes_above.true)))

pub loop-hour-preserved : goal.loop-hour-preserved
loop-hour-preserved c =
    let s = c.in-Some.ensures.steps in
    rw s.2 (above_turn _ _ _ _ _ _ c.loop-hour.invariant _ _ s.0 (sym c.goes_above.ensures ∙ c.if-goes_above.false))

pub returns : goal.returns
returns c = let s = c.in-None.ensures.steps in sym (above_none _ _ _ _ _ _ c.loop-hour.invariant s.0.0)
