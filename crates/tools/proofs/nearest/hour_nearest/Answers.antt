use Rattle.std.proofs.Common.{rules, ap, ◌∙◌, inl}
use Rattle.tools.proofs.Laws.Hours.{numbers_fit}
use Rattle.tools.proofs.Laws.Nearest.{nearest_end, nearest_changes, nearest_stays}
use Rattle.tools.proofs.nearest.hour_nearest.Goals as goal

pub loop-hour-init-derived : goal.loop-hour-init-derived
loop-hour-init-derived c =
    let e = c.enumerate-hour-items.ensures in
    let same = c.into_iter-hour-iterator.ensures.into_iter_gives in
    ((tt, tt, inl (numbers_fit c.args.hours c.ranges.hours.0 _ (ap (λ x. x.count) same ∙ e.count) _ (ap (λ x. x.iter) same ∙ e.source))), tt)

pub loop-hour-preserved-then-is_none_or : goal.loop-hour-preserved-then-is_none_or
loop-hour-preserved-then-is_none_or c =
    let s = c.in-Some.ensures.steps in
    rw (s.2, s.1, c.distance-d.ensures) (nearest_changes _ _ _ _ _ _ s.0 _ _ c.loop-hour.invariant (search rules) c.if-is_none_or.true)

pub loop-hour-preserved : goal.loop-hour-preserved
loop-hour-preserved c =
    let s = c.in-Some.ensures.steps in
    rw s.2 (nearest_stays _ _ _ _ _ _ s.0 _ _ c.loop-hour.invariant (search rules) c.if-is_none_or.false)

pub returns : goal.returns
returns c = let s = c.in-None.ensures.steps in (search rules) ∙ nearest_end _ _ _ _ _ c.loop-hour.invariant s.0.0
