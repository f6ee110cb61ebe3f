use Rattle.std.proofs.Common.{sym}
use Rattle.book.proofs.Calls.{hour_size, hour_written}
use Rattle.book.proofs.TakeUp.{limits_cut_lem, entry_refused, entry_right, entry_other}
use Rattle.book.proofs.checked_entry.check_hour.Goals.{in-Ok+else-is_entry, in_default}
use Rattle.book.proofs.checked_entry.check_hour.Goals as goal

pub is_entry-requires : goal.is_entry-requires
is_entry-requires c =
    let r = c.requires in
    let hour = rw r.standard at c.next_hour-hour.ensures.hour in
    let long = limits_cut_lem _ c.args.version _ _ c.conditions_length-limits_at.ensures _ c.limits_length.ensures.0 r.whole in (
      (hour_size _ _ r.tested _ _ r.follows _ _ long _ (λ _. sym c.read_limits.ensures) _ hour _ c.in-Ok.is, long),
      r.whole,
      hour_written _ _ r.tested _ _ r.follows _ _ long _ (λ _. sym c.read_limits.ensures) _ hour _ c.in-Ok.is,
    )

pub returns-then-is_entry-clause-checked : goal.returns-then-is_entry-clause-checked
returns-then-is_entry-clause-checked c =
    let r = c.requires in
    let hour = rw r.standard at c.next_hour-hour.ensures.hour in
    entry_right _ r.tested _ _ _ r.follows _ r.whole _ c.conditions_length-limits_at.ensures _ c.limits_length.ensures.0 _ c.read_limits.ensures _ hour _ c.in-Ok.is
    (sym (c.if-is_entry.ensures {u = tt}))

pub returns-clause-checked : goal.returns-clause-checked
returns-clause-checked c =
    let r = c.requires in
    let hour = rw r.standard at c.next_hour-hour.ensures.hour in
    rw c.false_entry.ensures elim c.match-hour.branch [
      | in-Ok+else-is_entry w ↦
          entry_other _ r.tested _ _ _ r.follows _ r.whole _ c.conditions_length-limits_at.ensures _ c.limits_length.ensures.0 _ c.read_limits.ensures _ hour _ w.in-Ok.is
          (sym (w.if-is_entry.ensures {u = tt}))
      | in_default w ↦
          entry_refused _ r.tested _ _ _ r.follows _ r.whole _ c.conditions_length-limits_at.ensures _ c.limits_length.ensures.0 _ c.read_limits.ensures _ hour _ w.in_default.is
    ]
