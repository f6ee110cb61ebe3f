use denote.Floats.{passes}
use Rattle.std.proofs.Common.{sym}
use Rattle.book.proofs.Laws.Body.{part_cut}
use Rattle.book.proofs.Calls.{zone_passed, append_good}
use Rattle.book.proofs.book.appended.Goals as goal

pub returns-clause-appended : goal.returns-clause-appended
returns-clause-appended c =
    let l = c.well_formed.1.1.1.1.0 in
    append_good _ c.args.given.now _ _ _ _ (zone_passed _ _ c.zone_test.ensures _ c.in_ok-zone_test.was) c.if-given-ge-MOST_ENTRIES.false
    (sym (c.if-not-may_follow.ensures {u = tt})) (passes _ l.1.1.0.1) (passes _ l.1.1.1.0.1)
    _ c.next_hour-hour.ensures _ c.in_ok-demand.was _ c.whole_length-length.ensures.0 (sym (c.if-not-has_room.ensures {u = tt}))
    _ (part_cut c.args.version c.args.limits _ _ c.limits_bytes-bytes.ensures c.limits_length.ensures.0) _ c.put_entry.ensures
