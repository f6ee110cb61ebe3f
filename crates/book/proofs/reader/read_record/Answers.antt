use Rattle.std.proofs.Common.{sym, length-take-le}
use Rattle.book.proofs.Laws.Rest.{record_bounds}
use Rattle.book.proofs.reader.read_record.Goals as goal

pub slice_bounds-read_state-end : goal.slice_bounds-read_state-end
slice_bounds-read_state-end c =
    sym (length-take-le _ c.args.rest.now (record_bounds c.args.z.now c.args.rest.now _ c.record_in.ensures _ c.in_ok-length.was).1)
