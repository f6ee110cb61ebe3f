use Rattle.std.proofs.Common.{arith, refl, sym, ◌∙◌, drop, length-drop, length-take-le}
use native.Mathlib.Nat.{add-sub_cancel_left}
use Rattle.tools.proofs.Laws.ConvertLoop.{part_last, part_turn, fits_in, fits_out, c_long, c_least}
use Rattle.tools.proofs.converter.convert_entries.Goals as goal

pub slice_bounds-read_record-count : goal.slice_bounds-read_record-count
slice_bounds-read_record-count c = c.loop-record.invariant.inside

pub slice_bounds-read_record-start : goal.slice_bounds-read_record-start
slice_bounds-read_record-start c = c.loop-record.invariant.inside

pub overflow_add-next : goal.overflow_add-next
overflow_add-next c =
    let e = fits_out _ c.requires.few _ _ _ _ c.requires.long c.requires.room c.loop-record.invariant _ c.read_record.ensures.0 _ c.in-Some.is _ c.length.ensures in
    omega (arith, e, c.requires.fits)

pub slice_bounds-put_converted-end : goal.slice_bounds-put_converted-end
slice_bounds-put_converted-end c = fits_in _ c.requires.few _ _ _ _ c.requires.long c.requires.room c.loop-record.invariant _ c.read_record.ensures.0 _ c.in-Some.is _ c.length.ensures

pub slice_bounds-put_converted-end-in-Some : goal.slice_bounds-put_converted-end-in-Some
slice_bounds-put_converted-end-in-Some c =
    let e = fits_out _ c.requires.few _ _ _ _ c.requires.long c.requires.room c.loop-record.invariant _ c.read_record.ensures.0 _ c.in-Some.is _ c.length.ensures in
    omega (arith, e, c.loop-record.auto.out)

pub put_converted-requires : goal.put_converted-requires
put_converted-requires c =
    let P = c.loop-record.invariant in
    let room = fits_out _ c.requires.few _ _ _ _ c.requires.long c.requires.room P _ c.read_record.ensures.0 _ c.in-Some.is _ c.length.ensures in
    let long = c_long _ c.requires.few _ _ _ _ c.requires.long c.requires.room P _ c.read_record.ensures.0 _ c.in-Some.is _ c.length.ensures in
    let least = c_least _ c.requires.few _ _ _ _ c.requires.long c.requires.room P _ c.read_record.ensures.0 _ c.in-Some.is _ c.length.ensures in
    rw (add-sub_cancel_left c.loop-record.at c.length.result)
    (length-take-le c.length.result (drop c.loop-record.at c.loop-record.out) (omega (arith, room, c.loop-record.auto.out, length-drop c.loop-record.at c.loop-record.out)) ∙ sym long, least)

pub loop-record-preserved : goal.loop-record-preserved
loop-record-preserved c =
    rw (c.put_converted.ensures, add-sub_cancel_left c.loop-record.at c.length.result)
    (part_turn c.args.z.now c.requires.few c.args.entries.now c.args.out.now _ _ c.requires.long c.requires.room c.loop-record.invariant _ c.read_record.ensures.0 _ c.in-Some.is _ c.length.ensures _ refl)

pub returns : goal.returns
returns c = part_last _ c.requires.few _ _ _ _ c.requires.long c.requires.room c.loop-record.invariant _ c.read_record.ensures.0 c.in_default.is
