use Rattle.std.proofs.Common.{ap, ◌∙◌, length, arith, length-drop}
use Rattle.book.proofs.Laws.Rest.{record_bounds}
use Rattle.book.proofs.record.RecordsIterator.next.Goals as goal

pub split_at-requires : goal.split_at-requires
split_at-requires c = (record_bounds _ _ _ c.record_in.ensures _ c.in_ok-length.was).1

pub returns-clause-goes : goal.returns-clause-goes
returns-clause-goes c =
    let b = record_bounds _ _ _ c.record_in.ensures _ c.in_ok-length.was in
    let left = ap length c.split_at.ensures.back ∙ length-drop c.in_ok-length.length c.args.self.now.rest.now in
    record { on = λ _. (tt, tt, omega (arith, b.0, b.1, left)); keeps = tt; rests = λ _. tt }
