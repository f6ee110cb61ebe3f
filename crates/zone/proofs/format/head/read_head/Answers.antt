use Rattle.std.proofs.Common.{arith, sym}
use Rattle.std.proofs.lemmas.Result.{err_from_is_err_and}
use Rattle.zone.proofs.Laws.Structure.{structured}
use Rattle.std.proofs.lemmas.Result.{err_from_is_err_and}
use Rattle.zone.proofs.Laws.StructuredHead.{structured_wrong, structured_right}
use Rattle.zone.proofs.format.head.read_head.Goals as goal

pub returns-in_err-end-clause-head : goal.returns-in_err-end-clause-head
returns-in_err-end-clause-head c =
    let p = err_from_is_err_and c.from_residual.result c.from_residual.ensures.1 in
    rw (p.1, p.2) (sym (structured_wrong c.args.bytes.now _ _ (sym c.in_err-end.ensures)))

pub read_zone-requires : goal.read_zone-requires
read_zone-requires c = let q = structured c.args.bytes.now _ (sym c.in_ok-end.ensures) in
    (omega (arith, q.low, q.there), sym c.in_ok-end.ensures, q.there)

pub returns-clause-head : goal.returns-clause-head
returns-clause-head c = rw c.read_zone.ensures (sym (structured_right c.args.bytes.now _ (sym c.in_ok-end.ensures)))
