use Rattle.std.proofs.Common.{rules, ◌≡◌, ◌∙◌, ap, Err}
use Rattle.zone.specs.Promise.{ok}
use Rattle.tools.specs.declared.convert_error.ConvertError.TheVariants.{Book}
use Rattle.tools.proofs.Laws.Convert.{told_refused, convert_short, convert_done, written, same_version, same_entries}
use Rattle.tools.proofs.converter.convert.Goals as goal

pub returns-in_err-head : goal.returns-in_err-head
returns-in_err-head c =
    let e : c.from_residual.result ≡ Err (Book c.in_err-head.field-0.0) = search rules in
    rw e (told_refused c.args.bytes.now _ _ c.read_accepted.ensures c.args.out.now c.in_err-head.field-0.0 (c.in_err-head.was {u = tt}))

pub returns-then-out-values : goal.returns-then-out-values
returns-then-out-values c =
    convert_short c.args.bytes.now _ _ _ (c.in_ok-head.ensures {u = tt}) c.args.out.now
    (same_version _ c.args.bytes.now c.in_ok-head.head _ (c.if-begins_with_version_1.ensures {u = tt})) c.if-out-values.true

pub returns : goal.returns
returns c =
    let K = c.in_ok-head.ensures {u = tt} in
    rw (same_entries _ c.args.bytes.now c.in_ok-head.head _ c.convert_entries.ensures)
    (ap (λ l. (ok (c.in_ok-head.values.count, c.in_ok-head.values.used), l)) (written c.args.bytes.now _ _ _ K c.args.out.now _ c.copy_from_slice.ensures.after c.if-out-values.false)
    ∙ convert_done c.args.bytes.now _ _ _ K c.args.out.now
    (same_version _ c.args.bytes.now c.in_ok-head.head _ (c.if-begins_with_version_1.ensures {u = tt})) c.if-out-values.false)
