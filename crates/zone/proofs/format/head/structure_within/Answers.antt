use Rattle.std.proofs.Common.{◌≡◌, arith, sym}
use Rattle.std.proofs.lemmas.Result.{err_from_is_err_and}
use Rattle.zone.specs.Format.Layout.{count_in}
use Rattle.zone.proofs.Laws.Structure.{within_version, within_front, within_elements, within_over, within_end}
use Rattle.zone.proofs.format.head.structure_within.Goals as goal

pub returns-then-s-ne-VERSION_OF_HEAD : goal.returns-then-s-ne-VERSION_OF_HEAD
returns-then-s-ne-VERSION_OF_HEAD c = sym (within_version c.args.s.now c.args.end c.if-s-ne-VERSION_OF_HEAD.true)

pub returns-then-not-front : goal.returns-then-not-front
returns-then-not-front c =
    let n : c.from-n.result ≡ count_in c.args.s.now = omega arith in
    sym (within_front c.args.s.now c.args.end c.if-s-ne-VERSION_OF_HEAD.false (rw (c.count_valid.ensures, n) at c.if-not-front.true))

pub returns-in_err-elements : goal.returns-in_err-elements
returns-in_err-elements c =
    let n : c.from-n.result ≡ count_in c.args.s.now = omega arith in
    let p = err_from_is_err_and c.from_residual.result c.from_residual.ensures.1 in
    rw (p.1, p.2)
    (sym (within_elements c.args.s.now c.args.end c.if-s-ne-VERSION_OF_HEAD.false (rw (c.count_valid.ensures, n) at c.if-not-front.false) _ _ (sym (rw n at c.in_err-elements.ensures))))

pub returns-then-elements-end : goal.returns-then-elements-end
returns-then-elements-end c =
    let n : c.from-n.result ≡ count_in c.args.s.now = omega arith in
    sym (within_over c.args.s.now c.args.end c.if-s-ne-VERSION_OF_HEAD.false (rw (c.count_valid.ensures, n) at c.if-not-front.false) _ (sym (rw n at c.in_ok-elements.ensures)) c.if-elements-end.true)

pub returns : goal.returns
returns c =
    let n : c.from-n.result ≡ count_in c.args.s.now = omega arith in
    sym (within_end c.args.s.now c.args.end c.if-s-ne-VERSION_OF_HEAD.false (rw (c.count_valid.ensures, n) at c.if-not-front.false) _ (sym (rw n at c.in_ok-elements.ensures)) c.if-elements-end.false)
