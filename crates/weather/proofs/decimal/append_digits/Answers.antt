use Rattle.std.proofs.Common.{sym, ◌∙◌, arith}
use Rattle.weather.proofs.Laws.Digits.{digit_next, digits_append, digits_room, digits_whole}
use Rattle.weather.proofs.decimal.append_digits.Goals as goal

pub overflow_mul-n : goal.overflow_mul-n
overflow_mul-n c = let l = c.loop-digit in
    let room = digits_room c.args.digits.now l.n l.digit-index c.loop-digit-test.true in
    omega (arith, room, l.invariant.number_is, c.requires.few)

pub overflow_sub-digit : goal.overflow_sub-digit
overflow_sub-digit c = let l = c.loop-digit in (digit_next c.args.digits.now l.n l.digit-index c.loop-digit-test.true l.invariant.are_digits).0

pub overflow_add-n : goal.overflow_add-n
overflow_add-n c = let l = c.loop-digit in
    let room = digits_room c.args.digits.now l.n l.digit-index c.loop-digit-test.true in
    omega (arith, room, c.from.ensures, l.invariant.number_is, c.requires.few)

pub loop-digit-preserved : goal.loop-digit-preserved
loop-digit-preserved c = let l = c.loop-digit in record {
  are_digits = (digit_next c.args.digits.now l.n l.digit-index c.loop-digit-test.true l.invariant.are_digits).2;
  number_is = rw c.from.ensures (sym (digits_append c.args.digits.now l.n l.digit-index c.loop-digit-test.true) ∙ l.invariant.number_is);
}

pub returns : goal.returns
returns c = let l = c.loop-digit in digits_whole c.args.digits.now l.n l.digit-index c.loop-digit-test.false ∙ l.invariant.number_is
