use Rattle.std.proofs.Common.{◌≡◌, ◌*◌, ◌+◌, ◌^◌, length, refl, ap, ◌∙◌, arith}
use Rattle.weather.specs.Decimal.{number}
use Rattle.weather.proofs.Laws.Digits.{power_some, power_few}
use Rattle.weather.proofs.Laws.Unsigned.{digits_few, whole_few, digits_read}
use Rattle.weather.proofs.decimal.of_digits.Goals as goal

pub append_digits-requires-clause-few : goal.append_digits-requires-clause-few
append_digits-requires-clause-few c =
    let few = whole_few c.args.minus c.args.whole.now c.args.fraction.now c.requires.whole_digits c.requires.fraction_digits c.if-whole-places-gt-MOST_DIGITS.false in
    omega (arith, few)

pub append_digits-number-requires-clause-few : goal.append_digits-number-requires-clause-few
append_digits-number-requires-clause-few c =
    let few = digits_few c.args.minus c.args.whole.now c.args.fraction.now c.requires.whole_digits c.requires.fraction_digits c.if-whole-places-gt-MOST_DIGITS.false in
    let is : c.append_digits.result ≡ number c.args.whole.now = omega (arith, c.append_digits.ensures) in
    rw is few

pub invariant_of-result : goal.invariant_of-result
invariant_of-result c =
    let few = digits_few c.args.minus c.args.whole.now c.args.fraction.now c.requires.whole_digits c.requires.fraction_digits c.if-whole-places-gt-MOST_DIGITS.false in
    let is : c.append_digits.result ≡ number c.args.whole.now = omega (arith, c.append_digits.ensures) in
    record {
      number_few = rw (c.append_digits-number.ensures, is) few;
      power_some = rw c.pow-power.ensures (power_some (length c.args.fraction.now));
      power_few = rw c.pow-power.ensures (power_few (length c.args.fraction.now) (omega (arith, c.if-whole-places-gt-MOST_DIGITS.false)));
    }

pub returns : goal.returns
returns c = let f = c.args.fraction.now in
    let is : c.append_digits.result ≡ number c.args.whole.now = omega (arith, c.append_digits.ensures) in
    digits_read c.args.minus c.args.whole.now f c.requires.whole_digits c.requires.fraction_digits c.if-whole-places-gt-MOST_DIGITS.false _ refl
    (c.append_digits-number.ensures ∙ ap (λ x. x * 10 ^ length f + number f) is) c.pow-power.ensures
