use Rattle.std.proofs.Common.{◌≡◌, true, ◌+◌, ◌*◌, ◌^◌, ◌-◌, length, drop}
use Rattle.weather.specs.Decimal.{all_digits, number}
use Rattle.weather.proofs.decimal.append_digits.Given as goal

abbrev pub invariant-loop-digit : goal.invariant-loop-digit
invariant-loop-digit l = record {
  are_digits : all_digits (drop l.digit-index l.digits) ≡ true;
  number_is : l.n * 10 ^ (length l.digits - l.digit-index) + number (drop l.digit-index l.digits) ≡ l.before * 10 ^ length l.digits + number l.digits;
}
