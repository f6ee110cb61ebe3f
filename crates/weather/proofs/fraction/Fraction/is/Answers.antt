use Rattle.std.proofs.Common.{◌*◌, ◌^◌, ◌≤◌, arith, mul-le-mul_left}
use native.Mathlib.Nat.{pow-le-pow_right}
use Rattle.weather.proofs.fraction.Fraction.is.Goals as goal

pub overflow_mul-result : goal.overflow_mul-result
overflow_mul-result c =
    let p : 10 ^ c.args.places ≤ 10 ^ 6 = pow-le-pow_right {n = 10} (omega arith) c.requires.places_few in
    let m : c.args.self.number * 10 ^ c.args.places ≤ c.args.self.number * 10 ^ 6 = mul-le-mul_left c.args.self.number p in
    rw c.pow.ensures (omega (arith, m, c.args.self.number_few))
