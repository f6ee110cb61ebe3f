use Rattle.std.proofs.Common.{ℕ, ◌≡◌, ◌^◌, ◌<◌, ◌≤◌, false, pos, sym, ap, ◌∙◌, arith}
use lib.Ieee.{binary64, of_int, round, div, neg}
use lib.Ieee.Back.{round_whole}
use Rattle.weather.specs.Numbers.{most_digits}
use Rattle.weather.proofs.Laws.Quotient.{div_of, neg_round}
use Rattle.weather.proofs.fraction.Fraction.value.Goals as goal

quotient : (m p : ℕ) → m < 10 ^ most_digits → 0 < p → p ≤ 10 ^ most_digits → div binary64 (of_int binary64 (pos m)) (of_int binary64 (pos p)) ≡ round binary64 false m p
unfolding of_int
quotient m p few some small = div_of _ _ m p some (round_whole binary64 false m (omega (arith, few))) (round_whole binary64 false p (omega (arith, small)))

pub returns-then-self : goal.returns-then-self
returns-then-self c = let f = c.args.self in
    ap neg (quotient f.number f.power f.number_few f.power_some f.power_few) ∙ neg_round binary64 f.number f.power ∙ ap (λ b. round binary64 b f.number f.power) (sym c.if-self.true)

pub returns-else-self : goal.returns-else-self
returns-else-self c = let f = c.args.self in
    quotient f.number f.power f.number_few f.power_some f.power_few ∙ ap (λ b. round binary64 b f.number f.power) (sym c.if-self.false)
