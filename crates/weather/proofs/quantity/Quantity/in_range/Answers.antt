use Rattle.std.proofs.Common.{◌∙◌}
use Rattle.std.specs.Float.Ieee.{of_bits, neg}
use Rattle.solver.specs.F64.{decimal}
use Rattle.zone.specs.Check.Ranges.{temperature_range, irradiance_range}
use Rattle.weather.proofs.Laws.Ranges.{from_to_is}
use Rattle.weather.proofs.quantity.Quantity.in_range.Goals as goal

pub returns-in-DryBulb : goal.returns-in-DryBulb
unfolding temperature_range of_bits decimal neg
returns-in-DryBulb c = let n = c.new.ensures in
    rw c.in-DryBulb.is (c.contains.ensures.value ∙ rw (n.start, n.end, n.exhausted) (from_to_is _ _ c.args.x))

pub returns-in-Radiation : goal.returns-in-Radiation
unfolding irradiance_range of_bits decimal neg
returns-in-Radiation c = let n = c.new-in-Radiation.ensures in
    rw c.in-Radiation.is (c.contains-in-Radiation.ensures.value ∙ rw (n.start, n.end, n.exhausted) (from_to_is _ _ c.args.x))
