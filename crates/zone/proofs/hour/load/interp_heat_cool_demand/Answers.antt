use Rattle.zone.proofs.Laws.Interpolation.{no_effect_told, equal_told}
use Rattle.zone.proofs.hour.load.interp_heat_cool_demand.Goals as goal

pub returns-then-close_in_demand : goal.returns-then-close_in_demand
returns-then-close_in_demand c = no_effect_told _ _ _ _ _ _ c.close_in_demand.ensures c.if-close_in_demand.true

pub returns-then-close_in_demand-2 : goal.returns-then-close_in_demand-2
returns-then-close_in_demand-2 c =
    equal_told _ _ _ _ _ _ c.close_in_demand.ensures c.if-close_in_demand.false _ c.close_in_demand-2.ensures c.if-close_in_demand-2.true
