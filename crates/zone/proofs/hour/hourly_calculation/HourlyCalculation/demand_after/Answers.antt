use Rattle.zone.proofs.Laws.KeptHour.{kept_after, kept_demand}
use Rattle.zone.proofs.hour.hourly_calculation.HourlyCalculation.demand_after.Goals as goal

pub invariant_of-self : goal.invariant_of-self
invariant_of-self c =
    let a = c.args in
    let s = a.self.now in
    record { of_zone = kept_after s.coefficients s.zone.now a.temp_prev.now a.hour.now _ _ c.keep_hour.ensures.held s.of_zone }

pub returns-clause-demand : goal.returns-clause-demand
returns-clause-demand c =
    let a = c.args in
    let s = a.self.now in
    kept_demand s.coefficients s.zone.now a.temp_prev.now a.hour.now _ _ c.keep_hour.ensures.held s.of_zone _ c.prepared.ensures
    a.meeting a.after.now _ c.demand_met.ensures
