use Rattle.std.proofs.Common.{◌∙◌}
use Rattle.zone.proofs.Laws.StartUp.{settle_at_limit, settle_ends, settle_next}
use Rattle.zone.proofs.hour.hourly_calculation.HourlyCalculation.settle.Goals as goal

-- back at a pass
pub loop-passes-preserved : goal.loop-passes-preserved
loop-passes-preserved c =
    let s = c.args.self.now in
    let v = c.loop-passes in
    let i = v.invariant in
    let e = c.demand_after-demand.ensures in
    record {
      zone = e.of_same.0 ∙ i.zone;
      coefficients = e.of_same.1 ∙ i.coefficients;
      left = settle_next s.coefficients s.zone.now _ _ v.t v.passes i.left c.if-limit-passes.false v.after _ c.demand_after-demand.result
          (rw (i.coefficients, i.zone, c.start_up_conditions-h.ensures) at e.demand) (rw c.ends.ensures at c.if-ends.false);
    }

-- at the limit
pub returns-then-limit-passes-clause-state : goal.returns-then-limit-passes-clause-state
returns-then-limit-passes-clause-state c = settle_at_limit _ _ _ _ _ _ c.loop-passes.invariant.left c.if-limit-passes.true

-- back at the last pass
pub returns-then-ends-clause-state : goal.returns-then-ends-clause-state
returns-then-ends-clause-state c =
    let s = c.args.self.now in
    let v = c.loop-passes in
    let i = v.invariant in
    c.settled.ensures
    ∙ settle_ends s.coefficients s.zone.now _ _ v.t v.passes i.left c.if-limit-passes.false v.after _ c.demand_after-demand.result
    (rw (i.coefficients, i.zone, c.start_up_conditions-h.ensures) at c.demand_after-demand.ensures.demand) (rw c.ends.ensures at c.if-ends.true)
