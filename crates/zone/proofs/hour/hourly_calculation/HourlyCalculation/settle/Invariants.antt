use Rattle.std.proofs.Common.{◌≡◌, ◌-◌}
use Rattle.zone.specs.Calls.StartUp.{start_state, settle}
use Rattle.zone.specs.Calls.State.{slots_of}
use Rattle.zone.proofs.hour.hourly_calculation.HourlyCalculation.settle.Given as goal

abbrev pub invariant-loop-passes : goal.invariant-loop-passes
invariant-loop-passes l =
    let c = l.fn.self.coefficients in
    let z = l.fn.self.zone.now in
    record {
      zone : l.self.zone ≡ l.fn.self.zone;
      coefficients : l.self.coefficients ≡ c;
      left : settle c z z.start_up_limit (slots_of z (start_state z)) ≡ settle c z (z.start_up_limit - l.passes) l.t;
    }

abbrev pub decreases-loop-passes : goal.decreases-loop-passes
decreases-loop-passes l = l.limit - l.passes
