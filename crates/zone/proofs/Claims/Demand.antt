-- Every accepted demand, also that of an hour step, has heating not below 0, cooling not above it, and at most one of them that is not 0.
use Rattle.std.proofs.Common.{◌≡◌, refl, subst, Bool, true, false, inl, inr, List, Float}
use lib.Ieee.{lt, le, eq, of_bits}
use Rattle.solver.specs.F64.{zero64}
use Rattle.solver.specs.Result.{ok}
use Rattle.solver.proofs.Promise.{bind_ok}
use Rattle.zone.specs.declared.record.building_element.Coefficients.{Coefficients}
use Rattle.zone.specs.declared.record.zone_record.Zone.{Zone}
use Rattle.zone.specs.declared.format.conditions.Conditions.{Conditions}
use Rattle.zone.specs.declared.calls.state.Demand.{Demand}
use Rattle.zone.specs.declared.hour.windows.VentilationChoice.{VentilationChoice}
use Rattle.zone.specs.Claims.DemandClaims.{Signs, DemandCallSigns, HourCallSigns}
use Rattle.zone.specs.Calls.State.{slots_of}
use Rattle.zone.specs.Calls.Hour.{tested, demand}
use Rattle.zone.proofs.Laws.Accepted.{hour_made}
use Rattle.zone.proofs.Laws.Demand.{demand_made}
use Rattle.zone.specs.Hour.Demand.{demand_record, space_heat_cool_demand}

lt_le : (x y : Float) → lt x y ≡ true → le x y ≡ true
unfolding le
lt_le x y h = rw h

zero_le : le zero64 zero64 ≡ true
unfolding le lt eq of_bits
zero_le = refl

signs_by : (kwh : Float) (v : VentilationChoice) → Signs (demand_record kwh v)
unfolding demand_record
signs_by kwh v = go (lt kwh zero64) refl (lt zero64 kwh) refl
  where
    go : (b : Bool) → lt kwh zero64 ≡ b → (a : Bool) → lt zero64 kwh ≡ a → Signs (demand_record kwh v)
    go true p a q = record { heating = rw p zero_le; cooling = rw p (lt_le kwh zero64 p); one = inl (rw p refl) }
    go false p true q = record { heating = rw (p, q) (lt_le zero64 kwh q); cooling = rw p zero_le; one = inr (rw p refl) }
    go false p false q = record { heating = rw (p, q) zero_le; cooling = rw p zero_le; one = inl (rw (p, q) refl) }

demand_signs : (c : Coefficients) (z : Zone) (t : List Float) (h : Conditions) (d : Demand) → space_heat_cool_demand c z t h ≡ ok d → Signs d
demand_signs c z t h d e =
    let m = demand_made c z t h d e in
    subst Signs m.made (signs_by m.kwh m.choice)

module _ (c : Coefficients) (z : Zone) where
  pub demand_call_signs : DemandCallSigns c z
  unfolding demand
  demand_call_signs fixed s bytes d e =
      let h = bind_ok (tested fixed z s bytes) _ d e in
      demand_signs c z (slots_of z s) h.0 d h.2

  pub hour_call_signs : HourCallSigns c z
  hour_call_signs fixed version l s bytes r e =
      let h = hour_made c z s fixed version l bytes r e in
      demand_signs c z (slots_of z s) h.conditions r.demand h.answered
