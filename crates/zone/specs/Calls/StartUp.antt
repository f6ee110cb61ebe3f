-- Start-up, `init_node_temps`: passes under constant conditions until two temperature vectors are close.
-- Specification, Start-up conditions; Passes.
use Rattle.std.specs.Prelude.{ℕ, zero, suc, Bool, true, cond, ◌&&◌, List, [], ◌∷◌, map, replicate, Float}
use Rattle.solver.specs.F64.{◌+ᶠ◌, ◌/ᶠ◌, decimal, zero64}
use Rattle.solver.specs.Result.{Result, ok, refused, bind}
use Rattle.solver.specs.Closeness as Closeness
use Rattle.zone.specs.declared.record.building_element.Coefficients.{Coefficients}
use Rattle.zone.specs.declared.record.building_element.Element.{Element}
use Rattle.zone.specs.declared.record.building_element.ElementHour.{ElementHour}
use Rattle.zone.specs.declared.record.zone_record.Zone.{Zone}
use Rattle.zone.specs.declared.format.conditions.Conditions.{Conditions}
use Rattle.zone.specs.declared.format.conditions.AirChangesPerHourArgument.TheVariants.{Cooling}
use Rattle.zone.specs.Record.BuildingElement.{node_count}
use Rattle.zone.specs.Record.Numbers.{not_settled}
use Rattle.zone.specs.Check.ZoneTest.{zone_test}
use Rattle.zone.specs.Physics.CalcTemperatures.{calc_temperatures}
use Rattle.zone.specs.declared.calls.state.State.{State}
use Rattle.zone.specs.Calls.State.{slots_of, state_of}
use Rattle.zone.specs.Hour.Demand.{delta_t, space_heat_cool_demand}
use Rattle.zone.specs.Calls.Hour.{delivered}

abbrev pub first_hour : Element → ElementHour
first_hour e = e.first_hour

-- length 8,760 h; external and supply temperature are the first external one; no gains; fractions 0.4; heating and cooling setpoint are the first
-- set temperature, the ventilation setpoint is the first one; fixed rate 0; the head's first-hour parts
unfoldable pub start_up_conditions : Zone → Conditions
start_up_conditions z =
    record {
      delta_t_h = decimal 8760 0;
      temp_ext_air = z.temp_ext_air_init;
      gains_internal = zero64;
      gains_solar = zero64;
      frac_convective_heat = decimal 4 1;
      frac_convective_cool = decimal 4 1;
      temp_setpnt_heat = z.temp_setpnt_init;
      temp_setpnt_cool = z.temp_setpnt_init;
      temp_setpnt_cool_vent = z.temp_setpnt_cool_vent_init;
      avg_air_supply_temp = z.temp_ext_air_init;
      gains_heat_cool_convective = zero64;
      gains_heat_cool_radiative = zero64;
      ach_args = Cooling zero64;
      elements = map first_hour z.building_elements;
    }

-- all node temperatures: the mean of the first external and the first set temperature
abbrev pub temp_start : Zone → Float
temp_start z = (z.temp_ext_air_init +ᶠ z.temp_setpnt_init) /ᶠ decimal 2 0

-- two temperature vectors are close, node by node
unfoldable pub all_close : List Float → List Float → Bool
all_close [] bs = true
all_close (a ∷ as') [] = true
all_close (a ∷ as') (b ∷ bs) = Closeness.isclose a b && all_close as' bs

-- the temperatures before and after a pass are close
unfoldable pub close : Zone → (before after : List Float) → Bool
close z t t' = all_close (state_of z t').temps (state_of z t).temps

-- the state before the first pass
abbrev pub start_state : Zone → State
start_state z = record { nodes = node_count z; temps = replicate 121 (temp_start z) }

module _ (c : Coefficients) (z : Zone) where
  -- one pass, from node temperatures (slots): the demand is met with fraction 0.4 and rate 0
  unfoldable pub pass : List Float → Result (List Float)
  pass t =
      let h = start_up_conditions z in
      bind (space_heat_cool_demand c z t h) λ d.
      calc_temperatures c z t h (delta_t h) (delivered h d) (decimal 4 1) zero64

  -- the pass that settles does not store its temperatures; a limit of n allows n passes, then 15
  unfoldable pub settle : (limit : ℕ) → List Float → Result (List Float)
  settle zero t = refused not_settled 0
  settle (suc n) t =
      bind (pass t) λ t'.
      cond (close z t t') (ok t) (settle n t')

  unfoldable pub init_node_temps : Result State
  init_node_temps =
      bind (zone_test z) λ _.
      bind (settle z.start_up_limit (slots_of z (start_state z))) λ t.
      ok (state_of z t)
