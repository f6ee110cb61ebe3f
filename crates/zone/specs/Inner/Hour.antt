-- An hour's calculations, as the code has them: a given load, or the demand and the last calculation where it is met. kept_demand and kept_update
-- (proofs/Laws/KeptHour.antt) tie them to the definitions, and Laws/Hour.antt and StartUp.antt tie these to the calls.
use Rattle.std.specs.Prelude.{None, Option, Some}
use Rattle.std.specs.Prelude.{Bool, true, List, Float}
use Rattle.solver.specs.F64.{◌+ᶠ◌}
use Rattle.solver.specs.Result.{Result, ok, refused, bind}
use Rattle.solver.specs.Promise.{solved_res}
use Rattle.zone.specs.declared.record.zone_record.Zone.{Zone}
use Rattle.zone.specs.declared.format.conditions.Conditions.{Conditions}
use Rattle.zone.specs.declared.calls.state.Demand.{Demand}
use Rattle.zone.specs.declared.hour.hour.Meeting.{Meeting}
use Rattle.zone.specs.declared.hour.hour.Meeting.TheVariants.{NotMet, WithGains, Alone}
use Rattle.zone.specs.declared.hour.rule.Rule.{Rule}
use Rattle.zone.specs.declared.physics.balance.HeatCoolGains.{HeatCoolGains}
use Rattle.zone.specs.declared.record.building_element.Coefficients.{Coefficients}
use Rattle.zone.specs.Physics.Ventilation.{calc_vent_heat_transfer_coeff}
use Rattle.zone.specs.declared.physics.balance.HeatBalance.{HeatBalance}
use Rattle.zone.specs.Physics.HeatBalance.{heat_balance}
use Rattle.zone.specs.Hour.Demand.{delta_t, gains_heat_cool, frac_conv_gains_heat_cool, temperatures_with, space_heat_cool_demand}
use Rattle.zone.specs.declared.calls.state.State.{State}
use Rattle.zone.specs.Calls.State.{state_of}
use Rattle.zone.specs.Calls.Hour.{delivered, delivered_by, convective_share, HourResult}
use Rattle.zone.specs.Calls.StartUp.{close}
use Rattle.zone.specs.Inner.Prepared.{Prepared, load_in, solved_in}
use Rattle.zone.specs.Inner.Demand.{demand_in}

-- the gains that are there before any demand
abbrev pub free_gains : Conditions → HeatCoolGains
free_gains h = record { gains_heat_cool = gains_heat_cool h; f_hc_c = frac_conv_gains_heat_cool h }

-- the total gains of an hour whose demand is met by a rule
abbrev pub gains_by : Rule → Conditions → Demand → HeatCoolGains
gains_by r h d =
    let w = delivered_by r.version r.limits h d in
    let g = gains_heat_cool h +ᶠ w in
    record { gains_heat_cool = g; f_hc_c = convective_share r.version h w g }

abbrev pub met_load : Conditions → Demand → Meeting → Option HeatCoolGains
met_load h d NotMet = None
met_load h d (WithGains r) = Some (gains_by r h d)
met_load h d Alone = Some (record { gains_heat_cool = delivered h d; f_hc_c = h.frac_convective_heat })

-- of an hour that is prepared
module _ (p : Prepared) (volume : Float) where
  unfoldable pub update_in : HeatCoolGains → (ach : Float) → Result (List Float)
  update_in g ach =
      bind (solved_in p volume g.gains_heat_cool g.f_hc_c ach) λ x.
      ok x.0

  -- the temperatures after the last calculation, or those before it where there is none
  abbrev pub met_in : Demand → (last : List Float) → Option HeatCoolGains → (before : List Float) → Result (List Float)
  met_in d last None before = ok before
  met_in d last (Some g) before = solved_res (load_in p last (calc_vent_heat_transfer_coeff volume d.ach_cooling) g.gains_heat_cool g.f_hc_c)

  module _ (control : List Float → Float) (h : Conditions) (useful_area : Float) where
    unfoldable pub demand_met_in : Meeting → (before : List Float) → Result (Demand × List Float)
    demand_met_in meeting before =
        bind (demand_in p volume control h useful_area) λ x.
        bind (met_in x.0 x.1 (met_load h x.0 meeting) before) λ after.
        ok (x.0, after)

-- an hour that is prepared: its systems, its zone, the temperature that the setpoints are held against, and what the hour says
pub data Hour : Type 0 where
  hour_with : (p : Prepared) (z : Zone) (control : List Float → Float) (h : Conditions) → Hour

abbrev pub update_of : Hour → HeatCoolGains → (ach : Float) → Result (List Float)
update_of (hour_with p z control h) g ach = update_in p z.volume g ach

abbrev pub demand_met_of : Hour → Meeting → (before : List Float) → Result (Demand × List Float)
demand_met_of (hour_with p z control h) meeting before = demand_met_in p z.volume control h z.useful_area meeting before

module _ (c : Coefficients) (z : Zone) (t : List Float) (h : Conditions) where
  abbrev pub met_with : Demand → Option HeatCoolGains → (before : List Float) → Result (List Float)
  met_with d None before = ok before
  met_with d (Some g) before = temperatures_with c z t h g.gains_heat_cool g.f_hc_c d.ach_cooling

  unfoldable pub demand_solved : Meeting → (before : List Float) → Result (Demand × List Float)
  demand_solved meeting before =
      bind (space_heat_cool_demand c z t h) λ d.
      bind (met_with d (met_load h d meeting) before) λ after.
      ok (d, after)

-- a pass of start-up, from the temperatures t, is the last where it is refused or settles
abbrev pub ends : Zone → (t : List Float) → Result (Demand × List Float) → Bool
ends z t (ok u) = close z t u.1
ends z t (refused number index) = true

-- the state of the temperatures beside a demand
abbrev pub settled_state : Zone → Result (Demand × List Float) → Result State
settled_state z x = bind x λ u. ok (state_of z u.1)

-- the heat balance of the hour step
abbrev pub step_balance : Coefficients → Zone → (t : List Float) → Conditions → Rule → Demand → (after : List Float) → HeatBalance
step_balance c z t h r d after =
    let g = gains_by r h d in
    heat_balance c z t h (delta_t h) g.gains_heat_cool g.f_hc_c d.ach_cooling after

-- the hour step, from the demand and the temperatures after it
abbrev pub stepped : Coefficients → Zone → Rule → (t : List Float) → Conditions → Demand × List Float → Result HourResult
stepped c z r t h u = ok (record { demand = u.0; state = state_of z u.1; balance = step_balance c z t h r u.0 u.1 })
