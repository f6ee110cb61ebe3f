-- States, limits, demands and heat balances as C has them.
-- Specification, Answers in C; Heat balance; Limits of the plant.
use Rattle.std.specs.Prelude.{None, Option, Some}
use Rattle.std.specs.Prelude.{ℕ, List, [], ◌∷◌, ◌++◌, Float}
use Rattle.zone.specs.Promise.{zero64, one64}
use Rattle.zone.specs.declared.physics.balance.HeatBalance.{HeatBalance}
use Rattle.zone.specs.declared.physics.balance.HeatBalanceAirNode.{HeatBalanceAirNode}
use Rattle.zone.specs.declared.physics.balance.HeatBalanceInternalBoundary.{HeatBalanceInternalBoundary}
use Rattle.zone.specs.declared.physics.balance.HeatBalanceExternalBoundary.{HeatBalanceExternalBoundary}
use Rattle.zone.specs.declared.format.limits.Limits.{Limits}
use Rattle.zone.specs.declared.calls.state.State.{State}
use Rattle.zone.specs.declared.calls.state.Demand.{Demand}

-- `temps[121]`, of which `nodes` count
abbrev pub state_in : (temps : List Float) → (nodes : ℕ) → State
state_in temps nodes = record { nodes = nodes; temps = temps }

-- the limits of a call, in watts
abbrev pub limits_of : (heating_limit cooling_limit : Float) → Limits
limits_of heating_limit cooling_limit = record { heating = heating_limit; cooling = cooling_limit }

-- trigger 0.0 or 1.0, trigger rate (0.0 if none)
abbrev pub trigger_out : Option Float → List Float
trigger_out None = zero64 ∷ zero64 ∷ []
trigger_out (Some ach) = one64 ∷ ach ∷ []

-- `out[5]`: heating, cooling, chosen rate, then the trigger
abbrev pub demand_out : Demand → List Float
demand_out d = d.space_heat_demand ∷ d.space_cool_demand ∷ d.ach_cooling ∷ trigger_out d.ach_to_trigger_heating

-- `balance[28]`: 7 + (4 + 3) + 14 values in the order of the structs, the 3 the sums of the convective total's terms by direction
abbrev pub air_node_out : HeatBalanceAirNode → List Float
air_node_out b =
    b.solar_gains
    ∷ b.internal_gains
    ∷ b.heating_or_cooling_system_gains
    ∷ b.energy_to_change_internal_temperature
    ∷ b.thermal_bridges
    ∷ b.infiltration_ventilation
    ∷ b.fabric_heat_loss
    ∷ []

abbrev pub internal_boundary_out : HeatBalanceInternalBoundary → List Float
internal_boundary_out b =
    b.fabric_int_air_convective
    ∷ b.fabric_int_sol
    ∷ b.fabric_int_int_gains
    ∷ b.fabric_int_heat_cool
    ∷ b.fabric_int_air_convective_horizontal
    ∷ b.fabric_int_air_convective_upwards
    ∷ b.fabric_int_air_convective_downwards
    ∷ []

abbrev pub external_boundary_out : HeatBalanceExternalBoundary → List Float
external_boundary_out b =
    b.solar_gains
    ∷ b.internal_gains
    ∷ b.heating_or_cooling_system_gains
    ∷ b.thermal_bridges
    ∷ b.infiltration_ventilation
    ∷ b.fabric_ext_air_convective
    ∷ b.fabric_ext_air_radiative
    ∷ b.fabric_ext_sol
    ∷ b.fabric_ext_sky
    ∷ b.opaque_fabric_ext
    ∷ b.transparent_fabric_ext
    ∷ b.ground_fabric_ext
    ∷ b.ztc_fabric_ext
    ∷ b.ztu_fabric_ext
    ∷ []

abbrev pub balance_out : HeatBalance → List Float
balance_out b = air_node_out b.air_node ++ (internal_boundary_out b.internal_boundary ++ external_boundary_out b.external_boundary)
