-- Convection by direction: what the internal part of a heat balance has of its elements, told by the states before and after an accepted
-- update or hour step. Pitches, coefficients and temperatures are written out, with nothing of `heat_flow_direction`, `is_direction` and `terms_where`.
-- Specification, Direction of heat flow and h_ci; Heat balance.
use Rattle.std.specs.Prelude.{ℕ, suc, ◌-◌, ◌≡◌, true, false, List, [], ◌∷◌, get_or, Float}
use Rattle.std.specs.Float.{nan}
use Rattle.std.specs.Float.Ieee.{is_nan, lt, le}
use Rattle.solver.specs.F64.{◌-ᶠ◌, ◌*ᶠ◌, decimal}
use Rattle.solver.specs.Sums.{sum_from0}
use Rattle.solver.specs.Result.{ok}
use Rattle.zone.specs.declared.record.building_element.HeatFlowDirection.{HeatFlowDirection}
use Rattle.zone.specs.declared.record.building_element.HeatFlowDirection.TheVariants.{Horizontal, Upwards, Downwards}
use Rattle.zone.specs.declared.record.zone_record.Zone.{Zone}
use Rattle.zone.specs.declared.format.conditions.FixedRate.{FixedRate}
use Rattle.zone.specs.declared.format.limits.Limits.{Limits}
use Rattle.zone.specs.declared.physics.balance.HeatBalance.{HeatBalance}
use Rattle.zone.specs.declared.physics.balance.HeatBalanceInternalBoundary.{HeatBalanceInternalBoundary}
use Rattle.zone.specs.declared.calls.state.State.{State}
use Rattle.zone.specs.Record.BuildingElement.{standard_coefficients, surface_convection}
use Rattle.zone.specs.Physics.Slots.{element}
use Rattle.zone.specs.Physics.System.{zone_two_nodes}
use Rattle.zone.specs.Physics.NodeLayout.{first_node}
use Rattle.zone.specs.Calls.Hour.{update_temperatures, HourResult, hour_step}

-- direction and h_ci at an inner surface: horizontal, 2.5, for a pitch of 60 to 120, both included; otherwise upwards, 5.0, or downwards, 0.7. A ceiling
-- (below 60) is upwards unless the air is colder than the surface; a floor (above 120) is upwards only if it is.
pub data Flows (pitch air surface : Float) : HeatFlowDirection → (h_ci : Float) → Type 0 where
  wall : le (decimal 60 0) pitch ≡ true → le pitch (decimal 120 0) ≡ true → Flows pitch air surface Horizontal (decimal 25 1)
  ceiling_upwards : lt pitch (decimal 60 0) ≡ true → lt air surface ≡ false → Flows pitch air surface Upwards (decimal 50 1)
  ceiling_downwards : lt pitch (decimal 60 0) ≡ true → lt air surface ≡ true → Flows pitch air surface Downwards (decimal 7 1)
  floor_upwards : lt (decimal 120 0) pitch ≡ true → lt air surface ≡ true → Flows pitch air surface Upwards (decimal 50 1)
  floor_downwards : lt (decimal 120 0) pitch ≡ true → lt air surface ≡ false → Flows pitch air surface Downwards (decimal 7 1)

-- a state's temperatures: the last node of element e is its inner surface, and behind the nodes of all elements stands the air
abbrev pub surface_of : Zone → State → ℕ → Float
surface_of z s e = get_or s.temps (first_node (zone_two_nodes z) (suc e) - 1) nan

abbrev pub air_of : Zone → State → Float
air_of z s = get_or s.temps (first_node (zone_two_nodes z) z.count) nan

-- element e's term of the convective total: air and surface are those from before the step in direction and h_ci, and from after it in the heat
pub record Term (z : Zone) (before after : State) (e : ℕ) (direction : HeatFlowDirection) (x : Float) : Type 0 where
  pub h_ci : Float
  pub flows : Flows (element z.building_elements e).pitch (air_of z before) (surface_of z before e) direction h_ci
  pub heat : x ≡ (element z.building_elements e).area *ᶠ (h_ci *ᶠ (air_of z after -ᶠ surface_of z after e))

-- each term of the total stands in exactly one of three lists, that of its direction, in element order: the terms of n elements from element e on
pub data Parted (z : Zone) (before after : State) : (n e : ℕ) (total horizontal upwards downwards : List Float) → Type 0 where
  none : {e : ℕ} → Parted z before after 0 e [] [] [] []
  horizontally : {n e : ℕ} {x : Float} {t h u d : List Float}
      → Term z before after e Horizontal x → Parted z before after n (suc e) t h u d → Parted z before after (suc n) e (x ∷ t) (x ∷ h) u d
  upwards : {n e : ℕ} {x : Float} {t h u d : List Float}
      → Term z before after e Upwards x → Parted z before after n (suc e) t h u d → Parted z before after (suc n) e (x ∷ t) h (x ∷ u) d
  downwards : {n e : ℕ} {x : Float} {t h u d : List Float}
      → Term z before after e Downwards x → Parted z before after n (suc e) t h u d → Parted z before after (suc n) e (x ∷ t) h u (x ∷ d)

-- the convective total and the three sums by direction, horizontal, upwards and downwards: the terms, with their signs, each sum in element order
pub record ByDirection (z : Zone) (before after : State) (b : HeatBalanceInternalBoundary) : Type 0 where
  pub terms : List Float
  pub horizontal : List Float
  pub upwards : List Float
  pub downwards : List Float
  pub parted : Parted z before after z.count 0 terms horizontal upwards downwards
  pub total_is : b.fabric_int_air_convective ≡ sum_from0 terms
  pub horizontal_is : b.fabric_int_air_convective_horizontal ≡ sum_from0 horizontal
  pub upwards_is : b.fabric_int_air_convective_upwards ≡ sum_from0 upwards
  pub downwards_is : b.fabric_int_air_convective_downwards ≡ sum_from0 downwards

-- the coefficient comes with its direction, of every pitch that is no NaN
abbrev pub YieldsDirection : Type 0
YieldsDirection = (pitch air surface : Float) → is_nan pitch ≡ false
    → Flows pitch air surface (surface_convection standard_coefficients pitch air surface).direction (surface_convection standard_coefficients pitch air surface).h_ci

abbrev pub UpdateByDirection : Zone → Type 0
UpdateByDirection z = (s : State) (bytes : List ℕ) (gains fraction ach : Float) (r : State × HeatBalance)
    → update_temperatures standard_coefficients z s bytes gains fraction ach ≡ ok r → ByDirection z s r.0 r.1.internal_boundary

abbrev pub HourByDirection : Zone → Type 0
HourByDirection z = (fixed : FixedRate) (version : ℕ) (l : Limits) (s : State) (bytes : List ℕ) (r : HourResult)
    → hour_step fixed standard_coefficients z version l s bytes ≡ ok r → ByDirection z s r.state r.balance.internal_boundary
