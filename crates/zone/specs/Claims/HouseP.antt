-- House P (Specification, House P): its head, start-up and hours with their heat balances, and its rows in one table, by computing. House and hours are
-- bytes, read by the definitions that the contracts cite.
use Rattle.std.specs.Prelude.{None}
use Rattle.std.specs.Prelude.{ℕ, ◌≡◌, Bool, true, false, ◌&&◌, List, [], ◌∷◌, ◌++◌, get_or, replicate, eqb, Float}
use Rattle.std.specs.Float.{binary64, nan}
use Rattle.std.specs.Float.Ieee.{neg, of_bits, to_bits}
use Rattle.solver.specs.F64.{decimal, zero64, one64}
use Rattle.solver.specs.Result.{Result, ok, refused}
use Rattle.zone.specs.Record.BuildingElement.{standard_coefficients, is_direction, surface_convection, h_pli_transparent}
use Rattle.zone.specs.Record.Numbers.{conditions_code}
use Rattle.zone.specs.Format.Decode.{zone_at}
use Rattle.zone.specs.Format.Head.{head_of}
use Rattle.zone.specs.Format.Encode.{row_bytes}
use Rattle.zone.specs.Format.FixedRate.{rate_twice}
use Rattle.zone.specs.Physics.Ventilation.{ach_req_to_reach_temperature}
use Rattle.zone.specs.Calls.Hour.{power_limits_range, update_temperatures, demand, HourResult, hour_step}
use Rattle.zone.specs.Calls.StartUp.{init_node_temps}
use Rattle.zone.specs.declared.record.building_element.HeatFlowDirection.{HeatFlowDirection}
use Rattle.zone.specs.declared.record.building_element.HeatFlowDirection.TheVariants.{Horizontal, Upwards, Downwards}
use Rattle.zone.specs.declared.record.zone_record.Zone.{Zone}
use Rattle.zone.specs.declared.format.conditions.FixedRate.TheVariants.{Retired, StillTaken}
use Rattle.zone.specs.declared.format.limits.Limits.{Limits}
use Rattle.zone.specs.declared.physics.balance.HeatBalance.{HeatBalance}
use Rattle.zone.specs.Claims.HousePBalances.{balance_at_rest, balance_heated, values}
use Rattle.zone.specs.declared.calls.state.State.{State}
use Rattle.zone.specs.declared.calls.state.Demand.{Demand}

-- 1.4 × 10^32: no ventilation control
abbrev no_control : Float
no_control = decimal 140000000000000000000000000000000 0

-- an hour's part of its element: 20, no irradiance, shading 1; no treatment is open
abbrev part : List ℕ
part = row_bytes (decimal 20 0 ∷ zero64 ∷ zero64 ∷ one64 ∷ one64 ∷ []) ++ (0 ∷ [])

-- length, version, air basis, one element, limit 10; useful area, volume, bridges, first external, set and ventilation temperature; a Transparent
-- with no treatments: area, pitch, h_ce, h_re, h_ri, absorption, sky, k_pli, h_pli; its first hour
abbrev head : (k h_ce bridges useful_area : Float) → List ℕ
head k h_ce bridges useful_area =
    (0 ∷ 0 ∷ 0 ∷ 176 ∷ 1 ∷ 0 ∷ 1 ∷ 0 ∷ 10 ∷ [])
    ++ (row_bytes (useful_area ∷ decimal 100 0 ∷ bridges ∷ decimal 20 0 ∷ decimal 20 0 ∷ no_control ∷ [])
    ++ ((4 ∷ 0 ∷ [])
    ++ (row_bytes (one64 ∷ decimal 90 0 ∷ h_ce ∷ zero64 ∷ zero64 ∷ zero64 ∷ zero64 ∷ zero64 ∷ k ∷ one64 ∷ [])
    ++ part)))

abbrev pub head_of_p : List ℕ
head_of_p = head (decimal 3600 0) one64 (decimal 430625 4) (decimal 36 0)

abbrev pub house_p : Zone
house_p = zone_at head_of_p

-- P with no capacity, nothing that goes to the external air, and next to no useful area: a divisor is zero
abbrev singular : Zone
singular = zone_at (head zero64 zero64 zero64 (decimal 1 20))

-- P with next to no useful area: the load that is tried changes next to nothing
abbrev pub tiny : Zone
tiny = zone_at (head (decimal 3600 0) one64 (decimal 430625 4) (decimal 1 12))

-- the hour: length, external, no gains, fractions 1, setpoints, no ventilation control, supply, no gains; both rates 0
abbrev hour_by : (rate_code : ℕ) → (heat cool : Float) → List ℕ
hour_by rate_code heat cool =
    row_bytes (one64 ∷ decimal 20 0 ∷ zero64 ∷ zero64 ∷ one64 ∷ one64 ∷ heat ∷ cool ∷ no_control ∷ decimal 20 0 ∷ zero64 ∷ zero64 ∷ [])
    ++ (rate_code ∷ (row_bytes (zero64 ∷ zero64 ∷ []) ++ part))

-- target and windows open both 0
abbrev hour : (heat cool : Float) → List ℕ
hour heat cool = hour_by 1 heat cool

abbrev pub hour_of_p : List ℕ
hour_of_p = hour (decimal 20 0) (decimal 24 0)

-- the same hour with code 0, the fixed rate, 0
abbrev pub old_hour_of_p : List ℕ
old_hour_of_p = hour_by 0 (decimal 20 0) (decimal 24 0)

abbrev pub twenty : State
twenty = record { nodes = 3; temps = decimal 20 0 ∷ decimal 20 0 ∷ decimal 20 0 ∷ replicate 118 zero64 }

abbrev pub no_demand : Demand
no_demand = record { space_heat_demand = zero64; space_cool_demand = zero64; ach_cooling = zero64; ach_to_trigger_heating = None }

-- the limits of a plant
abbrev plant : (heating cooling : Float) → Limits
plant heating cooling = record { heating = heating; cooling = cooling }

-- its head is 180 bytes; start-up finds 20, 20, 20; an hour with setpoints 20 and 24 wants nothing and leaves them, in each version
pub record HousePClaims : Type 0 where
  pub head : head_of head_of_p ≡ ok (record { zone = house_p; length = 180 })
  pub start_up : init_node_temps standard_coefficients house_p ≡ ok twenty
  pub balance : HeatBalance
  pub balance_is : balance ≡ balance_at_rest
  pub hour_1 : (l : Limits) → hour_step Retired standard_coefficients house_p 1 l twenty hour_of_p ≡ ok (record { demand = no_demand; state = twenty; balance = balance })
  pub hour_2 : (l : Limits) → hour_step Retired standard_coefficients house_p 2 l twenty hour_of_p ≡ ok (record { demand = no_demand; state = twenty; balance = balance })
  -- a delivered 0 is beyond no limit, nor beyond a limit of 0
  pub hour_3 : hour_step Retired standard_coefficients house_p 3 (plant zero64 zero64) twenty hour_of_p ≡ ok (record { demand = no_demand; state = twenty; balance = balance })
  -- a call refuses the hour with the fixed rate, with 8; where it is written already it is judged by its hour step; with its rate twice it is the hour
  pub old_refused : demand Retired standard_coefficients house_p twenty old_hour_of_p ≡ refused conditions_code 0
  pub old_hour : (l : Limits) → hour_step StillTaken standard_coefficients house_p 1 l twenty old_hour_of_p ≡ ok (record { demand = no_demand; state = twenty; balance = balance })
  pub old_twice : rate_twice old_hour_of_p ≡ hour_of_p

-- ---- the table

abbrev same : Float → Float → Bool
same x y = eqb (to_bits binary64 x) (to_bits binary64 y)

abbrev demand_is : (heating cooling : Float) → Result Demand → Bool
demand_is heating cooling (ok d) = same d.space_heat_demand heating && same d.space_cool_demand cooling
demand_is heating cooling (refused _ _) = false

-- the number, and no index
abbrev refused_with : {A : Type 0} → ℕ → Result A → Bool
refused_with n (ok _) = false
refused_with n (refused k i) = eqb k n && eqb i 0

abbrev is_twenty : State → ℕ → Bool
is_twenty s i = same (get_or s.temps i nan) (decimal 20 0)

abbrev all_same : List Float → List Float → Bool
all_same [] [] = true
all_same [] (y ∷ ys) = false
all_same (x ∷ xs) [] = false
all_same (x ∷ xs) (y ∷ ys) = same x y && all_same xs ys

abbrev has_balance : HeatBalance → Result HourResult → Bool
has_balance b (ok r) = all_same (values r.balance) (values b)
has_balance b (refused _ _) = false

-- an hour step of version 3: the demand, and the three temperatures after it
abbrev limited_hour : Limits → (heat cool : Float) → Result HourResult
limited_hour l heat cool = hour_step Retired standard_coefficients house_p 3 l twenty (hour heat cool)

abbrev ends_at : (heating cooling outer inner air : Float) → Result HourResult → Bool
ends_at heating cooling outer inner air (ok r) =
    demand_is heating cooling (ok r.demand)
    && same (get_or r.state.temps 0 nan) outer && same (get_or r.state.temps 1 nan) inner && same (get_or r.state.temps 2 nan) air
ends_at heating cooling outer inner air (refused _ _) = false

abbrev all_twenty : Result (State × HeatBalance) → Bool
all_twenty (ok r) = eqb r.0.nodes 3 && is_twenty r.0 0 && is_twenty r.0 1 && is_twenty r.0 2
all_twenty (refused _ _) = false

-- free temperatures: an update with no gains, fraction 0 and rate 0
abbrev updated : Zone → Result (State × HeatBalance)
updated z = update_temperatures standard_coefficients z twenty hour_of_p zero64 zero64 zero64

-- demand at setpoints
abbrev asked : Zone → (heat cool : Float) → Result Demand
asked z heat cool = demand Retired standard_coefficients z twenty (hour heat cool)

-- h_ci and the direction of heat flow at a pitch, where air and surface have one temperature
abbrev convection_is : (pitch : Float) → HeatFlowDirection → (h_ci : Float) → Bool
convection_is pitch direction h_ci =
    let found = surface_convection standard_coefficients pitch (decimal 20 0) (decimal 20 0) in
    is_direction direction found.direction && same found.h_ci h_ci

-- the rate for a target, operative and air both 24 at the first rate and 16 at the second, supply 8
abbrev rate_for : (target ach_min ach_max : Float) → Float
rate_for target ach_min ach_max = ach_req_to_reach_temperature target ach_min ach_max (decimal 24 0) (decimal 16 0) (decimal 24 0) (decimal 16 0) (decimal 8 0)

unfoldable pub all_hold : List Bool → Bool
all_hold [] = true
all_hold (row ∷ rows) = row && all_hold rows

abbrev pub table : List Bool
table =
    all_twenty (updated house_p)
    ∷ demand_is zero64 zero64 (asked house_p (decimal 20 0) (decimal 24 0))
    ∷ demand_is (decimal 144 3) zero64 (asked house_p (decimal 21 0) (decimal 24 0))
    ∷ demand_is zero64 (neg (decimal 144 3)) (asked house_p (decimal 15 0) (decimal 19 0))
    ∷ refused_with 10 (asked house_p (decimal 22 0) (decimal 21 0))
    -- of the 144 W that are asked for, a plant of 72 W gives half, and the temperatures go half the way; the demand is uncut
    ∷ ends_at (decimal 144 3) zero64 (decimal 2015625 5) (decimal 203125 4) (decimal 205 1) (limited_hour (plant (decimal 72 0) zero64) (decimal 21 0) (decimal 24 0))
    ∷ ends_at zero64 (neg (decimal 144 3)) (decimal 1984375 5) (decimal 196875 4) (decimal 195 1) (limited_hour (plant zero64 (decimal 72 0)) (decimal 15 0) (decimal 19 0))
    -- 144 W is not strictly beyond 144 W; and the heat balance of this hour
    ∷ ends_at (decimal 144 3) zero64 (decimal 203125 4) (decimal 20625 3) (decimal 21 0) (limited_hour (plant (decimal 144 0) zero64) (decimal 21 0) (decimal 24 0))
    ∷ has_balance balance_heated (limited_hour (plant (decimal 144 0) zero64) (decimal 21 0) (decimal 24 0))
    -- the ends of the limits' range: 0 of either sign and 1e7; beyond them the next number, the greatest below 0, and a NaN
    ∷ (power_limits_range (plant zero64 (neg zero64)) && power_limits_range (plant (decimal 10000000 0) (decimal 10000000 0)))
    ∷ refused_with 19 (limited_hour (plant (of_bits binary64 4711630319722168321) zero64) (decimal 22 0) (decimal 21 0))
    ∷ refused_with 19 (limited_hour (plant zero64 (of_bits binary64 9223372036854775809)) (decimal 22 0) (decimal 21 0))
    ∷ refused_with 19 (limited_hour (plant nan zero64) (decimal 22 0) (decimal 21 0))
    ∷ refused_with 12 (asked singular (decimal 20 0) (decimal 24 0))
    ∷ refused_with 12 (updated singular)
    -- 14 is tested before the closeness of setpoint and free temperature: 20.00000000005 is close to the free 20, and the load changes that by 2.3e-13
    ∷ refused_with 14 (asked tiny (decimal 2000000000005 11) (decimal 24 0))
    -- two reciprocals, also with no treatment; and of two treatments the one that is closed
    ∷ same (h_pli_transparent (decimal 49 0) (replicate 4 zero64) 0 0) (of_bits binary64 0x4048_8000_0000_0001)
    ∷ same (h_pli_transparent one64 (one64 ∷ decimal 3 0 ∷ zero64 ∷ zero64 ∷ []) 2 1) (decimal 25 2)
    ∷ convection_is (decimal 60 0) Horizontal (decimal 25 1)
    ∷ convection_is (decimal 120 0) Horizontal (decimal 25 1)
    ∷ convection_is (decimal 599 1) Upwards (decimal 50 1)
    ∷ convection_is (decimal 1201 1) Downwards (decimal 7 1)
    ∷ same (rate_for (decimal 24 0) (decimal 1 0) (decimal 5 0)) (decimal 1 0)
    ∷ same (rate_for (decimal 16 0) (decimal 1 0) (decimal 5 0)) (decimal 5 0)
    ∷ same (rate_for (decimal 8 0) (decimal 1 0) (decimal 5 0)) (decimal 5 0)
    ∷ same (rate_for (decimal 24 0) (decimal 2 0) (decimal 1 0)) (decimal 1 0)
    ∷ []
