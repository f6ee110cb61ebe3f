-- Why demand, hour step, update, start-up and operative temperature are refused: each reason says that the tests before it have passed (Specification, Order
-- of tests), so that it comes for no other, and whenever it holds.
use Rattle.std.specs.Prelude.{ℕ, ◌<◌, ◌≡◌, Bool, true, false, not, ◌&&◌, List, Float}
use Rattle.std.specs.Float.Ieee.{lt, ne, neg}
use Rattle.solver.specs.F64.{◌+ᶠ◌, ◌-ᶠ◌, ◌*ᶠ◌, decimal, zero64}
use Rattle.solver.specs.Closeness.{close_in_demand, close_in_windows_test}
use Rattle.solver.specs.declared.system.Matrix.{Matrix}
use Rattle.solver.specs.FastSolver.{all_divisors_valid, temperatures_of, temperatures_valid}
use Rattle.solver.specs.Result.{ok}
use Rattle.solver.specs.Numbers.{divisor, temperature}
use Rattle.zone.specs.declared.record.building_element.Coefficients.{Coefficients}
use Rattle.zone.specs.declared.record.zone_record.Zone.{Zone}
use Rattle.zone.specs.declared.format.conditions.Conditions.{Conditions}
use Rattle.zone.specs.declared.format.limits.Limits.{Limits}
use Rattle.zone.specs.declared.format.conditions.AirChangesPerHourArgument.TheVariants.{Cooling, TargetAndWindowsOpen}
use Rattle.zone.specs.declared.format.conditions.FixedRate.{FixedRate}
use Rattle.zone.specs.declared.format.conditions.FixedRate.TheVariants.{Retired}
use Rattle.zone.specs.declared.calls.state.State.{State}
use Rattle.zone.specs.declared.calls.state.Demand.{Demand}
use Rattle.zone.specs.Record.Numbers.{conditions_value, cooling_below_heating, ventilation_below_heating, no_effect, not_settled, false_entry, limit_value}
use Rattle.zone.specs.Check.Ranges.{gains_range, fraction_range, rate_range}
use Rattle.zone.specs.Check.ZoneTest.{zone_test}
use Rattle.zone.specs.Physics.Slots.{air}
use Rattle.zone.specs.Physics.System.{matrix_a, vector_b}
use Rattle.zone.specs.Physics.Ventilation.{calc_vent_heat_transfer_coeff}
use Rattle.zone.specs.Hour.Demand.{
  delta_t,
  control_temperature,
  ach_target,
  gains_heat_cool,
  frac_conv_gains_heat_cool,
  gains_upper,
  frac_upper,
  temperatures_with,
  free_temperatures,
  space_heat_cool_demand,
}
use Rattle.zone.specs.Calls.State.{slots_of, state_test, operative}
use Rattle.zone.specs.Calls.Hour.{hour_version, has_limits, power_limits_range, limits_valid, tested, demand, delivered, delivered_by, convective_share, hour_step, update_temperatures}
use Rattle.zone.specs.Calls.StartUp.{start_up_conditions, start_state, init_node_temps}
use Rattle.zone.specs.Claims.RefusesWhere.{RefusesWhere}
use Rattle.zone.specs.Claims.FirstFault.{ZoneReason, StateReason, ConditionsReason}
use Rattle.zone.specs.Claims.StartUpClaims.{Unsettled, LimitUnsettled}
use Rattle.zone.specs.Claims.Why.{Windows, rate_found}

-- 10 and 11 have passed
pub record SetpointsPass (h : Conditions) : Type 0 where
  pub cooling : lt h.temp_setpnt_cool h.temp_setpnt_heat ≡ false
  pub ventilation : lt h.temp_setpnt_cool_vent h.temp_setpnt_heat ≡ false

-- the load that is tried at a free temperature, with its convective fraction (Specification, Load)
pub data Wanted (z : Zone) (h : Conditions) (temp_free : Float) : (load fraction : Float) → Type 0 where
  wanted_cooling : lt h.temp_setpnt_cool temp_free ≡ true → close_in_demand temp_free h.temp_setpnt_cool ≡ false
      → Wanted z h temp_free (neg (decimal 10 0) *ᶠ z.useful_area) h.frac_convective_cool
  wanted_heating : lt h.temp_setpnt_cool temp_free ≡ false → lt temp_free h.temp_setpnt_heat ≡ true → close_in_demand temp_free h.temp_setpnt_cool ≡ false
      → Wanted z h temp_free (decimal 10 0 *ᶠ z.useful_area) h.frac_convective_heat

module _ (c : Coefficients) (z : Zone) (t : List Float) (h : Conditions) where
  -- a time step from t under conditions h: its matrix, which a rate decides, and its right side
  abbrev pub step_matrix : (ach : Float) → Matrix
  step_matrix ach = matrix_a c z t h (delta_t h) (calc_vent_heat_transfer_coeff z.volume ach)

  abbrev pub step_right_side : (gains fraction ach : Float) → List Float
  step_right_side gains fraction ach = vector_b c z t h (delta_t h) gains fraction (calc_vent_heat_transfer_coeff z.volume ach)

  -- a divisor of a chain or a pivot of the dense part that is zero or not finite; else a temperature after the step that is not within ±1e6
  -- (Specification, Refusals of a solve)
  pub data SolveReason (gains fraction ach : Float) : (number index : ℕ) → Type 0 where
    by_divisor : all_divisors_valid (step_matrix ach) ≡ false → SolveReason gains fraction ach divisor 0
    by_temperature : all_divisors_valid (step_matrix ach) ≡ true
        → temperatures_valid (step_matrix ach) (temperatures_of (step_matrix ach) (step_right_side gains fraction ach)) ≡ false
        → SolveReason gains fraction ach temperature 0

  -- windows open would cool (Specification, Windows)
  abbrev pub would_cool : Windows c z t h → Bool
  would_cool w =
      lt (control_temperature z w.vent_max) (control_temperature z w.free)
      && lt h.temp_setpnt_cool_vent (control_temperature z w.free)
      && lt h.avg_air_supply_temp (air w.free)

  -- temperatures at the rate found are above the cooling setpoint still
  abbrev pub too_warm : List Float → Bool
  too_warm extra =
      lt h.temp_setpnt_cool (control_temperature z extra) && not (close_in_windows_test (control_temperature z extra) h.temp_setpnt_cool)

  -- the free temperature and the rate that ventilation leaves
  pub data Chosen : (temp_free ach : Float) → Type 0 where
    at_fixed_rate : {ach : Float} {free : List Float} → h.ach_args ≡ Cooling ach → free_temperatures c z t h ach ≡ ok free → Chosen (control_temperature z free) ach
    at_equal_rates : {target windows_open : Float} {free : List Float} → h.ach_args ≡ TargetAndWindowsOpen target windows_open → ne windows_open target ≡ false
        → free_temperatures c z t h target ≡ ok free → Chosen (control_temperature z free) target
    not_cooling : (w : Windows c z t h) → ne w.windows_open w.target ≡ true → would_cool w ≡ false → Chosen (control_temperature z w.free) w.target
    not_enough : (w : Windows c z t h) {extra : List Float} → ne w.windows_open w.target ≡ true → would_cool w ≡ true
        → free_temperatures c z t h (rate_found c z t h w) ≡ ok extra → too_warm extra ≡ true → Chosen (control_temperature z w.free) w.target
    at_rate_found : (w : Windows c z t h) {extra : List Float} → ne w.windows_open w.target ≡ true → would_cool w ≡ true
        → free_temperatures c z t h (rate_found c z t h w) ≡ ok extra → too_warm extra ≡ false → Chosen (control_temperature z extra) (rate_found c z t h w)

  -- the solves of a demand, with their gains, fraction and rate: free at the rate without windows, with windows open, and at the rate found; then loaded
  pub data DemandSolve : (gains fraction ach : Float) → Type 0 where
    at_target : DemandSolve (gains_heat_cool h) (frac_conv_gains_heat_cool h) (ach_target h.ach_args)
    at_open : {target windows_open : Float} {free : List Float} → h.ach_args ≡ TargetAndWindowsOpen target windows_open → ne windows_open target ≡ true
        → free_temperatures c z t h target ≡ ok free
        → DemandSolve (gains_heat_cool h) (frac_conv_gains_heat_cool h) windows_open
    between : (w : Windows c z t h) → ne w.windows_open w.target ≡ true → would_cool w ≡ true
        → DemandSolve (gains_heat_cool h) (frac_conv_gains_heat_cool h) (rate_found c z t h w)
    loaded : {temp_free ach load fraction : Float} → Chosen temp_free ach → Wanted z h temp_free load fraction → DemandSolve (gains_upper h load) (frac_upper h load fraction) ach

  pub data DemandReason : (number index : ℕ) → Type 0 where
    -- the cooling setpoint is below the heating setpoint
    by_cooling_below_heating : lt h.temp_setpnt_cool h.temp_setpnt_heat ≡ true → DemandReason cooling_below_heating 0
    -- the ventilation setpoint is below the heating setpoint
    by_ventilation_below_heating : lt h.temp_setpnt_cool h.temp_setpnt_heat ≡ false
        → lt h.temp_setpnt_cool_vent h.temp_setpnt_heat ≡ true → DemandReason ventilation_below_heating 0
    -- 12, 13
    in_solve : {gains fraction ach : Float} {number index : ℕ} → SetpointsPass h → DemandSolve gains fraction ach → SolveReason gains fraction ach number index
        → DemandReason number index
    -- loaded and free temperature differ by something close to 0, whether or not the free temperature is close to the setpoint
    by_no_effect : {temp_free ach load fraction : Float} {upper : List Float} → SetpointsPass h → Chosen temp_free ach → Wanted z h temp_free load fraction
        → temperatures_with c z t h (gains_upper h load) (frac_upper h load fraction) ach ≡ ok upper
        → close_in_demand (control_temperature z upper -ᶠ temp_free) zero64 ≡ true → DemandReason no_effect 0

-- ---- the tests before

-- 4, 5 of the zone, then 6 of the state
pub data ZoneOrStateReason (z : Zone) (s : State) : (number index : ℕ) → Type 0 where
  of_zone : {number index : ℕ} → ZoneReason z number index → ZoneOrStateReason z s number index
  of_state : {number index : ℕ} → zone_test z ≡ ok tt → StateReason z s number index → ZoneOrStateReason z s number index

-- then 7 to 9 of the conditions, or what P says of those that pass
pub data AfterTests (fixed : FixedRate) (z : Zone) (s : State) (bytes : List ℕ) (P : Conditions → (number index : ℕ) → Type 0) : (number index : ℕ) → Type 0 where
  before : {number index : ℕ} → ZoneOrStateReason z s number index → AfterTests fixed z s bytes P number index
  of_conditions : {number index : ℕ} → zone_test z ≡ ok tt → state_test z s ≡ ok tt → ConditionsReason fixed z bytes number index
      → AfterTests fixed z s bytes P number index
  after : {h : Conditions} {number index : ℕ} → tested fixed z s bytes ≡ ok h → P h number index → AfterTests fixed z s bytes P number index

-- ---- the calls

abbrev pub OperativeReasons : Zone → Type 0
OperativeReasons z = (s : State) → RefusesWhere (ZoneOrStateReason z s) (operative z s)

module _ (c : Coefficients) (z : Zone) where
  abbrev pub DemandReasons : Type 0
  DemandReasons = (fixed : FixedRate) (s : State) (bytes : List ℕ) → RefusesWhere (AfterTests fixed z s bytes (DemandReason c z (slots_of z s))) (demand fixed c z s bytes)

  -- the limits', then the demand's, or those of the solve that meets it
  pub data HourReason (version : ℕ) (l : Limits) (s : State) (h : Conditions) : (number index : ℕ) → Type 0 where
    by_limit_value : has_limits version ≡ true → power_limits_range l ≡ false → HourReason version l s h limit_value 0
    asked : {number index : ℕ} → limits_valid version l ≡ true → DemandReason c z (slots_of z s) h number index
        → HourReason version l s h number index
    met : {d : Demand} {number index : ℕ} → limits_valid version l ≡ true → space_heat_cool_demand c z (slots_of z s) h ≡ ok d
        → SolveReason c z (slots_of z s) h (gains_heat_cool h +ᶠ delivered_by version l h d) (convective_share version h (delivered_by version l h d) (gains_heat_cool h +ᶠ delivered_by version l h d)) d.ach_cooling number index
        → HourReason version l s h number index

  -- the version's 18 stands between the zone's 4, 5 and all others
  pub data HourStepReason (fixed : FixedRate) (version : ℕ) (l : Limits) (s : State) (bytes : List ℕ) : (number index : ℕ) → Type 0 where
    in_hour_zone : {number index : ℕ} → ZoneReason z number index → HourStepReason fixed version l s bytes number index
    by_false_entry : zone_test z ≡ ok tt → hour_version version ≡ false → HourStepReason fixed version l s bytes false_entry 0
    of_version : {number index : ℕ} → zone_test z ≡ ok tt → hour_version version ≡ true → AfterTests fixed z s bytes (HourReason version l s) number index
        → HourStepReason fixed version l s bytes number index

  abbrev pub HourReasons : Type 0
  HourReasons = (fixed : FixedRate) (version : ℕ) (l : Limits) (s : State) (bytes : List ℕ) → RefusesWhere (HourStepReason fixed version l s bytes) (hour_step fixed c z version l s bytes)

  -- 9 of its own gains, fraction and rate, index 0, then its solve's
  pub data UpdateReason (s : State) (gains fraction ach : Float) (h : Conditions) : (number index : ℕ) → Type 0 where
    by_conditions_value : (gains_range gains && fraction_range fraction && rate_range ach) ≡ false → UpdateReason s gains fraction ach h conditions_value 0
    in_step : {number index : ℕ} → (gains_range gains && fraction_range fraction && rate_range ach) ≡ true
        → SolveReason c z (slots_of z s) h gains fraction ach number index → UpdateReason s gains fraction ach h number index

  abbrev pub UpdateReasons : Type 0
  UpdateReasons = (s : State) (bytes : List ℕ) (gains fraction ach : Float)
      → RefusesWhere (AfterTests Retired z s bytes (UpdateReason s gains fraction ach)) (update_temperatures c z s bytes gains fraction ach)

  -- 4, 5 of the zone; then those of a pass within the limit, after n passes that did not settle; or the limit (Specification, Passes)
  pub data StartUpReason : (number index : ℕ) → Type 0 where
    in_zone : {number index : ℕ} → ZoneReason z number index → StartUpReason number index
    in_pass : {n number index : ℕ} {t : List Float} → zone_test z ≡ ok tt → Unsettled c z n (slots_of z (start_state z)) t → n < z.start_up_limit
        → DemandReason c z t (start_up_conditions z) number index → StartUpReason number index
    -- of the solve that meets a pass's demand
    in_meeting : {n number index : ℕ} {t : List Float} {d : Demand} → zone_test z ≡ ok tt → Unsettled c z n (slots_of z (start_state z)) t
        → n < z.start_up_limit
        → space_heat_cool_demand c z t (start_up_conditions z) ≡ ok d
        → SolveReason c z t (start_up_conditions z) (delivered (start_up_conditions z) d) (decimal 4 1) zero64 number index → StartUpReason number index
    by_not_settled : {t : List Float} → zone_test z ≡ ok tt → LimitUnsettled c z t → StartUpReason not_settled 0

  abbrev pub StartUpReasons : Type 0
  StartUpReasons = RefusesWhere StartUpReason (init_node_temps c z)
