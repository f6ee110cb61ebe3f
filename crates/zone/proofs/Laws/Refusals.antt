-- Why a solve and a demand are refused; and what the tests, a demand, a step and a pass of start-up are refused with, by every family that allows
-- what they are made of.
use Rattle.std.proofs.Common.{ℕ, ◌≡◌, refl, sym, ◌∙◌, Bool, true, false, cond, not, ◌&&◌, List, eqb, take, Float}
use Rattle.std.specs.Prelude.{Option, Some, None}
use lib.Ieee.{ne, lt}
use Rattle.solver.specs.F64.{◌-ᶠ◌, zero64}
use Rattle.solver.specs.Closeness.{close_in_demand}
use Rattle.solver.specs.FastSolver.{all_divisors_valid, temperatures_of, temperatures_valid, solve}
use Rattle.solver.specs.Result.{Result, ok, bind, require, require_at}
use Rattle.solver.specs.Refusals.{RefusesOnly, accepts, refuses, SolveRefusal, solve_divisor, solve_temperature}
use Rattle.solver.proofs.Promise.{lt_irreflexive, never, bind_refuses, require_refuses, refuses_also, test_refuses}
use Rattle.zone.specs.declared.record.building_element.Coefficients.{Coefficients}
use Rattle.zone.specs.declared.record.zone_record.Zone.{Zone}
use Rattle.zone.specs.declared.format.conditions.Conditions.{Conditions}
use Rattle.zone.specs.declared.format.limits.Limits.{Limits}
use Rattle.zone.specs.declared.format.conditions.AirChangesPerHourArgument.{AirChangesPerHourArgument}
use Rattle.zone.specs.declared.format.conditions.AirChangesPerHourArgument.TheVariants.{Cooling, TargetAndWindowsOpen}
use Rattle.zone.specs.declared.format.conditions.FixedRate.{FixedRate}
use Rattle.zone.specs.Record.BuildingElement.{node_count}
use Rattle.zone.specs.Claims.HeadRefusals.{ZoneRefusal, ConditionsRefusal}
use Rattle.zone.proofs.Claims.HeadRefusals.{zone_refusals, conditions_refusals}
use Rattle.zone.specs.Physics.CalcTemperatures.{calc_temperatures}
use Rattle.zone.specs.declared.calls.state.State.{State}
use Rattle.zone.specs.declared.hour.windows.VentilationChoice.{VentilationChoice}
use Rattle.zone.specs.declared.hour.load.HeatCoolLoad.{HeatCoolLoad}
use Rattle.zone.specs.Calls.State.{all_within_state_bound, state_test, zone_and_state_test, slots_of}
use Rattle.zone.specs.Calls.Hour.{tested_hour, tested, hour_version, limits_valid, tested_hour_and_limits, tested_step, step}
use Rattle.zone.specs.Hour.Demand.{delta_t, control_temperature, ach_target, wanted, interp_heat_cool_demand, temperatures_with, free_temperatures, calc_cooling_potential_from_ventilation, demand_for_load, space_heat_cool_demand}
use Rattle.zone.specs.Claims.Why.{Windows}
use Rattle.zone.specs.Claims.Reasons.{SetpointsPass, step_matrix, step_right_side, SolveReason, by_divisor, by_temperature, would_cool, Chosen, DemandSolve, at_target, at_open, between, loaded, DemandReason, by_cooling_below_heating, by_ventilation_below_heating, in_solve, by_no_effect}
use Rattle.zone.specs.Calls.StartUp.{start_up_conditions, pass}
use Rattle.zone.proofs.Laws.Chosen.{wanted_of, chosen_of}
use Rattle.zone.specs.Record.Numbers as Number
use Rattle.solver.specs.Numbers as SolveNumber

-- a test that has to hold, and what comes after it, where it holds
pub because :
    {P : ℕ → ℕ → Type 0} {B : Type 0} (test : Bool) (number index : ℕ) (f : Unit {0} → Result B) → (test ≡ false → P number index)
    → (test ≡ true → RefusesOnly P (f tt)) → RefusesOnly P (bind (require_at test number index) f)
because true number index f p q = q refl
because false number index f p q = refuses (p refl)

module _ {P : ℕ → ℕ → Type 0} where
  -- the zone's 4, 5, the state's 6
  pub before_refuses : ((n i : ℕ) → ZoneRefusal n i → P n i) → P Number.state_invalid 0 → (z : Zone) (s : State) → RefusesOnly P (zone_and_state_test z s)
  unfolding zone_and_state_test state_test
  before_refuses zone six z s =
      bind_refuses _ (refuses_also zone (zone_refusals z)) λ _ _.
      require_refuses (eqb s.nodes (node_count z) && all_within_state_bound (take s.nodes s.temps)) Number.state_invalid 0 six

  -- the state's, and the conditions' 7, 8, 9
  tested_hour_refuses : (fixed : FixedRate) → P Number.state_invalid 0 → ((n i : ℕ) → ConditionsRefusal n i → P n i) → (z : Zone) (s : State) (bytes : List ℕ) → RefusesOnly P (tested_hour fixed z s bytes)
  unfolding tested_hour state_test
  tested_hour_refuses fixed six conditions z s bytes =
      test_refuses (eqb s.nodes (node_count z) && all_within_state_bound (take s.nodes s.temps)) Number.state_invalid 0 _ six λ _.
      refuses_also conditions (conditions_refusals fixed z bytes)

  -- before them the zone's
  pub tested_refuses :
      (fixed : FixedRate) → ((n i : ℕ) → ZoneRefusal n i → P n i) → P Number.state_invalid 0 → ((n i : ℕ) → ConditionsRefusal n i → P n i)
      → (z : Zone) (s : State) (bytes : List ℕ) → RefusesOnly P (tested fixed z s bytes)
  unfolding tested
  tested_refuses fixed zone six conditions z s bytes =
      bind_refuses _ (refuses_also zone (zone_refusals z)) λ _ _.
      tested_hour_refuses fixed six conditions z s bytes

  -- and of an hour step the version's 18 and the limits' 19; a version that hours have has no 18
  pub tested_step_refuses :
      (fixed : FixedRate) (z : Zone) (version : ℕ) (l : Limits) (s : State) (bytes : List ℕ)
      → ((n i : ℕ) → ZoneRefusal n i → P n i) → (hour_version version ≡ false → P Number.false_entry 0) → P Number.state_invalid 0
      → ((n i : ℕ) → ConditionsRefusal n i → P n i) → P Number.limit_value 0
      → RefusesOnly P (tested_step fixed z version l s bytes)
  unfolding tested_step tested_hour_and_limits
  tested_step_refuses fixed z version l s bytes zone eighteen six conditions nineteen =
      bind_refuses _ (refuses_also zone (zone_refusals z)) λ _ _.
      because (hour_version version) Number.false_entry 0 _ eighteen λ _.
      bind_refuses _ (tested_hour_refuses fixed six conditions z s bytes) λ h _.
      test_refuses (limits_valid version l) Number.limit_value 0 _ nineteen λ _.
      accepts h

-- a test that has to fail, and what comes after it, where it fails
unless_refuses :
    {P : ℕ → ℕ → Type 0} {B : Type 0} (test : Bool) (number : ℕ) (f : Unit {0} → Result B) → (test ≡ true → P number 0)
    → (test ≡ false → RefusesOnly P (f tt)) → RefusesOnly P (bind (require (not test) number) f)
unless_refuses true number f p q = refuses (p refl)
unless_refuses false number f p q = q refl

-- a choice: its first part starts where the test holds, its second where it fails
pub choice_refuses :
    {P : ℕ → ℕ → Type 0} {A : Type 0} (test : Bool) {x y : Result A} → (test ≡ true → RefusesOnly P x) → (test ≡ false → RefusesOnly P y)
    → RefusesOnly P (cond test x y)
choice_refuses true p q = p refl
choice_refuses false p q = q refl

-- ---- why

pub solve_reasons : (c : Coefficients) (z : Zone) (t : List Float) (h : Conditions) (gains fraction ach : Float)
    → RefusesOnly (SolveReason c z t h gains fraction ach) (calc_temperatures c z t h (delta_t h) gains fraction ach)
unfolding calc_temperatures solve
solve_reasons c z t h gains fraction ach =
    let a = step_matrix c z t h ach in
    let b = step_right_side c z t h gains fraction ach in
    because (all_divisors_valid a) SolveNumber.divisor 0 _ by_divisor λ d.
    because (temperatures_valid a (temperatures_of a b)) SolveNumber.temperature 0 _ (by_temperature d) λ _.
    accepts _

module _ (c : Coefficients) (z : Zone) (t : List Float) (h : Conditions) where
  solves : {gains fraction ach : Float} → SetpointsPass h → DemandSolve c z t h gains fraction ach → RefusesOnly (DemandReason c z t h) (temperatures_with c z t h gains fraction ach)
  solves {gains} {fraction} {ach} b s = refuses_also (λ n i p. in_solve b s p) (solve_reasons c z t h gains fraction ach)

  potential_reasons : SetpointsPass h → (free : List Float) (a : AirChangesPerHourArgument) → h.ach_args ≡ a → free_temperatures c z t h (ach_target a) ≡ ok free
      → RefusesOnly (DemandReason c z t h) (calc_cooling_potential_from_ventilation c z t h free a)
  unfolding calc_cooling_potential_from_ventilation
  potential_reasons b free (Cooling ach) e f = accepts _
  potential_reasons b free (TargetAndWindowsOpen target windows_open) e f =
      choice_refuses (ne windows_open target)
      (λ o.
      bind_refuses _ (solves b (at_open e o f)) λ vent_max v.
      let w : Windows c z t h = record { target = target; windows_open = windows_open; given = e; free = free; at_target = f; vent_max = vent_max; at_open = v } in
      choice_refuses (would_cool c z t h w) (λ u. bind_refuses _ (solves b (between w o u)) λ extra _. accepts _) λ _. accepts _)
      λ _. accepts _

  towards_reasons : SetpointsPass h → (v : VentilationChoice) (w : Option HeatCoolLoad) → Chosen c z t h v.temp_free v.ach_cooling → wanted z.useful_area h v.temp_free ≡ w
      → RefusesOnly (DemandReason c z t h) (demand_for_load c z t h v w)
  unfolding demand_for_load interp_heat_cool_demand
  towards_reasons b v None x e = accepts _
  towards_reasons b v (Some w) x e =
      let y = wanted_of z h v.temp_free w e in
      bind_refuses _ (solves b (loaded x y)) λ upper u.
      bind_refuses _ (unless_refuses (close_in_demand (control_temperature z upper -ᶠ v.temp_free) zero64) Number.no_effect _ (λ k. by_no_effect b x y u k) λ _. accepts _) λ kwh _.
      accepts _

  pub demand_reasons : RefusesOnly (DemandReason c z t h) (space_heat_cool_demand c z t h)
  unfolding space_heat_cool_demand
  demand_reasons =
      unless_refuses (lt h.temp_setpnt_cool h.temp_setpnt_heat) Number.cooling_below_heating _ by_cooling_below_heating λ k.
      unless_refuses (lt h.temp_setpnt_cool_vent h.temp_setpnt_heat) Number.ventilation_below_heating _ (by_ventilation_below_heating k) λ l.
      let b : SetpointsPass h = record { cooling = k; ventilation = l } in
      bind_refuses _ (solves b at_target) λ free f.
      bind_refuses _ (potential_reasons b free h.ach_args refl f) λ v e.
      towards_reasons b v (wanted z.useful_area h v.temp_free) (chosen_of c z t h free v h.ach_args refl f e) refl

-- ---- which numbers

module _ {P : ℕ → ℕ → Type 0} (by_solve : (n i : ℕ) → SolveRefusal n i → P n i) (c : Coefficients) (z : Zone) where
  solve_number : {t : List Float} {h : Conditions} {gains fraction ach : Float} (n i : ℕ) → SolveReason c z t h gains fraction ach n i → P n i
  solve_number n i (by_divisor _) = by_solve SolveNumber.divisor 0 solve_divisor
  solve_number n i (by_temperature _ _) = by_solve SolveNumber.temperature 0 solve_temperature

  -- 10, where it can be, 11, then 12, 13, 14
  pub demand_refuses : (t : List Float) (h : Conditions) → P Number.no_effect 0 → (lt h.temp_setpnt_cool h.temp_setpnt_heat ≡ true → P Number.cooling_below_heating 0) → P Number.ventilation_below_heating 0
      → RefusesOnly P (space_heat_cool_demand c z t h)
  demand_refuses t h fourteen ten eleven = refuses_also number (demand_reasons c z t h)
    where
      number : (n i : ℕ) → DemandReason c z t h n i → P n i
      number n i (by_cooling_below_heating e) = ten e
      number n i (by_ventilation_below_heating k e) = eleven
      number n i (in_solve b s p) = solve_number n i p
      number n i (by_no_effect b x w u k) = fourteen

  -- one time step
  pub step_refuses : (s : State) (h : Conditions) (gains fraction ach : Float) → RefusesOnly P (step c z s h gains fraction ach)
  unfolding step
  step_refuses s h gains fraction ach =
      bind_refuses _ (refuses_also solve_number (solve_reasons c z (slots_of z s) h gains fraction ach)) λ t _.
      accepts _

-- a pass of start-up: not 10, its two setpoints are one
pub pass_refuses :
    {P : ℕ → ℕ → Type 0} → P Number.ventilation_below_heating 0 → ((n i : ℕ) → SolveRefusal n i → P n i) → P Number.no_effect 0
    → (c : Coefficients) (z : Zone) (t : List Float) → RefusesOnly P (pass c z t)
unfolding pass start_up_conditions
pass_refuses {P} eleven by_solve fourteen c z t =
    bind_refuses _ (demand_refuses by_solve c z t (start_up_conditions z) fourteen no_ten eleven) λ d _.
    refuses_also (solve_number by_solve c z) (solve_reasons c z t (start_up_conditions z) _ _ _)
  where
    no_ten : lt z.temp_setpnt_init z.temp_setpnt_init ≡ true → P Number.cooling_below_heating 0
    no_ten e = never (sym (lt_irreflexive z.temp_setpnt_init) ∙ e)
