-- A solve and a demand are refused whenever there is a reason.
use Rattle.std.proofs.Common.{ℕ, ◌≡◌, refl, ap, ◌∙◌, true, false, List, Float}
use lib.Ieee.{ne, lt}
use Rattle.solver.specs.F64.{◌-ᶠ◌, zero64}
use Rattle.solver.specs.Closeness.{close_in_demand}
use Rattle.solver.specs.FastSolver.{solve}
use Rattle.solver.specs.Result.{ok, refused}
use Rattle.zone.specs.declared.record.building_element.Coefficients.{Coefficients}
use Rattle.zone.specs.declared.record.zone_record.Zone.{Zone}
use Rattle.zone.specs.declared.format.conditions.Conditions.{Conditions}
use Rattle.zone.specs.declared.format.conditions.AirChangesPerHourArgument.TheVariants.{TargetAndWindowsOpen}
use Rattle.zone.specs.Physics.CalcTemperatures.{calc_temperatures}
use Rattle.zone.specs.Record.Numbers as Number
use Rattle.zone.specs.Hour.Demand.{delta_t, control_temperature, ach_target, gains_upper, frac_upper, interp_heat_cool_demand, temperatures_with, free_temperatures, calc_cooling_potential_from_ventilation, demand_for_load, space_heat_cool_demand}
use Rattle.zone.specs.Claims.Why.{Windows, rate_found}
use Rattle.zone.specs.Claims.Reasons.{SetpointsPass, SolveReason, by_divisor, by_temperature, would_cool, Chosen, Wanted, DemandSolve, at_target, at_open, between, loaded, DemandReason, by_cooling_below_heating, by_ventilation_below_heating, in_solve, by_no_effect}
use Rattle.zone.proofs.Laws.Chosen.{wanted_is, target_solved, chosen_is}

module _ (c : Coefficients) (z : Zone) (t : List Float) (h : Conditions) where
  pub solve_whenever : {gains fraction ach : Float} (number index : ℕ) → SolveReason c z t h gains fraction ach number index
      → calc_temperatures c z t h (delta_t h) gains fraction ach ≡ refused number index
  unfolding calc_temperatures solve
  solve_whenever number index (by_divisor e) = rw e refl
  solve_whenever number index (by_temperature d e) = rw (d, e) refl

  module _ (b : SetpointsPass h) (number index : ℕ) where
    free_refused : free_temperatures c z t h (ach_target h.ach_args) ≡ refused number index → space_heat_cool_demand c z t h ≡ refused number index
    unfolding space_heat_cool_demand
    free_refused e = rw (b.cooling, b.ventilation, e) refl

    choice_refused : {target windows_open : Float} {free : List Float} → h.ach_args ≡ TargetAndWindowsOpen target windows_open → free_temperatures c z t h target ≡ ok free
        → calc_cooling_potential_from_ventilation c z t h free (TargetAndWindowsOpen target windows_open) ≡ refused number index
        → space_heat_cool_demand c z t h ≡ refused number index
    unfolding space_heat_cool_demand
    choice_refused {free = free} e f p =
        let q : calc_cooling_potential_from_ventilation c z t h free h.ach_args ≡ refused number index = ap (calc_cooling_potential_from_ventilation c z t h free) e ∙ p in
        rw (b.cooling, b.ventilation, target_solved c z t h e f, q) refl

    open_refused : (target windows_open : Float) (free : List Float) → ne windows_open target ≡ true → free_temperatures c z t h windows_open ≡ refused number index
        → calc_cooling_potential_from_ventilation c z t h free (TargetAndWindowsOpen target windows_open) ≡ refused number index
    unfolding calc_cooling_potential_from_ventilation
    open_refused target windows_open free o p = rw (o, p) refl

    between_refused : (w : Windows c z t h) → ne w.windows_open w.target ≡ true → would_cool c z t h w ≡ true
        → free_temperatures c z t h (rate_found c z t h w) ≡ refused number index
        → calc_cooling_potential_from_ventilation c z t h w.free (TargetAndWindowsOpen w.target w.windows_open) ≡ refused number index
    unfolding calc_cooling_potential_from_ventilation
    between_refused w o u p = rw (o, w.at_open, u, p) refl

    loaded_refused : {temp_free ach load fraction : Float} → Chosen c z t h temp_free ach → Wanted z h temp_free load fraction
        → temperatures_with c z t h (gains_upper h load) (frac_upper h load fraction) ach ≡ refused number index
        → space_heat_cool_demand c z t h ≡ refused number index
    unfolding space_heat_cool_demand demand_for_load
    loaded_refused {temp_free} x w p =
        let y = chosen_is c z t h x in
        let s = wanted_is z h temp_free w in
        rw (b.cooling, b.ventilation, y.solved, y.chosen, s.1, p) refl

    solved_refused : {gains fraction ach : Float} → DemandSolve c z t h gains fraction ach → SolveReason c z t h gains fraction ach number index
        → space_heat_cool_demand c z t h ≡ refused number index
    solved_refused at_target p = free_refused (solve_whenever number index p)
    solved_refused (at_open {target = target} {windows_open = windows_open} {free = free} e o f) p =
        choice_refused e f (open_refused target windows_open free o (solve_whenever number index p))
    solved_refused (between w o u) p = choice_refused w.given w.at_target (between_refused w o u (solve_whenever number index p))
    solved_refused (loaded x w) p = loaded_refused x w (solve_whenever number index p)

  cooling_refused : lt h.temp_setpnt_cool h.temp_setpnt_heat ≡ true → space_heat_cool_demand c z t h ≡ refused Number.cooling_below_heating 0
  unfolding space_heat_cool_demand
  cooling_refused e = rw e refl

  ventilation_refused : lt h.temp_setpnt_cool h.temp_setpnt_heat ≡ false → lt h.temp_setpnt_cool_vent h.temp_setpnt_heat ≡ true
      → space_heat_cool_demand c z t h ≡ refused Number.ventilation_below_heating 0
  unfolding space_heat_cool_demand
  ventilation_refused k e = rw (k, e) refl

  no_effect_refused : {temp_free ach load fraction : Float} {upper : List Float} → SetpointsPass h → Chosen c z t h temp_free ach → Wanted z h temp_free load fraction
      → temperatures_with c z t h (gains_upper h load) (frac_upper h load fraction) ach ≡ ok upper
      → close_in_demand (control_temperature z upper -ᶠ temp_free) zero64 ≡ true → space_heat_cool_demand c z t h ≡ refused Number.no_effect 0
  unfolding space_heat_cool_demand demand_for_load interp_heat_cool_demand
  no_effect_refused {temp_free} b x w u k =
      let y = chosen_is c z t h x in
      let s = wanted_is z h temp_free w in
      rw (b.cooling, b.ventilation, y.solved, y.chosen, s.1, u, k) refl

  pub demand_whenever : (number index : ℕ) → DemandReason c z t h number index → space_heat_cool_demand c z t h ≡ refused number index
  demand_whenever number index (by_cooling_below_heating e) = cooling_refused e
  demand_whenever number index (by_ventilation_below_heating k e) = ventilation_refused k e
  demand_whenever number index (in_solve b s p) = solved_refused b number index s p
  demand_whenever number index (by_no_effect b x w u k) = no_effect_refused b x w u k
