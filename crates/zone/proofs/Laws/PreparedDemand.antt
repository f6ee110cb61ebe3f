-- The demand of an hour that is prepared (specs/Inner/Demand.antt, Hour.antt) against the definitions: each part hands on the last column of the rate
-- that it leaves, and that rate is valid.
use Rattle.std.proofs.Common.{◌≡◌, refl, Bool, true, false, cond, not, ◌&&◌, List, ℕ, Float}
use Rattle.std.specs.Prelude.{None, Option, Some}
use mathlib.Core.Path.{fun_ext}
use lib.Ieee.{lt, ne}
use Rattle.solver.specs.Closeness.{close_in_windows_test}
use Rattle.solver.specs.Result.{Result, ok, refused, bind, require}
use Rattle.solver.specs.FastSolver.{at_most24}
use Rattle.zone.specs.declared.record.zone_record.Zone.{Zone}
use Rattle.zone.specs.declared.format.conditions.Conditions.{Conditions}
use Rattle.zone.specs.declared.format.conditions.AirChangesPerHourArgument.{AirChangesPerHourArgument}
use Rattle.zone.specs.declared.format.conditions.AirChangesPerHourArgument.TheVariants.{Cooling, TargetAndWindowsOpen}
use Rattle.zone.specs.declared.calls.state.Demand.{Demand}
use Rattle.zone.specs.declared.hour.windows.VentilationChoice.{VentilationChoice}
use Rattle.zone.specs.declared.hour.load.HeatCoolLoad.{HeatCoolLoad}
use Rattle.zone.specs.declared.hour.hour.Meeting.{Meeting}
use Rattle.zone.specs.declared.physics.balance.HeatCoolGains.{HeatCoolGains}
use Rattle.zone.specs.Physics.Slots.{air}
use Rattle.zone.specs.Physics.System.{area_el_total}
use Rattle.zone.specs.Physics.Ventilation.{calc_vent_heat_transfer_coeff}
use Rattle.zone.specs.Hour.Demand.{control_temperature, ventilated, ach_target, wanted, gains_heat_cool, gains_upper, frac_conv_gains_heat_cool, frac_upper, temperatures_with, free_temperatures, ach_to_reach, calc_cooling_potential_from_ventilation, demand_for_load, space_heat_cool_demand}
use Rattle.zone.specs.Inner.Operative.{areas_of, control_by}
use Rattle.zone.specs.Inner.Solves.{hour_system}
use Rattle.zone.specs.Inner.Prepared.{Prepared, last_in, rate_valid, free_in, solved_in, prepare}
use Rattle.zone.specs.Inner.Demand.{
  zone_temperatures,
  rate_to_reach,
  windows_cool,
  cool_by_windows,
  with_choice,
  choose_rate,
  cooling_potential,
  loaded_demand,
  demand_from_free,
  demand_in,
}
use Rattle.zone.specs.Inner.Hour.{met_load, update_in, met_in, demand_met_in, met_with, demand_solved}
use Rattle.zone.proofs.Laws.Assembled.{control_by_lem}
use Rattle.zone.proofs.Laws.Prepared.{prepared_is, load_at, accepted_valid}
use Rattle.zone.proofs.Laws.Demand.{towards_rate}
use Rattle.zone.specs.declared.record.building_element.Coefficients.{Coefficients}

module _ (co : Coefficients) where
  module _ (z : Zone) (t : List Float) (h : Conditions) where
    abbrev p : Prepared
    p = prepare (hour_system co z t h)

    abbrev last : Float → List Float
    last ach = last_in p (calc_vent_heat_transfer_coeff z.volume ach)

    abbrev control : List Float → Float
    control = control_temperature z

    -- an answer with the last column of its rate, which is valid, or the same refusal
    data Handed {A : Type 0} (rate : A → Float) : Result (A × List Float) → Result A → Type 0 where
      hands : (x : A) → rate_valid p (last (rate x)) ≡ true → Handed rate (ok (x, last (rate x))) (ok x)
      refuses : (number index : ℕ) → Handed rate (refused number index) (refused number index)

    module _ {A : Type 0} (rate : A → Float) where
      handed_if : (b : Bool) (r r' : Result (A × List Float)) (x x' : Result A) → Handed rate r x → Handed rate r' x' → Handed rate (cond b r r') (cond b x x')
      handed_if true r r' x x' u v = u
      handed_if false r r' x x' u v = v

      handed_ok_if : (b : Bool) (x x' : A) (l l' : List Float) → Handed rate (ok (x, l)) (ok x) → Handed rate (ok (x', l')) (ok x') →
          Handed rate (ok (cond b (x, l) (x', l'))) (ok (cond b x x'))
      handed_ok_if true x x' l l' u v = u
      handed_ok_if false x x' l l' u v = v

      handed_is : (r : Result (A × List Float)) (x : Result A) → Handed rate r x → r ≡ bind x (λ y. ok (y, last (rate y)))
      handed_is r x (hands y k) = refl
      handed_is r x (refuses number index) = refl

      module _ {B : Type 0} where
        handed_on : (rate' : B → Float) (r : Result (A × List Float)) (x : Result A) (f : A × List Float → Result (B × List Float)) (g : A → Result B) →
            Handed rate r x → ((y : A) → rate_valid p (last (rate y)) ≡ true → Handed rate' (f (y, last (rate y))) (g y)) → Handed rate' (bind r f) (bind x g)
        handed_on rate' r x f g (hands y k) on = on y k
        handed_on rate' r x f g (refuses number index) on = refuses number index

        handed_same : (r : Result (A × List Float)) (x : Result A) (f : A × List Float → Result B) (g : A → Result B) →
            Handed rate r x → ((y : A) → rate_valid p (last (rate y)) ≡ true → f (y, last (rate y)) ≡ g y) → bind r f ≡ bind x g
        handed_same r x f g (hands y k) same = same y k
        handed_same r x f g (refuses number index) same = refl

    require_on : {A : Type 0} (rate : A → Float) (b : Bool) (number : ℕ) (r : Result (A × List Float)) (x : Result A) → Handed rate r x →
        Handed rate (bind (require b number) (λ _. r)) (bind (require b number) (λ _. x))
    require_on rate true number r x u = u
    require_on rate false number r x u = refuses number 0

    abbrev chosen : VentilationChoice → Float
    chosen v = v.ach_cooling

    abbrev demand_rate : Demand → Float
    demand_rate d = d.ach_cooling

    -- a calculation at a rate
    solved_at : (gains fraction ach : Float) →
        Handed (λ (_ : List Float). ach) (solved_in p z.volume gains fraction ach) (temperatures_with co z t h gains fraction ach)
    solved_at gains fraction ach = rw (prepared_is co z t h gains fraction ach) (by (temperatures_with co z t h gains fraction ach) refl)
      where
        by : (x : Result (List Float)) → temperatures_with co z t h gains fraction ach ≡ x →
            Handed (λ (_ : List Float). ach) (bind x (λ y. ok (y, last ach))) x
        by (ok y) e = hands y (accepted_valid co z t h gains fraction ach y e)
        by (refused number index) e = refuses number index

    free_at_lem : (ach : Float) → Handed (λ (_ : List Float). ach) (free_in p z.volume h ach) (free_temperatures co z t h ach)
    free_at_lem ach = solved_at (gains_heat_cool h) (frac_conv_gains_heat_cool h) ach

    -- the rate that windows need, or the target rate
    abbrev too_warm : List Float → Bool
    too_warm extra = lt h.temp_setpnt_cool (control extra) && not (close_in_windows_test (control extra) h.temp_setpnt_cool)

    cool_at : (target temp_free ach : Float) (trigger : Option Float) → rate_valid p (last target) ≡ true →
        Handed chosen (cool_by_windows p z.volume control h target temp_free ach trigger (last target))
        (bind (free_temperatures co z t h ach) λ extra.
        ok (cond (too_warm extra) (ventilated temp_free target trigger) (ventilated (control extra) ach trigger)))
    unfolding cool_by_windows
    cool_at target temp_free ach trigger k =
        handed_on (λ _. ach) chosen _ _ _ _ (free_at_lem ach) λ extra k'.
        handed_ok_if chosen (too_warm extra) (ventilated temp_free target trigger) (ventilated (control extra) ach trigger) (last target) (last ach)
        (hands (ventilated temp_free target trigger) k) (hands (ventilated (control extra) ach trigger) k')

    -- `calc_cooling_potential_from_ventilation`, from the last column of the rate without windows
    potential_at : (free : List Float) (a : AirChangesPerHourArgument) → rate_valid p (last (ach_target a)) ≡ true →
        Handed chosen (cooling_potential p z.volume control h (zone_temperatures control free) a (last (ach_target a)))
        (calc_cooling_potential_from_ventilation co z t h free a)
    unfolding cooling_potential choose_rate with_choice windows_cool rate_to_reach ach_to_reach calc_cooling_potential_from_ventilation
    potential_at free (Cooling ach) k = hands (ventilated (control free) ach None) k
    potential_at free (TargetAndWindowsOpen target windows_open) k =
        handed_if chosen (ne windows_open target) _ _ _ _
        (handed_on (λ _. windows_open) chosen _ _ _ _ (free_at_lem windows_open) λ vent_max _.
        let reach = ach_to_reach co z t h target windows_open free vent_max in
        let trigger = Some (reach h.temp_setpnt_heat) in
        handed_if chosen (lt (control vent_max) (control free) && lt h.temp_setpnt_cool_vent (control free) && lt h.avg_air_supply_temp (air free)) _ _ _ _
        (cool_at target (control free) (reach h.temp_setpnt_cool_vent) trigger k)
        (hands (ventilated (control free) target trigger) k))
        (hands (ventilated (control free) target None) k)

    -- `demand_for_load`, by the last column of the chosen rate
    loaded_at : (v : VentilationChoice) (w : Option HeatCoolLoad) → rate_valid p (last (chosen v)) ≡ true →
        loaded_demand p z.volume control h v w (last (chosen v)) ≡ demand_for_load co z t h v w
    unfolding loaded_demand demand_for_load
    loaded_at v None k = refl
    loaded_at v (Some w) k = rw (load_at co z t h (gains_upper h w.load) (frac_upper h w.load w.fraction) (chosen v) k) refl

    -- its rate is the chosen one
    demanded_at : (v : VentilationChoice) (w : Option HeatCoolLoad) → rate_valid p (last (chosen v)) ≡ true →
        Handed demand_rate (bind (loaded_demand p z.volume control h v w (last (chosen v))) (λ d. ok (d, last (chosen v)))) (demand_for_load co z t h v w)
    demanded_at v w k = rw (loaded_at v w k) (by (demand_for_load co z t h v w) refl)
      where
        by : (x : Result Demand) → demand_for_load co z t h v w ≡ x → Handed demand_rate (bind x (λ d. ok (d, last (chosen v)))) x
        by (ok d) e =
            let same : d.ach_cooling ≡ v.ach_cooling = towards_rate co z t h v w d e in
            rw (← same) (hands d (rw same k))
        by (refused number index) e = refuses number index

    -- from the temperatures at the rate without windows, on
    abbrev from_free : List Float → Result Demand
    from_free free =
        bind (calc_cooling_potential_from_ventilation co z t h free h.ach_args) λ v.
        demand_for_load co z t h v (wanted z.useful_area h v.temp_free)

    from_at : (free : List Float) → rate_valid p (last (ach_target h.ach_args)) ≡ true →
        Handed demand_rate (demand_from_free p z.volume control h z.useful_area (zone_temperatures control free) (last (ach_target h.ach_args))) (from_free free)
    unfolding demand_from_free
    from_at free k =
        handed_on chosen demand_rate _ _ _ _ (potential_at free h.ach_args k) λ v k'.
        demanded_at v (wanted z.useful_area h v.temp_free) k'

    demand_at : Handed demand_rate (demand_in p z.volume control h z.useful_area) (space_heat_cool_demand co z t h)
    unfolding demand_in space_heat_cool_demand
    demand_at =
        require_on demand_rate (not (lt h.temp_setpnt_cool h.temp_setpnt_heat)) 10 _ _
        (require_on demand_rate (not (lt h.temp_setpnt_cool_vent h.temp_setpnt_heat)) 11 _ _
        (handed_on (λ _. ach_target h.ach_args) demand_rate _ _
        (λ x. demand_from_free p z.volume control h z.useful_area (zone_temperatures control x.0) x.1) from_free
        (free_at_lem (ach_target h.ach_args)) from_at))

    pub prepared_demand : demand_in p z.volume control h z.useful_area ≡ bind (space_heat_cool_demand co z t h) (λ d. ok (d, last d.ach_cooling))
    prepared_demand = handed_is demand_rate _ _ demand_at

    -- the last calculation
    met_at : (d : Demand) (m : Option HeatCoolGains) (before : List Float) → rate_valid p (last d.ach_cooling) ≡ true →
        met_in p z.volume d (last d.ach_cooling) m before ≡ met_with co z t h d m before
    met_at d None before k = refl
    met_at d (Some g) before k = load_at co z t h g.gains_heat_cool g.f_hc_c d.ach_cooling k

    pub met_solved : (meeting : Meeting) (before : List Float) →
        demand_met_in p z.volume control h z.useful_area meeting before ≡ demand_solved co z t h meeting before
    unfolding demand_met_in demand_solved
    met_solved meeting before =
        handed_same demand_rate (demand_in p z.volume control h z.useful_area) (space_heat_cool_demand co z t h) _ _ demand_at
        (λ d k. rw (met_at d (met_load h d meeting) before k) refl)

    pub update_solved : (g : HeatCoolGains) (ach : Float) → update_in p z.volume g ach ≡ temperatures_with co z t h g.gains_heat_cool g.f_hc_c ach
    unfolding update_in
    update_solved g ach = go (temperatures_with co z t h g.gains_heat_cool g.f_hc_c ach) (prepared_is co z t h g.gains_heat_cool g.f_hc_c ach)
      where
        go : (y : Result (List Float)) → solved_in p z.volume g.gains_heat_cool g.f_hc_c ach ≡ bind y (λ x. ok (x, last ach)) → update_in p z.volume g ach ≡ y
        go (ok x) e = rw e refl
        go (refused n i) e = rw e refl

  -- the temperature that the setpoints are held against, from the areas of its elements
  pub control_is : (z : Zone) (area : List Float) (total : Float) → area ≡ areas_of z → total ≡ area_el_total (at_most24 z.count) z.building_elements →
      control_by z.temp_setpnt_basis z.count area total ≡ control_temperature z
  control_is z area total area_is total_is = rw (area_is, total_is) (fun_ext (control_by_lem co z))
