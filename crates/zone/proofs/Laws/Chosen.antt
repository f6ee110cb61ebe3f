-- The rate that ventilation leaves and the load that is tried, as the reasons of a refusal name them (specs/Claims/Reasons.antt), are those of the definitions.
use Rattle.std.proofs.Common.{ℕ, ◌≡◌, refl, ap, subst, ◌∙◌, Bool, true, false, List, arith, Float}
use Rattle.std.specs.Prelude.{Option, Some, None}
use lib.Ieee.{ne, lt}
use Rattle.solver.specs.Result.{Result, ok}
use Rattle.solver.specs.Closeness.{close_in_demand}
use Rattle.solver.proofs.Promise.{bind_ok, ok_inj}
use Rattle.zone.specs.declared.record.building_element.Coefficients.{Coefficients}
use Rattle.zone.specs.declared.record.zone_record.Zone.{Zone}
use Rattle.zone.specs.declared.format.conditions.Conditions.{Conditions}
use Rattle.zone.specs.declared.format.conditions.AirChangesPerHourArgument.{AirChangesPerHourArgument}
use Rattle.zone.specs.declared.format.conditions.AirChangesPerHourArgument.TheVariants.{Cooling, TargetAndWindowsOpen}
use Rattle.zone.specs.declared.hour.windows.VentilationChoice.{VentilationChoice}
use Rattle.zone.specs.declared.hour.load.HeatCoolLoad.{HeatCoolLoad}
use Rattle.zone.specs.Hour.Demand.{ach_target, ventilated, wanted, free_temperatures, ach_to_reach, calc_cooling_potential_from_ventilation}
use Rattle.zone.specs.Claims.Why.{Windows, rate_found}
use Rattle.zone.specs.Claims.Reasons.{would_cool, too_warm, Chosen, at_fixed_rate, at_equal_rates, not_cooling, not_enough, at_rate_found, Wanted, wanted_cooling, wanted_heating}

-- ---- the load

module _ (z : Zone) (h : Conditions) (temp_free : Float) where
  abbrev AsLoad : HeatCoolLoad → Type 0
  AsLoad x = Wanted z h temp_free x.load x.fraction

  -- of a load that is wanted
  pub wanted_of : (w : HeatCoolLoad) → wanted z.useful_area h temp_free ≡ Some w → Wanted z h temp_free w.load w.fraction
  unfolding wanted
  wanted_of w k = go _ _ _ refl refl refl
    where
      none : {a : Option HeatCoolLoad} → a ≡ None → a ≡ Some w → AsLoad w
      none p q = let x : ◌≡◌ {A = ℕ} 0 1 = cc in absurd (omega arith)

      some : (x : HeatCoolLoad) → Some x ≡ Some w → AsLoad x → AsLoad w
      some x q a = let same : x ≡ w = cc in subst AsLoad same a

      go : (b1 b2 b3 : Bool) → lt h.temp_setpnt_cool temp_free ≡ b1 → close_in_demand temp_free h.temp_setpnt_cool ≡ b2 → lt temp_free h.temp_setpnt_heat ≡ b3 → AsLoad w
      go true false b3 p q r = some _ (rw (p, q) at k) (wanted_cooling p q)
      go false false true p q r = some _ (rw (p, q, r) at k) (wanted_heating p r q)
      go true true true p q r = none refl (rw (p, q, r) at k)
      go true true false p q r = none refl (rw (p, q, r) at k)
      go false false false p q r = none refl (rw (p, q, r) at k)
      go false true true p q r = none refl (rw (p, q, r) at k)
      go false true false p q r = none refl (rw (p, q, r) at k)

  -- towards its setpoint
  pub wanted_is : {load fraction : Float} → Wanted z h temp_free load fraction
      → (setpoint : Float) × (wanted z.useful_area h temp_free ≡ Some (record { setpoint = setpoint; load = load; fraction = fraction }))
  unfolding wanted
  wanted_is (wanted_cooling p q) = (h.temp_setpnt_cool, rw (p, q) refl)
  wanted_is (wanted_heating p r q) = (h.temp_setpnt_heat, rw (p, r, q) refl)

-- ---- the rate

module _ (c : Coefficients) (z : Zone) (t : List Float) (h : Conditions) where
  abbrev As : VentilationChoice → Type 0
  As v = Chosen c z t h v.temp_free v.ach_cooling

  module _ (free : List Float) (v : VentilationChoice) where
    fixed_of : (ach : Float) → h.ach_args ≡ Cooling ach → free_temperatures c z t h ach ≡ ok free
        → calc_cooling_potential_from_ventilation c z t h free (Cooling ach) ≡ ok v → As v
    unfolding calc_cooling_potential_from_ventilation
    fixed_of ach e f k = subst As (ok_inj k) (at_fixed_rate e f)

    module _ (target windows_open : Float) (e : h.ach_args ≡ TargetAndWindowsOpen target windows_open) (f : free_temperatures c z t h target ≡ ok free)
        (k : calc_cooling_potential_from_ventilation c z t h free (TargetAndWindowsOpen target windows_open) ≡ ok v) where
      module _ (o : ne windows_open target ≡ true) (vent_max : List Float) (g : free_temperatures c z t h windows_open ≡ ok vent_max) where
        abbrev windows : Windows c z t h
        windows = record { target = target; windows_open = windows_open; given = e; free = free; at_target = f; vent_max = vent_max; at_open = g }

        enough_of : (u : would_cool c z t h windows ≡ true) (extra : List Float) (x : free_temperatures c z t h (rate_found c z t h windows) ≡ ok extra)
            → (b : Bool) → too_warm c z t h extra ≡ b → As v
        unfolding calc_cooling_potential_from_ventilation
        enough_of u extra x true p = subst As (ok_inj (rw (o, g, u, x, p) at k)) (not_enough windows o u x p)
        enough_of u extra x false p = subst As (ok_inj (rw (o, g, u, x, p) at k)) (at_rate_found windows o u x p)

        cool_of : (b : Bool) → would_cool c z t h windows ≡ b → As v
        unfolding calc_cooling_potential_from_ventilation
        cool_of false u = subst As (ok_inj (rw (o, g, u) at k)) (not_cooling windows o u)
        cool_of true u =
            let extra = bind_ok (free_temperatures c z t h (rate_found c z t h windows)) _ v (rw (o, g, u) at k) in
            enough_of u extra.0 extra.1 _ refl

      rates_of : (b : Bool) → ne windows_open target ≡ b → As v
      unfolding calc_cooling_potential_from_ventilation
      rates_of false o = subst As (ok_inj (rw o at k)) (at_equal_rates e o f)
      rates_of true o =
          let vent_max = bind_ok (free_temperatures c z t h windows_open) _ v (rw o at k) in
          cool_of o vent_max.0 vent_max.1 _ refl

    pub chosen_of : (a : AirChangesPerHourArgument) → h.ach_args ≡ a → free_temperatures c z t h (ach_target a) ≡ ok free
        → calc_cooling_potential_from_ventilation c z t h free a ≡ ok v → As v
    chosen_of (Cooling ach) e f k = fixed_of ach e f k
    chosen_of (TargetAndWindowsOpen target windows_open) e f k = rates_of target windows_open e f k _ refl

  -- what is chosen
  pub record Choice (temp_free ach : Float) : Type 0 where
    pub free : List Float
    pub solved : free_temperatures c z t h (ach_target h.ach_args) ≡ ok free
    pub trigger : Option Float
    pub chosen : calc_cooling_potential_from_ventilation c z t h free h.ach_args ≡ ok (ventilated temp_free ach trigger)

  -- with the rates that are given
  abbrev solved_by : (ach_args : AirChangesPerHourArgument) → Result (List Float)
  solved_by ach_args = free_temperatures c z t h (ach_target ach_args)

  abbrev chosen_by : (free : List Float) (ach_args : AirChangesPerHourArgument) → Result VentilationChoice
  chosen_by free ach_args = calc_cooling_potential_from_ventilation c z t h free ach_args

  pub target_solved : {target windows_open : Float} {free : List Float} → h.ach_args ≡ TargetAndWindowsOpen target windows_open → free_temperatures c z t h target ≡ ok free
      → free_temperatures c z t h (ach_target h.ach_args) ≡ ok free
  target_solved e f = ap solved_by e ∙ f

  -- of windows that are looked at
  windows_chosen : (w : Windows c z t h) {temp_free ach : Float}
      → chosen_by w.free (TargetAndWindowsOpen w.target w.windows_open) ≡ ok (ventilated temp_free ach (Some (ach_to_reach c z t h w.target w.windows_open w.free w.vent_max h.temp_setpnt_heat)))
      → Choice temp_free ach
  windows_chosen w e =
      record {
        free = w.free;
        solved = target_solved w.given w.at_target;
        trigger = Some (ach_to_reach c z t h w.target w.windows_open w.free w.vent_max h.temp_setpnt_heat);
        chosen = ap (chosen_by w.free) w.given ∙ e;
      }

  pub chosen_is : {temp_free ach : Float} → Chosen c z t h temp_free ach → Choice temp_free ach
  unfolding calc_cooling_potential_from_ventilation
  chosen_is (at_fixed_rate {free = free} e f) = record { free = free; solved = ap solved_by e ∙ f; trigger = None; chosen = ap (chosen_by free) e }
  chosen_is (at_equal_rates {free = free} e o f) = record { free = free; solved = target_solved e f; trigger = None; chosen = ap (chosen_by free) e ∙ rw o refl }
  chosen_is (not_cooling w o u) = windows_chosen w (rw (o, w.at_open, u) refl)
  chosen_is (not_enough w o u x p) = windows_chosen w (rw (o, w.at_open, u, x, p) refl)
  chosen_is (at_rate_found w o u x p) = windows_chosen w (rw (o, w.at_open, u, x, p) refl)
