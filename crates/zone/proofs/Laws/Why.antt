-- The temperatures of free.rt, the tests of reason.rt as the definition has them, and the ways out of why.rt.
use Rattle.std.proofs.Common.{ℕ, min, ◌≡◌, refl, ◌∙◌, Bool, true, false, cond, not, ◌&&◌, List, take, Float}
use lib.Ieee.{lt, eq}
use Rattle.solver.specs.Result.{Result, ok, refused, bind}
use Rattle.solver.specs.Sums.{sum2}
use Rattle.solver.specs.Closeness.{close_in_windows_test}
use Rattle.zone.specs.declared.record.zone_record.Zone.{Zone}
use Rattle.zone.specs.declared.format.conditions.Conditions.{Conditions}
use Rattle.zone.specs.declared.format.conditions.AirChangesPerHourArgument.{AirChangesPerHourArgument}
use Rattle.zone.specs.declared.format.conditions.AirChangesPerHourArgument.TheVariants.{Cooling, TargetAndWindowsOpen}
use Rattle.zone.specs.declared.calls.state.Demand.{Demand}
use Rattle.zone.specs.declared.calls.state.Reason.{Reason}
use Rattle.zone.specs.declared.calls.state.Load.{Load}
use Rattle.zone.specs.declared.hour.hour.Meeting.TheVariants.{NotMet}
use Rattle.zone.specs.declared.hour.windows.ZoneTemperatures.{ZoneTemperatures}
use Rattle.zone.specs.Hour.Demand.{control_temperature, free_temperatures, ach_to_reach}
use Rattle.zone.specs.Calls.Why.{load_of, reason_for, why_of}
use Rattle.zone.specs.Inner.Operative.{areas_of, control_by}
use Rattle.zone.specs.Inner.Demand.{zone_temperatures, rate_to_reach}
use Rattle.zone.specs.Inner.Hour.{demand_solved}
use Rattle.zone.specs.Inner.Why.{free_at, found_reason, open_reason, choice_reason, reason_in}
use Rattle.zone.proofs.Laws.Assembled.{control_by_lem}
use Rattle.zone.proofs.Laws.Counts.{min_24}
use Rattle.zone.proofs.Laws.Zones.{areas_total}
use Rattle.zone.proofs.Laws.Hour.{demand_solved_lem}
use Rattle.zone.specs.declared.record.building_element.Coefficients.{Coefficients}

module _ (co : Coefficients) where
  -- ---- free.rt

  pub temperatures_of_lem : (z : Zone) (t : List Float) (n : ℕ) → n ≡ min z.count 24 → (area : List Float) → area ≡ areas_of z → (total : Float) → total ≡ sum2 (take n area)
      → (x : ZoneTemperatures) → x ≡ zone_temperatures (control_by z.temp_setpnt_basis z.count area total) t → x ≡ zone_temperatures (control_temperature z) t
  temperatures_of_lem z t n n_is area area_is total total_is x e = e ∙ rw (total_is, area_is, n_is, min_24 z.count, areas_total z, control_by_lem co z t) refl

  -- ---- reason.rt

  -- the parts are the definition's
  bind_same : {A B : Type 0} (x : Result A) (f g : A → Result B) → ((a : A) → f a ≡ g a) → bind x f ≡ bind x g
  bind_same (ok a) f g e = e a
  bind_same (refused number index) f g e = refl

  bind_each : {A B C : Type 0} (x : Result A) (g : A → B) (f : B → Result C) → bind (bind x λ a. ok (g a)) f ≡ bind x λ a. f (g a)
  bind_each (ok a) g f = refl
  bind_each (refused n i) g f = refl

  cond_each : {A : Type 0} (b : Bool) (x y y' : A) → y ≡ y' → cond b x y ≡ cond b x y'
  cond_each b x y y' e = rw e refl

  ok_cond : {A : Type 0} (b : Bool) (x y : A) → ◌≡◌ {A = Result A} (ok (cond b x y)) (cond b (ok x) (ok y))
  ok_cond true x y = refl
  ok_cond false x y = refl

  module _ (z : Zone) (t : List Float) (h : Conditions) where
    abbrev freely : (ach : Float) → Result (List Float)
    freely ach = free_temperatures co z t h ach

    pub reason_in_lem : (args : AirChangesPerHourArgument) → reason_in co z t h args ≡ reason_for co z t h args
    unfolding reason_in reason_for choice_reason open_reason found_reason free_at rate_to_reach ach_to_reach
    reason_in_lem (Cooling ach) = refl
    reason_in_lem (TargetAndWindowsOpen target windows_open) =
        cond_each (eq windows_open target) _ _ _
        (bind_each (freely target) _ _ ∙ bind_same (freely target) _ _ λ free.
        cond_each (not (lt h.temp_setpnt_cool_vent (control_temperature z free))) _ _ _
        (cond_each (not (lt h.avg_air_supply_temp _)) _ _ _
        (bind_each (freely windows_open) _ _ ∙ bind_same (freely windows_open) _ _ λ vent_max.
        cond_each (not (lt (control_temperature z vent_max) (control_temperature z free))) _ _ _
        (bind_each (freely _) _ _ ∙ bind_same (freely _) _ _ λ extra.
        ok_cond (lt h.temp_setpnt_cool (control_temperature z extra) && not (close_in_windows_test (control_temperature z extra) h.temp_setpnt_cool)) _ _))))

  -- ---- why.rt

  module _ (z : Zone) (t : List Float) (h : Conditions) (before : List Float) where
    pub why_not_asked : (n i : ℕ) → refused n i ≡ demand_solved co z t h NotMet before → refused n i ≡ why_of co z t h
    unfolding why_of
    why_not_asked n i solved = rw (demand_solved_lem co z t h before, ← solved) refl

    module _ (d : Demand) (after : List Float) (solved : ok (d, after) ≡ demand_solved co z t h NotMet before) where
      pub why_no_reason : (n i : ℕ) → refused n i ≡ reason_in co z t h h.ach_args → refused n i ≡ why_of co z t h
      unfolding why_of
      why_no_reason n i told = rw (demand_solved_lem co z t h before, ← solved, ← reason_in_lem z t h h.ach_args, ← told) refl

      pub why_answered : (reason : Reason) (load : Load) → ok reason ≡ reason_in co z t h h.ach_args → load ≡ load_of d → ok (reason, load) ≡ why_of co z t h
      unfolding why_of
      why_answered reason load told p = rw (demand_solved_lem co z t h before, ← solved, ← reason_in_lem z t h h.ach_args, ← told, p) refl
