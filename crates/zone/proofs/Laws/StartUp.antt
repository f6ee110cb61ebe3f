-- Start-up: when its temperatures are close, its passes, and what is left of them.
use Rattle.std.proofs.Common.{◌≡◌, refl, sym, ap, subst, ◌∙◌, T, true, false, not, ◌&&◌, List, [], ◌∷◌, ℕ, ◌+◌, ◌-◌, ◌<◌, ◌≤◌, arith, Float}
use Rattle.std.specs.Prelude.{None}
use lib.Ieee.{lt}
use Rattle.std.specs.Prelude.{Ok, Err}
use Rattle.std.specs.Prelude as Rust
use Rattle.std.specs.List.{list_all, zip}
use Rattle.solver.specs.F64.{decimal, zero64}
use Rattle.solver.specs.Closeness as Closeness
use Rattle.solver.specs.Result.{Result, ok, refused, bind, require}
use Rattle.solver.proofs.Promise.{bind_ok}
use Rattle.zone.specs.declared.record.zone_record.Zone.{Zone}
use Rattle.zone.specs.declared.format.conditions.Conditions.{Conditions}
use Rattle.zone.specs.declared.format.conditions.AirChangesPerHourArgument.{AirChangesPerHourArgument}
use Rattle.zone.specs.declared.format.conditions.AirChangesPerHourArgument.TheVariants.{Cooling}
use Rattle.zone.proofs.Laws.Lists.{one_left}
use Rattle.zone.specs.declared.calls.state.Demand.{Demand}
use Rattle.zone.specs.declared.record.refusal.Refusal.{Refusal}
use Rattle.zone.specs.declared.hour.windows.VentilationChoice.{VentilationChoice}
use Rattle.zone.specs.declared.calls.state.State.{State}
use Rattle.zone.specs.Calls.State.{state_of}
use Rattle.zone.specs.Hour.Demand.{ach_target, control_temperature, free_temperatures, temperatures_with, ventilated, calc_cooling_potential_from_ventilation, wanted, space_heat_cool_demand}
use Rattle.zone.specs.Calls.Hour.{delivered}
use Rattle.zone.specs.Calls.StartUp.{start_up_conditions, all_close, pass, settle}
use Rattle.zone.specs.declared.hour.hour.Meeting.TheVariants.{Alone}
use Rattle.zone.specs.Answers.{answered_with}
use Rattle.zone.specs.Inner.Hour.{demand_solved, ends, settled_state}
use Rattle.zone.proofs.Laws.Demand.{towards_rate}
use Rattle.zone.specs.Record.Numbers as Number
use Rattle.zone.specs.declared.record.building_element.Coefficients.{Coefficients}

module _ (co : Coefficients) where
  -- ---- the comparison of two vectors, as an iterator's `all` makes it

  pub all_close_is : (a b : List Float) → list_all (λ p. Closeness.isclose p.0 p.1) (zip a b) ≡ all_close a b
  unfolding all_close
  all_close_is [] b = refl
  all_close_is (x ∷ a) [] = refl
  all_close_is (x ∷ a) (y ∷ b) = ap (λ t. Closeness.isclose x y && t) (all_close_is a b)

  -- ---- a pass

  -- the demand of a fixed rate chooses that rate
  potential_rate : (z : Zone) (t : List Float) (h : Conditions) (ach : Float) (free : List Float) (v : VentilationChoice)
      → calc_cooling_potential_from_ventilation co z t h free (Cooling ach) ≡ ok v → v.ach_cooling ≡ ach
  unfolding calc_cooling_potential_from_ventilation
  potential_rate z t h ach free v e =
      let p : ventilated (control_temperature z free) ach None ≡ v = cc in
      sym (ap (λ (y : VentilationChoice). y.ach_cooling) p)

  fixed_rate_lem : (z : Zone) (t : List Float) (h : Conditions) (ach : Float) → h.ach_args ≡ Cooling ach
      → (d : Demand) → space_heat_cool_demand co z t h ≡ ok d → d.ach_cooling ≡ ach
  unfolding space_heat_cool_demand
  fixed_rate_lem z t h ach fixed d e =
      let ten = bind_ok (require (not (lt h.temp_setpnt_cool h.temp_setpnt_heat)) Number.cooling_below_heating) _ d e in
      let eleven = bind_ok (require (not (lt h.temp_setpnt_cool_vent h.temp_setpnt_heat)) Number.ventilation_below_heating) _ d ten.2 in
      let free = bind_ok (free_temperatures co z t h (ach_target h.ach_args)) _ d eleven.2 in
      let v = bind_ok (calc_cooling_potential_from_ventilation co z t h free.0 h.ach_args) _ d free.2 in
      towards_rate co z t h v.0 (wanted z.useful_area h v.0.temp_free) d v.2
      ∙ potential_rate z t h ach free.0 v.0 (sym (ap (λ (a : AirChangesPerHourArgument). calc_cooling_potential_from_ventilation co z t h free.0 a) fixed) ∙ v.1)

  start_rate : (z : Zone) (h : Conditions) → h ≡ start_up_conditions z → h.ach_args ≡ Cooling zero64
  unfolding start_up_conditions
  start_rate z h e = ap (λ (y : Conditions). y.ach_args) e

  start_fraction : (z : Zone) (h : Conditions) → h ≡ start_up_conditions z → h.frac_convective_heat ≡ decimal 4 1
  unfolding start_up_conditions
  start_fraction z h e = ap (λ (y : Conditions). y.frac_convective_heat) e

  module _ (z : Zone) (t : List Float) (h : Conditions) (h_is : h ≡ start_up_conditions z) (before : List Float) where
    pass_solved : pass co z t ≡ bind (demand_solved co z t h Alone before) λ u. ok u.1
    unfolding pass demand_solved
    pass_solved = go (space_heat_cool_demand co z t h) refl
      where
        last : (d : Demand) → space_heat_cool_demand co z t h ≡ ok d → (y : Result (List Float))
            → temperatures_with co z t h (delivered h d) (decimal 4 1) zero64 ≡ y
            → temperatures_with co z t h (delivered h d) h.frac_convective_heat d.ach_cooling ≡ y
            → pass co z t ≡ bind (demand_solved co z t h Alone before) λ u. ok u.1
        last d p (ok after) q r = rw (← h_is, p, q, r) refl
        last d p (refused n i) q r = rw (← h_is, p, q, r) refl

        go : (x : Result Demand) → space_heat_cool_demand co z t h ≡ x → pass co z t ≡ bind (demand_solved co z t h Alone before) λ u. ok u.1
        go (ok d) p =
            last d p _
            (ap (λ (f : Float). temperatures_with co z t h (delivered h d) f zero64) (sym (start_fraction z h h_is))
            ∙ ap (temperatures_with co z t h (delivered h d) h.frac_convective_heat) (sym (fixed_rate_lem z t h zero64 (start_rate z h h_is) d p)))
            refl
        go (refused n i) p = rw (← h_is, p) refl

  -- ---- the passes

  module _ (z : Zone) (limit : ℕ) (t₀ t : List Float) (passes : ℕ)
      (left : settle co z limit t₀ ≡ settle co z (limit - passes) t) where
    abbrev settled : Result State
    settled = bind (settle co z limit t₀) λ u. ok (state_of z u)

    pub settle_at_limit : limit ≤ passes → refused Number.not_settled 0 ≡ settled
    unfolding settle
    settle_at_limit h = let e : limit - passes ≡ 0 = omega arith in rw (left, e) refl

    module _ (more : passes < limit) (before after : List Float) where
      -- its last pass, and one that is not
      pub settle_ends : (a : Rust.Result Demand Refusal) → answered_with a after ≡ demand_solved co z t (start_up_conditions z) Alone before
          → ends z t (answered_with a after) ≡ true → settled_state z (answered_with a t) ≡ settled
      unfolding settle
      settle_ends (Ok d) solved k = rw (left, one_left limit passes more, pass_solved z t _ refl before, ← solved, k) refl
      settle_ends (Err e) solved k = rw (left, one_left limit passes more, pass_solved z t _ refl before, ← solved) refl

      pub settle_next : (a : Rust.Result Demand Refusal) → answered_with a after ≡ demand_solved co z t (start_up_conditions z) Alone before
          → ends z t (answered_with a after) ≡ false → settle co z limit t₀ ≡ settle co z (limit - (passes + 1)) after
      unfolding settle
      settle_next (Ok d) solved k = left ∙ rw (one_left limit passes more, pass_solved z t _ refl before, ← solved, k) refl
      settle_next (Err e) solved k = absurd (subst T k tt)
