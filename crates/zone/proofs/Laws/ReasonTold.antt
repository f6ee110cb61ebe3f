-- The reason of an accepted demand is the earliest of the list that holds, and tells the rate that the demand chose.
use Rattle.std.proofs.Common.{ℕ, ◌≡◌, refl, sym, ap, subst, ◌∙◌, Bool, true, false, ◌&&◌, List, ◌∷◌, arith, Float}
use lib.Ieee.{lt, eq, ne}
use Rattle.solver.specs.Result.{Result, ok}
use Rattle.solver.specs.Closeness.{close_in_windows_test}
use Rattle.solver.proofs.Promise.{bind_ok, ok_inj, clash}
use Rattle.zone.specs.declared.record.building_element.Coefficients.{Coefficients}
use Rattle.zone.specs.declared.record.zone_record.Zone.{Zone}
use Rattle.zone.specs.declared.format.conditions.Conditions.{Conditions}
use Rattle.zone.specs.declared.format.conditions.AirChangesPerHourArgument.{AirChangesPerHourArgument}
use Rattle.zone.specs.declared.format.conditions.AirChangesPerHourArgument.TheVariants.{Cooling, TargetAndWindowsOpen}
use Rattle.zone.specs.declared.calls.state.Demand.{Demand}
use Rattle.zone.specs.declared.calls.state.Reason.{Reason}
use Rattle.zone.specs.declared.calls.state.Reason.TheVariants.{NoChoice, NotAboveVentilationSetpoint, NotAboveSupply, WindowsDoNotCool, StillAboveCoolingSetpoint, WindowsEnough}
use Rattle.zone.specs.declared.hour.windows.VentilationChoice.{VentilationChoice}
use Rattle.zone.specs.Physics.Slots.{air}
use Rattle.zone.specs.Hour.Demand.{control_temperature, ach_target, free_temperatures, calc_cooling_potential_from_ventilation, space_heat_cool_demand}
use Rattle.zone.specs.Calls.Why.{reason_for}
use Rattle.zone.specs.Claims.Why.{reasons, Earliest, this, later, Windows, rate_found, Holds, fixed_rate, equal_rates, free_not_above, air_not_above, not_lowered, still_above, enough}
use Rattle.zone.proofs.Laws.Demand.{by_rate, demand_made}

is_enough : Reason → Bool
is_enough NoChoice = false
is_enough NotAboveVentilationSetpoint = false
is_enough NotAboveSupply = false
is_enough WindowsDoNotCool = false
is_enough StillAboveCoolingSetpoint = false
is_enough WindowsEnough = true

other : (r : Reason) → is_enough r ≡ false → r ≡ WindowsEnough → ⊥
unfolding is_enough
other r k e = clash (is_enough r) (rw e refl) k

pub is_enough_lem : (r : Reason) → ((r ≡ WindowsEnough → ⊥) → ⊥) → r ≡ WindowsEnough
unfolding is_enough
is_enough_lem NoChoice f = absurd (f (other NoChoice refl))
is_enough_lem NotAboveVentilationSetpoint f = absurd (f (other NotAboveVentilationSetpoint refl))
is_enough_lem NotAboveSupply f = absurd (f (other NotAboveSupply refl))
is_enough_lem WindowsDoNotCool f = absurd (f (other WindowsDoNotCool refl))
is_enough_lem StillAboveCoolingSetpoint f = absurd (f (other StillAboveCoolingSetpoint refl))
is_enough_lem WindowsEnough f = refl

module _ (c : Coefficients) (z : Zone) (t : List Float) (h : Conditions) where
  abbrev freely : (ach : Float) → Result (List Float)
  freely ach = free_temperatures c z t h ach

  abbrev control : List Float → Float
  control = control_temperature z

  abbrev Held : Reason → Type 0
  Held = Holds c z t h

  -- two readings of one choice are one
  pub record Alike (w w' : Windows c z t h) : Type 0 where
    pub targets : w.target ≡ w'.target
    pub opens : w.windows_open ≡ w'.windows_open
    pub frees : w.free ≡ w'.free
    pub vent_maxes : w.vent_max ≡ w'.vent_max

  alike : (w w' : Windows c z t h) → Alike w w'
  alike w w' =
      let e : TargetAndWindowsOpen w.target w.windows_open ≡ TargetAndWindowsOpen w'.target w'.windows_open = sym w.given ∙ w'.given in
      let p : w.target ≡ w'.target = cc in
      let q : w.windows_open ≡ w'.windows_open = cc in
      record {
        targets = p;
        opens = q;
        frees = ok_inj (sym w.at_target ∙ ap freely p ∙ w'.at_target);
        vent_maxes = ok_inj (sym w.at_open ∙ ap freely q ∙ w'.at_open);
      }

  pub found_alike : (w w' : Windows c z t h) → rate_found c z t h w ≡ rate_found c z t h w'
  found_alike w w' =
      let a = alike w w' in
      rw (a.targets, a.opens, a.frees, a.vent_maxes) refl

  -- a reason does not hold where its test says so
  free_above : (free : List Float) → freely (ach_target h.ach_args) ≡ ok free → lt h.temp_setpnt_cool_vent (control free) ≡ true → Held NotAboveVentilationSetpoint → ⊥
  free_above free e k (free_not_above e' k') =
      clash (lt h.temp_setpnt_cool_vent (control free)) k (subst (λ (x : List Float). lt h.temp_setpnt_cool_vent (control x) ≡ false) (ok_inj (sym e' ∙ e)) k')

  air_above : (free : List Float) → freely (ach_target h.ach_args) ≡ ok free → lt h.avg_air_supply_temp (air free) ≡ true → Held NotAboveSupply → ⊥
  air_above free e k (air_not_above e' k') =
      clash (lt h.avg_air_supply_temp (air free)) k (subst (λ (x : List Float). lt h.avg_air_supply_temp (air x) ≡ false) (ok_inj (sym e' ∙ e)) k')

  lowered : (w : Windows c z t h) → lt (control w.vent_max) (control w.free) ≡ true → Held WindowsDoNotCool → ⊥
  lowered w k (not_lowered w' k') =
      let a = alike w' w in
      clash (lt (control w.vent_max) (control w.free)) k (rw (a.vent_maxes, a.frees) at k')

  module _ (w : Windows c z t h) (extra : List Float) (e : freely (rate_found c z t h w) ≡ ok extra) where
    same_extra : (w' : Windows c z t h) (extra' : List Float) → freely (rate_found c z t h w') ≡ ok extra' → extra' ≡ extra
    same_extra w' extra' e' = ok_inj (sym e' ∙ ap freely (found_alike w' w) ∙ e)

    not_still : lt h.temp_setpnt_cool (control extra) ≡ false → Held StillAboveCoolingSetpoint → ⊥
    not_still k (still_above w' {extra = extra'} e' l m) =
        clash (lt h.temp_setpnt_cool (control extra)) (subst (λ (x : List Float). lt h.temp_setpnt_cool (control x) ≡ true) (same_extra w' extra' e') l) k

    close_still : close_in_windows_test (control extra) h.temp_setpnt_cool ≡ true → Held StillAboveCoolingSetpoint → ⊥
    close_still k (still_above w' {extra = extra'} e' l m) =
        clash (close_in_windows_test (control extra) h.temp_setpnt_cool) k (subst (λ (x : List Float). close_in_windows_test (control x) h.temp_setpnt_cool ≡ false) (same_extra w' extra' e') m)

  -- a reason that is named, with what it tells of a rate
  pub record Named (rate : Float) : Type 0 where
    pub reason : Reason
    pub named : reason_for c z t h h.ach_args ≡ ok reason
    pub earliest : Earliest Held reasons reason
    pub found : reason ≡ WindowsEnough → (w : Windows c z t h) × (rate ≡ rate_found c z t h w)
    pub target : (reason ≡ WindowsEnough → ⊥) → rate ≡ ach_target h.ach_args

  -- the target is chosen
  stays : (rate : Float) (reason : Reason) → is_enough reason ≡ false → reason_for c z t h h.ach_args ≡ ok reason → Earliest Held reasons reason → rate ≡ ach_target h.ach_args → Named rate
  stays rate reason k named earliest e = record { reason = reason; named = named; earliest = earliest; found = λ q. absurd (other reason k q); target = λ _. e }

  module _ (v : VentilationChoice) (free : List Float) (at_target : freely (ach_target h.ach_args) ≡ ok free) where
    -- a fixed rate
    named_fixed : (ach : Float) → h.ach_args ≡ Cooling ach → calc_cooling_potential_from_ventilation c z t h free (Cooling ach) ≡ ok v → Named v.ach_cooling
    unfolding is_enough calc_cooling_potential_from_ventilation reason_for
    named_fixed ach e k =
        stays v.ach_cooling NoChoice refl (ap (reason_for c z t h) e) (this (fixed_rate e))
        (sym (ap (λ (x : VentilationChoice). x.ach_cooling) (ok_inj k)) ∙ sym (ap ach_target e))

    module _ (target windows_open : Float) (e : h.ach_args ≡ TargetAndWindowsOpen target windows_open)
        (k : calc_cooling_potential_from_ventilation c z t h free (TargetAndWindowsOpen target windows_open) ≡ ok v) where
      free_at_lem : freely target ≡ ok free
      free_at_lem = sym (ap (λ (a : AirChangesPerHourArgument). freely (ach_target a)) e) ∙ at_target

      named_equal : eq windows_open target ≡ true → Named v.ach_cooling
      unfolding is_enough calc_cooling_potential_from_ventilation reason_for ne
      named_equal p =
          stays v.ach_cooling NoChoice refl (ap (reason_for c z t h) e ∙ rw (p) refl) (this (equal_rates e p))
          (sym (ap (λ (x : VentilationChoice). x.ach_cooling) (ok_inj (rw p at k))) ∙ sym (ap ach_target e))

      module _ (p : eq windows_open target ≡ false) where
        unequal : Held NoChoice → ⊥
        unequal (fixed_rate {ach = ach} e') = let q : Cooling ach ≡ TargetAndWindowsOpen target windows_open = sym e' ∙ e in let x : ◌≡◌ {A = ℕ} 0 1 = cc in omega arith
        unequal (equal_rates {target = target'} {windows_open = windows_open'} e' p') =
            let q : TargetAndWindowsOpen target' windows_open' ≡ TargetAndWindowsOpen target windows_open = sym e' ∙ e in
            let a : target' ≡ target = cc in
            let b : windows_open' ≡ windows_open = cc in
            clash (eq windows_open target) (rw (a, b) at p') p

        module _ (vent_max : List Float) (at_open : freely windows_open ≡ ok vent_max) where
          abbrev windows : Windows c z t h
          windows = record { target = target; windows_open = windows_open; given = e; free = free; at_target = free_at_lem; vent_max = vent_max; at_open = at_open }

          abbrev Vent : Bool → Type 0
          Vent b = lt h.temp_setpnt_cool_vent (control free) ≡ b

          abbrev Supply : Bool → Type 0
          Supply b = lt h.avg_air_supply_temp (air free) ≡ b

          abbrev Open : Bool → Type 0
          Open b = lt (control vent_max) (control free) ≡ b

          -- the windows are used where they cool
          module _ (p1 : Vent true) (p2 : Supply true) (p3 : Open true) (extra : List Float) (at_found : freely (rate_found c z t h windows) ≡ ok extra) where
            abbrev Above : Bool → Type 0
            Above b = lt h.temp_setpnt_cool (control extra) ≡ b

            abbrev Close : Bool → Type 0
            Close b = close_in_windows_test (control extra) h.temp_setpnt_cool ≡ b

            none_before : {r : Reason} {rest : List Reason} → Earliest Held rest r → Earliest Held (NoChoice ∷ NotAboveVentilationSetpoint ∷ NotAboveSupply ∷ WindowsDoNotCool ∷ rest) r
            none_before x = later unequal (later (free_above free at_target p1) (later (air_above free at_target p2) (later (lowered windows p3) x)))

            named_still : Above true → Close false → Named v.ach_cooling
            unfolding is_enough calc_cooling_potential_from_ventilation reason_for ne
            named_still p4 p5 =
                stays v.ach_cooling StillAboveCoolingSetpoint refl
                (ap (reason_for c z t h) e ∙ rw (p, free_at_lem, p1, p2, at_open, p3, at_found, p4, p5) refl)
                (none_before (this (still_above windows at_found p4 p5)))
                (sym (ap (λ (x : VentilationChoice). x.ach_cooling) (ok_inj (rw (p, at_open, p1, p2, p3, at_found, p4, p5) at k))) ∙ sym (ap ach_target e))

            -- where the test of the rate found says that it is enough
            enough_named : reason_for c z t h h.ach_args ≡ ok WindowsEnough → (Held StillAboveCoolingSetpoint → ⊥) → v.ach_cooling ≡ rate_found c z t h windows → Named v.ach_cooling
            enough_named named off r =
                record { reason = WindowsEnough; named = named; earliest = none_before (later off (this enough)); found = λ _. (windows, r); target = λ q. absurd (q refl) }

            named_below : Above false → Named v.ach_cooling
            unfolding calc_cooling_potential_from_ventilation reason_for ne
            named_below p4 =
                enough_named (ap (reason_for c z t h) e ∙ rw (p, free_at_lem, p1, p2, at_open, p3, at_found, p4) refl) (not_still windows extra at_found p4)
                (sym (ap (λ (x : VentilationChoice). x.ach_cooling) (ok_inj (rw (p, at_open, p1, p2, p3, at_found, p4) at k))))

            named_close : Above true → Close true → Named v.ach_cooling
            unfolding calc_cooling_potential_from_ventilation reason_for ne
            named_close p4 p5 =
                enough_named (ap (reason_for c z t h) e ∙ rw (p, free_at_lem, p1, p2, at_open, p3, at_found, p4, p5) refl) (close_still windows extra at_found p5)
                (sym (ap (λ (x : VentilationChoice). x.ach_cooling) (ok_inj (rw (p, at_open, p1, p2, p3, at_found, p4, p5) at k))))

            named_found : (b4 b5 : Bool) → Above b4 → Close b5 → Named v.ach_cooling
            named_found false b5 p4 p5 = named_below p4
            named_found true false p4 p5 = named_still p4 p5
            named_found true true p4 p5 = named_close p4 p5

          named_used : Vent true → Supply true → Open true → Named v.ach_cooling
          unfolding calc_cooling_potential_from_ventilation ne
          named_used p1 p2 p3 =
              let extra = bind_ok (freely (rate_found c z t h windows)) _ v (rw (p, at_open, p1, p2, p3) at k) in
              named_found p1 p2 p3 extra.0 extra.1 _ _ refl refl

          -- they are not where a test before says so
          unused : (b1 b2 b3 : Bool) → Vent b1 → Supply b2 → Open b3 → (b3 && b1 && b2) ≡ false → v.ach_cooling ≡ ach_target h.ach_args
          unfolding calc_cooling_potential_from_ventilation ne
          unused b1 b2 b3 p1 p2 p3 off = sym (ap (λ (x : VentilationChoice). x.ach_cooling) (ok_inj (rw (p, at_open, p1, p2, p3, off) at k))) ∙ sym (ap ach_target e)

          named_vent : (b2 b3 : Bool) → Vent false → Supply b2 → Open b3 → (b3 && false && b2) ≡ false → Named v.ach_cooling
          unfolding is_enough reason_for
          named_vent b2 b3 p1 p2 p3 off =
              stays v.ach_cooling NotAboveVentilationSetpoint refl (ap (reason_for c z t h) e ∙ rw (p, free_at_lem, p1) refl)
              (later unequal (this (free_not_above at_target p1))) (unused false b2 b3 p1 p2 p3 off)

          named_supply : (b3 : Bool) → Vent true → Supply false → Open b3 → (b3 && true && false) ≡ false → Named v.ach_cooling
          unfolding is_enough reason_for
          named_supply b3 p1 p2 p3 off =
              stays v.ach_cooling NotAboveSupply refl (ap (reason_for c z t h) e ∙ rw (p, free_at_lem, p1, p2) refl)
              (later unequal (later (free_above free at_target p1) (this (air_not_above at_target p2)))) (unused true false b3 p1 p2 p3 off)

          named_open : Vent true → Supply true → Open false → Named v.ach_cooling
          unfolding is_enough reason_for
          named_open p1 p2 p3 =
              stays v.ach_cooling WindowsDoNotCool refl (ap (reason_for c z t h) e ∙ rw (p, free_at_lem, p1, p2, at_open, p3) refl)
              (later unequal (later (free_above free at_target p1) (later (air_above free at_target p2) (this (not_lowered windows p3))))) (unused true true false p1 p2 p3 refl)

          named_by : (b1 b2 b3 : Bool) → Vent b1 → Supply b2 → Open b3 → Named v.ach_cooling
          named_by false b2 false p1 p2 p3 = named_vent b2 false p1 p2 p3 refl
          named_by false b2 true p1 p2 p3 = named_vent b2 true p1 p2 p3 refl
          named_by true false false p1 p2 p3 = named_supply false p1 p2 p3 refl
          named_by true false true p1 p2 p3 = named_supply true p1 p2 p3 refl
          named_by true true false p1 p2 p3 = named_open p1 p2 p3
          named_by true true true p1 p2 p3 = named_used p1 p2 p3

        named_unequal : Named v.ach_cooling
        unfolding calc_cooling_potential_from_ventilation ne
        named_unequal =
            let vent_max = bind_ok (freely windows_open) _ v (rw p at k) in
            named_by vent_max.0 vent_max.1 _ _ _ refl refl refl

      named_choice : (b : Bool) → eq windows_open target ≡ b → Named v.ach_cooling
      named_choice true p = named_equal p
      named_choice false p = named_unequal p

    named_for : (a : AirChangesPerHourArgument) → h.ach_args ≡ a → calc_cooling_potential_from_ventilation c z t h free a ≡ ok v → Named v.ach_cooling
    named_for (Cooling ach) e k = named_fixed ach e k
    named_for (TargetAndWindowsOpen target windows_open) e k = named_choice target windows_open e k _ refl

  -- of an accepted demand
  pub named_of : (d : Demand) → space_heat_cool_demand c z t h ≡ ok d → Named d.ach_cooling
  named_of d e =
      let m = demand_made c z t h d e in
      let kept : m.choice.ach_cooling ≡ d.ach_cooling = sym (by_rate m.kwh m.choice) ∙ ap (λ (x : Demand). x.ach_cooling) m.made in
      subst Named kept (named_for m.choice m.free m.solved _ refl m.chosen)
