-- The load beside a reason, by the demand's numbers: heating, cooling, or neither exactly where both are zero.
use Rattle.std.proofs.Common.{ℕ, ◌≡◌, refl, subst, Bool, true, false, List, arith, Float}
use lib.Ieee.{lt}
use Rattle.solver.specs.F64.{zero64}
use Rattle.solver.specs.Result.{ok}
use Rattle.solver.proofs.Promise.{clash, lt_irreflexive}
use Rattle.zone.specs.declared.record.building_element.Coefficients.{Coefficients}
use Rattle.zone.specs.declared.record.zone_record.Zone.{Zone}
use Rattle.zone.specs.declared.format.conditions.Conditions.{Conditions}
use Rattle.zone.specs.declared.calls.state.Demand.{Demand}
use Rattle.zone.specs.declared.hour.windows.VentilationChoice.{VentilationChoice}
use Rattle.zone.specs.Hour.Demand.{demand_record, space_heat_cool_demand}
use Rattle.zone.specs.Calls.Why.{load_of}
use Rattle.zone.specs.Claims.Why.{LoadTold}
use Rattle.zone.proofs.Laws.Demand.{demand_made}

-- zero is not below itself, so a number that is below or above it is another
below_no_zero : (x : Float) → lt x zero64 ≡ true → x ≡ zero64 → ⊥
below_no_zero x k e = clash (lt zero64 zero64) (rw e at k) (lt_irreflexive zero64)

above_no_zero : (x : Float) → lt zero64 x ≡ true → x ≡ zero64 → ⊥
above_no_zero x k e = clash (lt zero64 zero64) (rw e at k) (lt_irreflexive zero64)

module _ (d : Demand) where
  told_heating : lt zero64 d.space_heat_demand ≡ true → d.space_cool_demand ≡ zero64 → LoadTold d (load_of d)
  unfolding load_of
  told_heating k e =
      subst (LoadTold d) (rw k refl) (record {
        heating = (λ _. k, λ _. refl);
        cooling = (λ q. absurd (let x : ◌≡◌ {A = ℕ} 0 1 = cc in omega arith), λ q. absurd (below_no_zero d.space_cool_demand q e));
        neither = (λ q. absurd (let x : ◌≡◌ {A = ℕ} 0 1 = cc in omega arith), λ q. absurd (above_no_zero d.space_heat_demand k q.0));
      })

  told_cooling : d.space_heat_demand ≡ zero64 → lt d.space_cool_demand zero64 ≡ true → LoadTold d (load_of d)
  unfolding load_of
  told_cooling e k =
      subst (LoadTold d) (rw (e, lt_irreflexive zero64, k) refl) (record {
        heating = (λ q. absurd (let x : ◌≡◌ {A = ℕ} 0 1 = cc in omega arith), λ q. absurd (above_no_zero d.space_heat_demand q e));
        cooling = (λ _. k, λ _. refl);
        neither = (λ q. absurd (let x : ◌≡◌ {A = ℕ} 0 1 = cc in omega arith), λ q. absurd (below_no_zero d.space_cool_demand k q.1));
      })

  told_neither : d.space_heat_demand ≡ zero64 → d.space_cool_demand ≡ zero64 → LoadTold d (load_of d)
  unfolding load_of
  told_neither e f =
      subst (LoadTold d) (rw (e, f, lt_irreflexive zero64) refl) (record {
        heating = (λ q. absurd (let x : ◌≡◌ {A = ℕ} 0 1 = cc in omega arith), λ q. absurd (above_no_zero d.space_heat_demand q e));
        cooling = (λ q. absurd (let x : ◌≡◌ {A = ℕ} 0 1 = cc in omega arith), λ q. absurd (below_no_zero d.space_cool_demand q f));
        neither = (λ _. (e, f), λ _. refl);
      })

load_by : (kwh : Float) (v : VentilationChoice) → LoadTold (demand_record kwh v) (load_of (demand_record kwh v))
unfolding demand_record
load_by kwh v = go _ _ refl refl
  where
    go : (b a : Bool) → lt kwh zero64 ≡ b → lt zero64 kwh ≡ a → LoadTold (demand_record kwh v) (load_of (demand_record kwh v))
    go true a p q = told_cooling (demand_record kwh v) (rw p refl) (rw p p)
    go false true p q = told_heating (demand_record kwh v) (rw (p, q) q) (rw p refl)
    go false false p q = told_neither (demand_record kwh v) (rw (p, q) refl) (rw p refl)

pub load_told : (c : Coefficients) (z : Zone) (t : List Float) (h : Conditions) (d : Demand) → space_heat_cool_demand c z t h ≡ ok d → LoadTold d (load_of d)
load_told c z t h d e =
    let m = demand_made c z t h d e in
    subst (λ (x : Demand). LoadTold x (load_of x)) m.made (load_by m.kwh m.choice)
