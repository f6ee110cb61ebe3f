-- Why this rate, why this load: the statements of specs/Claims/Why.antt.
use Rattle.std.proofs.Common.{ℕ, ◌≡◌, refl, sym, ap, subst, ◌∙◌, ◌↔◌, List, Float}
use Rattle.solver.specs.Result.{Result, ok, refused, bind}
use Rattle.solver.specs.Refusals.{RefusesOnly, accepts, refuses}
use Rattle.solver.proofs.Promise.{bind_ok, bind_is, ok_inj, ok_not_refused}
use Rattle.zone.specs.declared.record.building_element.Coefficients.{Coefficients}
use Rattle.zone.specs.declared.record.zone_record.Zone.{Zone}
use Rattle.zone.specs.declared.format.conditions.Conditions.{Conditions}
use Rattle.zone.specs.declared.format.conditions.FixedRate.TheVariants.{StillTaken}
use Rattle.zone.specs.declared.calls.state.State.{State}
use Rattle.zone.specs.declared.calls.state.Demand.{Demand}
use Rattle.zone.specs.declared.calls.state.Reason.{Reason}
use Rattle.zone.specs.declared.calls.state.Reason.TheVariants.{WindowsEnough}
use Rattle.zone.specs.declared.calls.state.Load.{Load}
use Rattle.zone.specs.Hour.Demand.{ach_target, space_heat_cool_demand}
use Rattle.zone.specs.Calls.State.{slots_of}
use Rattle.zone.specs.Calls.Hour.{tested, demand}
use Rattle.zone.specs.Calls.Why.{load_of, reason_for, why_of, why}
use Rattle.zone.specs.Claims.Refusals.{DemandRefusal}
use Rattle.zone.specs.Claims.Why.{reasons, WhyNumbers, Earliest, Windows, rate_found, Holds, RateTold, LoadTold, WhyAnswers, WhyRefuses}
use Rattle.zone.proofs.Laws.LoadTold.{load_told}
use Rattle.zone.proofs.Laws.ReasonTold.{is_enough_lem, Named, named_of, found_alike}
use Rattle.zone.proofs.Claims.Refusals.{demand_refusals}

module _ (c : Coefficients) (z : Zone) where
  rate_told : (t : List Float) (h : Conditions) (d : Demand) (n : Named c z t h d.ach_cooling) → RateTold c z t h d n.reason
  rate_told t h d n = record { found_chosen = n.found; target_chosen = n.target; exactly = λ w other. (by_rate w other, by_reason w) }
    where
      by_rate : (w : Windows c z t h) → (rate_found c z t h w ≡ ach_target h.ach_args → ⊥) → d.ach_cooling ≡ rate_found c z t h w → n.reason ≡ WindowsEnough
      by_rate w other e = is_enough_lem n.reason λ q. other (sym e ∙ n.target q)

      by_reason : (w : Windows c z t h) → n.reason ≡ WindowsEnough → d.ach_cooling ≡ rate_found c z t h w
      by_reason w q = let f = n.found q in f.1 ∙ found_alike c z t h f.0 w

  pub why_answers : WhyAnswers c z
  unfolding why why_of demand
  why_answers s bytes reason load e =
      let h = bind_ok (tested StillTaken z s bytes) _ (reason, load) e in
      let d = bind_ok (space_heat_cool_demand c z (slots_of z s) h.0) _ (reason, load) h.2 in
      let r = bind_ok (reason_for c z (slots_of z s) h.0 h.0.ach_args) _ (reason, load) d.2 in
      let n = named_of c z (slots_of z s) h.0 d.0 d.1 in
      let same : n.reason ≡ reason = ok_inj (sym n.named ∙ r.1) ∙ ap (λ (x : Reason × Load). x.0) (ok_inj r.2) in
      let beside : load_of d.0 ≡ load = ap (λ (x : Reason × Load). x.1) (ok_inj r.2) in
      record {
        conditions = h.0;
        tests = h.1;
        demanded = d.0;
        asked = bind_is (tested StillTaken z s bytes) _ h.0 _ h.1 d.1;
        earliest = subst (Earliest (Holds c z (slots_of z s) h.0) reasons) same n.earliest;
        rate = subst (RateTold c z (slots_of z s) h.0 d.0) same (rate_told (slots_of z s) h.0 d.0 n);
        load_told = subst (LoadTold d.0) beside (load_told c z (slots_of z s) h.0 d.0 d.1);
      }

  refused_alike : {A B : Type 0} (m k n i : ℕ) → ◌≡◌ {A = Result A} (refused m k) (refused n i) → ◌≡◌ {A = Result B} (refused m k) (refused n i)
  refused_alike m k n i e =
      let a : m ≡ n = cc in
      let b : k ≡ i = cc in
      λ j. refused (a j) (b j)

  -- the demand is refused where `why` is, alike
  answered_alike : {A : Type 0} (x : Result Demand) (f : Demand → Result A) → ((d : Demand) → x ≡ ok d → (a : A) × (f d ≡ ok a)) → (n i : ℕ) → (bind x f ≡ refused n i) ↔ (x ≡ refused n i)
  answered_alike (refused m k) f g n i = (refused_alike m k n i, refused_alike m k n i)
  answered_alike (ok d) f g n i = (λ e. ok_not_refused (g d refl).0 n i (sym (g d refl).1 ∙ e), λ e. ok_not_refused d n i e)

  named_alike : (t : List Float) (h : Conditions) (n i : ℕ) → (why_of c z t h ≡ refused n i) ↔ (space_heat_cool_demand c z t h ≡ refused n i)
  unfolding why_of
  named_alike t h n i =
      answered_alike (space_heat_cool_demand c z t h) _ (λ d e. let k = named_of c z t h d e in ((k.reason, load_of d), rw k.named refl)) n i

  pub why_refuses : WhyRefuses c z
  unfolding why demand
  why_refuses s bytes n i = go (tested StillTaken z s bytes) refl
    where
      go : (x : Result Conditions) → tested StillTaken z s bytes ≡ x → (why c z s bytes ≡ refused n i) ↔ (demand StillTaken c z s bytes ≡ refused n i)
      go (ok h) e = rw e (named_alike (slots_of z s) h n i)
      go (refused m k) e = rw e (refused_alike m k n i, refused_alike m k n i)

  -- so its refusals are the demand's
  pub why_refusals : (s : State) (bytes : List ℕ) → RefusesOnly DemandRefusal (why c z s bytes)
  why_refusals s bytes = go (why c z s bytes) refl
    where
      of_demand : (n i : ℕ) (x : Result Demand) → RefusesOnly DemandRefusal x → x ≡ refused n i → DemandRefusal n i
      of_demand n i x (accepts a) e = ok_not_refused a n i e
      of_demand n i x (refuses {number = m} {index = k} p) e =
          let a : m ≡ n = cc in
          let b : k ≡ i = cc in
          rw (a, b) at p

      go : (x : Result (Reason × Load)) → why c z s bytes ≡ x → RefusesOnly DemandRefusal x
      go (ok a) e = accepts a
      go (refused n i) e = refuses (of_demand n i (demand StillTaken c z s bytes) (demand_refusals c z StillTaken s bytes) ((why_refuses s bytes n i).0 e))

pub why_numbers : WhyNumbers
why_numbers = record { of_reasons = refl; of_loads = refl }
