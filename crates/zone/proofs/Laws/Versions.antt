-- The entry versions that hours have, and the tests of an hour step beside those of a demand.
use Rattle.std.proofs.Common.{ℕ, zero, suc, ◌≤◌, ◌≡◌, refl, sym, ◌∙◌, ◌≢◌, Bool, true, false, cond, List, arith, leb, leb-true, le-leb}
use borrow.Author.Tests.{lt-leb}
use Rattle.solver.specs.Result.{Result, ok, refused, require}
use Rattle.solver.proofs.Promise.{bind_ok, require_ok, and_true}
use Rattle.zone.specs.declared.record.zone_record.Zone.{Zone}
use Rattle.zone.specs.declared.format.conditions.Conditions.{Conditions}
use Rattle.zone.specs.declared.format.conditions.FixedRate.{FixedRate}
use Rattle.zone.specs.declared.format.limits.Limits.{Limits}
use Rattle.zone.specs.declared.calls.state.State.{State}
use Rattle.zone.specs.Record.Numbers.{false_entry, limit_value}
use Rattle.zone.specs.Check.ZoneTest.{zone_test}
use Rattle.zone.specs.Calls.Hour.{tested_hour, tested, hour_version, has_limits, power_limits_range, limits_valid, tested_hour_and_limits, tested_step}

-- hours have 1, 2 and 3, and no other
pub hour_version_bounds : (version : ℕ) → hour_version version ≡ true → (1 ≤ version) × (version ≤ 3)
hour_version_bounds version k =
    let b = and_true (leb 1 version) (leb version 3) k in
    (leb-true 1 version b.0, leb-true version 3 b.1)

pub hour_version_not : (version : ℕ) → version ≢ 1 → version ≢ 2 → version ≢ 3 → hour_version version ≡ false
hour_version_not zero a b c = refl
hour_version_not (suc zero) a b c = absurd (a refl)
hour_version_not (suc (suc zero)) a b c = absurd (b refl)
hour_version_not (suc (suc (suc zero))) a b c = absurd (c refl)
hour_version_not (suc (suc (suc (suc n)))) a b c = rw (le-leb 1 (suc (suc (suc (suc n)))) (omega arith), lt-leb (suc (suc (suc (suc n)))) 3 (omega arith)) refl

module _ (fixed : FixedRate) (z : Zone) (version : ℕ) (l : Limits) (s : State) (bytes : List ℕ) where
  -- where the limits pass, the tests of an hour are those of a demand
  pub limits_on : limits_valid version l ≡ true → tested_hour_and_limits fixed z version l s bytes ≡ tested_hour fixed z s bytes
  unfolding tested_hour_and_limits
  limits_on k = go (tested_hour fixed z s bytes) refl
    where
      go : (x : Result Conditions) → tested_hour fixed z s bytes ≡ x → tested_hour_and_limits fixed z version l s bytes ≡ tested_hour fixed z s bytes
      go (ok h) e = rw (e, k) refl
      go (refused n i) e = rw e refl

  -- with a version that hours have, an hour step's
  pub step_known : hour_version version ≡ true → limits_valid version l ≡ true → tested_step fixed z version l s bytes ≡ tested fixed z s bytes
  unfolding tested_step tested
  step_known k p = rw (k, limits_on p) refl

  -- where they pass: the zone's, the version's, the limits', and the demand's
  pub record StepPassed (h : Conditions) : Type 0 where
    pub zone : zone_test z ≡ ok tt
    pub known : hour_version version ≡ true
    pub limits : limits_valid version l ≡ true
    pub tests : tested fixed z s bytes ≡ ok h

  pub limits_passed : (h : Conditions) → tested_hour_and_limits fixed z version l s bytes ≡ ok h → limits_valid version l ≡ true
  unfolding tested_hour_and_limits
  limits_passed h e =
      let u = bind_ok (tested_hour fixed z s bytes) _ h e in
      let v = bind_ok (require (limits_valid version l) limit_value) _ h u.2 in
      require_ok (limits_valid version l) limit_value 0 v.0 v.1

  pub step_passed : (h : Conditions) → tested_step fixed z version l s bytes ≡ ok h → StepPassed h
  unfolding tested_step
  step_passed h e =
      let u = bind_ok (zone_test z) _ h e in
      let v = bind_ok (require (hour_version version) false_entry) _ h u.2 in
      let k = require_ok (hour_version version) false_entry 0 v.0 v.1 in
      let p = limits_passed h v.2 in
      record { zone = u.1; known = k; limits = p; tests = sym (step_known k p) ∙ e }

-- limits that do not pass are those of a version that has them
pub invalid_limits : (version : ℕ) (l : Limits) → limits_valid version l ≡ false → (has_limits version ≡ true) × (power_limits_range l ≡ false)
invalid_limits version l e = go (has_limits version) refl e
  where
    go : (b : Bool) → has_limits version ≡ b → cond b (power_limits_range l) true ≡ false → (has_limits version ≡ true) × (power_limits_range l ≡ false)
    go true p q = (p, q)
    go false p q = absurd (let x : ◌≡◌ {A = ℕ} 0 1 = cc in omega arith)
