-- What start-up's answers mean: 15, and the settled temperatures.
use Rattle.std.proofs.Common.{ℕ, zero, suc, ◌<◌, ◌≡◌, refl, subst, ◌∙◌, Bool, true, false, cond, List, arith, Float}
use Rattle.solver.specs.Result.{Result, ok, refused, bind}
use Rattle.solver.proofs.Promise.{bind_ok, ok_inj, refusal_by}
use Rattle.solver.specs.Refusals.{RefusesOnly}
use Rattle.zone.specs.declared.record.building_element.Coefficients.{Coefficients}
use Rattle.zone.specs.declared.record.zone_record.Zone.{Zone}
use Rattle.zone.specs.Check.ZoneTest.{zone_test}
use Rattle.zone.specs.Calls.State.{slots_of, state_of}
use Rattle.zone.specs.Calls.StartUp.{start_state, close, pass, settle, init_node_temps}
use Rattle.zone.specs.Claims.StartUpClaims.{Unsettled, start, further, Settles, SettledAt, LimitUnsettled, StartUpNotSettled, StartUpIsNotSettled, StartUpSettled, StartUpIsSettled}
use Rattle.zone.proofs.Claims.HeadRefusals.{zone_below, zone_refusals}
use Rattle.zone.proofs.Claims.Refusals.{solve_below}
use Rattle.zone.proofs.Laws.Refusals.{pass_refuses}
use Rattle.zone.specs.Record.Numbers as Number

-- a refusal's number is below 15
abbrev Below15 : (number index : ℕ) → Type 0
Below15 number index = number < 15

module _ (c : Coefficients) (z : Zone) where
  -- the answer, by what the pass gave
  settle_by : (limit : ℕ) → List Float → Result (List Float) → Result (List Float)
  settle_by n t r = bind r λ t'. cond (close z t t') (ok t) (settle c z n t')

  settled_answer : (limit : ℕ) (t u : List Float) → settle c z limit t ≡ ok u → SettledAt c z limit t u
  unfolding settle settle_by
  settled_answer zero t u e = let w : ◌≡◌ {A = ℕ} 0 1 = cc in absurd (omega arith)
  settled_answer (suc n) t u e = go (pass c z t) refl e (λ t'. settled_answer n t' u)
    where
      at : (t' : List Float) → pass c z t ≡ ok t' → (b : Bool) → close z t t' ≡ b → cond b (ok t) (settle c z n t') ≡ ok u → (settle c z n t' ≡ ok u → SettledAt c z n t' u) → SettledAt c z (suc n) t u
      at t' p true q f rest =
          let same : t ≡ u = cc in
          subst (λ (x : List Float). SettledAt c z (suc n) t x) same
          (record { passes = 0; fewer = omega arith; unsettled = start; settles = record { after = t'; passed = p; settled = q } })
      at t' p false q f rest =
          let r = rest f in
          record { passes = suc r.passes; fewer = omega (arith, r.fewer); unsettled = further p q r.unsettled; settles = r.settles }

      go : (r : Result (List Float)) → pass c z t ≡ r → settle_by n t r ≡ ok u → ((t' : List Float) → settle c z n t' ≡ ok u → SettledAt c z n t' u) → SettledAt c z (suc n) t u
      go (ok t') p f rest = at t' p (close z t t') refl f (rest t')
      go (refused k j) p f rest = let w : ◌≡◌ {A = ℕ} 0 1 = cc in absurd (omega arith)

  below_pass : (t : List Float) → RefusesOnly Below15 (pass c z t)
  below_pass t = pass_refuses {P = Below15} (omega arith) (λ n i p. omega (arith, solve_below n i p)) (omega arith) c z t

  no_pass_gives_not_settled : (t : List Float) (j : ℕ) → pass c z t ≡ refused Number.not_settled j → ⊥
  no_pass_gives_not_settled t j e = let w : 15 < 15 = refusal_by (below_pass t) e in omega arith

  -- 15 means that no pass up to the limit settled
  not_settled_lem : (limit j : ℕ) (t : List Float) → settle c z limit t ≡ refused Number.not_settled j → (u : List Float) × Unsettled c z limit t u
  unfolding settle settle_by
  not_settled_lem zero j t e = (t, start)
  not_settled_lem (suc n) j t e = go (pass c z t) refl e (λ t'. not_settled_lem n j t')
    where
      at : (t' : List Float) → pass c z t ≡ ok t' → (b : Bool) → close z t t' ≡ b → cond b (ok t) (settle c z n t') ≡ refused Number.not_settled j
          → (settle c z n t' ≡ refused Number.not_settled j → (u : List Float) × Unsettled c z n t' u) → (u : List Float) × Unsettled c z (suc n) t u
      at t' p true q f rest = let w : ◌≡◌ {A = ℕ} 0 1 = cc in absurd (omega arith)
      at t' p false q f rest = let r = rest f in (r.0, further p q r.1)

      go : (r : Result (List Float)) → pass c z t ≡ r → settle_by n t r ≡ refused Number.not_settled j
          → ((t' : List Float) → settle c z n t' ≡ refused Number.not_settled j → (u : List Float) × Unsettled c z n t' u) → (u : List Float) × Unsettled c z (suc n) t u
      go (ok t') p f rest = at t' p (close z t t') refl f (rest t')
      go (refused k i) p f rest = absurd (no_pass_gives_not_settled t j (p ∙ f))

  -- and if none does, 15 is the answer
  limit_not_settled : {limit : ℕ} {t u : List Float} → Unsettled c z limit t u → settle c z limit t ≡ refused Number.not_settled 0
  unfolding settle
  limit_not_settled start = refl
  limit_not_settled (further p q rest) = rw (p, q) (limit_not_settled rest)

  -- where a pass settles within the limit, the temperatures before it are the answer, whatever the limit
  settled_is : {passes limit : ℕ} {t u : List Float} → Unsettled c z passes t u → Settles c z u → passes < limit → settle c z limit t ≡ ok u
  unfolding settle
  settled_is {limit = zero} w s h = absurd (omega arith)
  settled_is {limit = suc n} start s h = rw (s.passed, s.settled) refl
  settled_is {limit = suc n} (further p q rest) s h = rw (p, q) (settled_is {limit = n} rest s (omega arith))

  -- ---- the call itself

  settled_from : (r : Result (List Float)) (j : ℕ) → bind r (λ t. ok (state_of z t)) ≡ refused Number.not_settled j → r ≡ refused Number.not_settled j
  settled_from (ok t) j e = let w : ◌≡◌ {A = ℕ} 0 1 = cc in absurd (omega arith)
  settled_from (refused n i) j e = let u : n ≡ Number.not_settled = cc in let v : i ≡ j = cc in rw (u, v) refl

  pub start_up_not_settled_lem : StartUpNotSettled c z
  unfolding init_node_temps
  start_up_not_settled_lem j e = go (zone_test z) refl e
    where
      go : (r : Result (Unit {0})) → zone_test z ≡ r → bind r (λ _. bind (settle c z z.start_up_limit (slots_of z (start_state z))) λ t. ok (state_of z t)) ≡ refused Number.not_settled j
          → (u : List Float) × LimitUnsettled c z u
      go (ok _) p f = not_settled_lem z.start_up_limit j (slots_of z (start_state z)) (settled_from (settle c z z.start_up_limit (slots_of z (start_state z))) j f)
      go (refused n i) p f =
          let n15 : n ≡ Number.not_settled = cc in
          let w = zone_below n i (refusal_by (zone_refusals z) p) in
          absurd (omega arith)

  pub start_up_is_not_settled : StartUpIsNotSettled c z
  unfolding init_node_temps
  start_up_is_not_settled u e n = rw (e, limit_not_settled n) refl

  pub start_up_settled : StartUpSettled c z
  unfolding init_node_temps
  start_up_settled s e =
      let a = bind_ok (zone_test z) _ s e in
      let b = bind_ok (settle c z z.start_up_limit (slots_of z (start_state z))) _ s a.2 in
      (b.0, settled_answer z.start_up_limit (slots_of z (start_state z)) b.0 b.1, ok_inj b.2)

  pub start_up_is_settled : StartUpIsSettled c z
  unfolding init_node_temps
  start_up_is_settled u e s = rw (e, settled_is s.unsettled s.settles s.fewer) refl
