-- What the answers of the calls on a zone tell of the definitions that they meet.
use Rattle.std.proofs.Common.{ℕ, ◌≡◌, sym, ap, ◌∙◌}
use Rattle.std.specs.Prelude.{Ok, Err}
use Rattle.std.specs.Prelude as Rust
use Rattle.solver.specs.Result.{Result, ok, refused}
use Rattle.solver.proofs.Promise.{ok_inj, ok_not_refused}
use Rattle.zone.specs.Answers.{number_of, index_of, answered}
use Rattle.zone.specs.declared.record.refusal.Refusal.{Refusal}
use Rattle.zone.specs.declared.physics.balance.HeatBalance.{HeatBalance}
use Rattle.zone.specs.declared.calls.state.State.{State}
use Rattle.zone.specs.declared.calls.state.Demand.{Demand}
use Rattle.zone.specs.declared.calls.state.Reply.{Reply}
use Rattle.zone.specs.Calls.Hour.{HourResult}
use Rattle.zone.specs.Calls.Answers.{reply_in, update_reply, hour_step_reply, hour_stepped}

module _ {A : Type 0} (d : Result A) (x : Rust.Result A Refusal) (e : answered x ≡ d) where
  pub answered_no : (r : Refusal) → x ≡ Err r → d ≡ refused (number_of r) (index_of r)
  answered_no r f = sym e ∙ ap answered f

  pub answered_yes : (a : A) → x ≡ Ok a → d ≡ ok a
  answered_yes a f = sym e ∙ ap answered f

-- with the state that the call hands back
module _ {A : Type 0} (x : Reply A) (y : Result A × State) (e : reply_in x ≡ y) where
  reply_no : (r : Refusal) → x.answer ≡ Err r → y.0 ≡ refused (number_of r) (index_of r)
  reply_no r f = sym (ap (λ (z : Result A × State). z.0) e) ∙ ap answered f

  reply_yes : (a : A) → x.answer ≡ Ok a → y.0 ≡ ok a
  reply_yes a f = sym (ap (λ (z : Result A × State). z.0) e) ∙ ap answered f

module _ (s : State) where
  -- the reply of an hour step, from its answer with the state after it
  pub step_replied : (r : Rust.Result (State × (Demand × HeatBalance)) Refusal) (d : Result HourResult) (x : Result (Demand × HeatBalance) × State)
      → x ≡ update_reply s (answered r) → hour_stepped r ≡ d → x ≡ hour_step_reply s d
  step_replied (Ok r) d x e f = e ∙ ap (hour_step_reply s) f
  step_replied (Err n) d x e f = e ∙ ap (hour_step_reply s) f

  update_no_lem : (d : Result (State × HeatBalance)) (n j : ℕ) → (update_reply s d).0 ≡ refused n j → d ≡ refused n j
  update_no_lem (ok a) n j f = ok_not_refused a.1 n j f
  update_no_lem (refused m k) n j f = let p : m ≡ n = cc in let q : k ≡ j = cc in λ i. refused (p i) (q i)

  pub update_no : (d : Result (State × HeatBalance)) (x : Reply HeatBalance) → reply_in x ≡ update_reply s d → (r : Refusal) → x.answer ≡ Err r
      → d ≡ refused (number_of r) (index_of r)
  update_no d x e r f = update_no_lem d _ _ (reply_no x (update_reply s d) e r f)

  pub update_yes : (d : Result (State × HeatBalance)) (x : Reply HeatBalance) → reply_in x ≡ update_reply s d → (b : HeatBalance) → x.answer ≡ Ok b → d ≡ ok (x.state, b)
  update_yes (ok a) x e b f =
      let m : a.1 ≡ b = ok_inj (reply_yes x _ e b f) in
      λ i. ok ((sym e i).1, m i)
  update_yes (refused m k) x e b f = ok_not_refused b m k (sym (reply_yes x _ e b f))

  hour_no_lem : (d : Result HourResult) (n j : ℕ) → (hour_step_reply s d).0 ≡ refused n j → d ≡ refused n j
  hour_no_lem (ok r) n j f = ok_not_refused (r.demand, r.balance) n j f
  hour_no_lem (refused m k) n j f = let p : m ≡ n = cc in let q : k ≡ j = cc in λ i. refused (p i) (q i)

  pub hour_no : (d : Result HourResult) (x : Reply (Demand × HeatBalance)) → reply_in x ≡ hour_step_reply s d → (r : Refusal) → x.answer ≡ Err r
      → d ≡ refused (number_of r) (index_of r)
  hour_no d x e r f = hour_no_lem d _ _ (reply_no x (hour_step_reply s d) e r f)

  pub hour_yes : (d : Result HourResult) (x : Reply (Demand × HeatBalance)) → reply_in x ≡ hour_step_reply s d → (a : Demand) (b : HeatBalance)
      → x.answer ≡ Ok (a, b) → d ≡ ok (record { demand = a; state = x.state; balance = b })
  hour_yes (ok r) x e a b f =
      let q : ◌≡◌ {A = Demand × HeatBalance} (r.demand, r.balance) (a, b) = ok_inj (reply_yes x _ e (a, b) f) in
      λ i. ok (record { demand = (q i).0; state = (sym e i).1; balance = (q i).1 })
  hour_yes (refused m k) x e a b f = ok_not_refused (a, b) m k (sym (reply_yes x _ e (a, b) f))
