-- A test of each of a list, one by one.
use Rattle.std.proofs.Common.{ℕ, zero, suc, ◌+◌, ◌<◌, ◌≤◌, ◌≡◌, refl, sym, ◌∙◌, Bool, true, false, List, [], ◌∷◌, arith, length, take, drop, get_or, drop_of_length-le}
use Rattle.solver.specs.Result.{Result, ok, refused, require_at}
use Rattle.solver.specs.Refusals.{RefusesOnly, accepts}
use Rattle.solver.proofs.Promise.{test_refuses, bind_ok, require_ok, drop_next}
use Rattle.zone.specs.Check.ZoneTest.{all_required}

-- a loop over a list whose items have to pass: the test of those that are left is the test of all
module _ {A : Type 0} (test : A → Bool) (number : ℕ) (l : List A) (i : ℕ) (w : Result (Unit {0})) (inv : all_required test number (drop i l) (i + 1) ≡ w) where
  pub required_turn : (d : A) → i < length l → test (get_or l i d) ≡ true → all_required test number (drop (i + 1) l) (i + 1 + 1) ≡ w
  unfolding all_required
  required_turn d h e =
      let turn : all_required test number (drop i l) (i + 1) ≡ all_required test number (drop (i + 1) l) (i + 1 + 1) = rw (drop_next l i d h, e) refl in
      sym turn ∙ inv

  pub required_stop : (d : A) → i < length l → test (get_or l i d) ≡ false → refused number (i + 1) ≡ w
  unfolding all_required
  required_stop d h e =
      let stop : all_required test number (drop i l) (i + 1) ≡ refused number (i + 1) = rw (drop_next l i d h, e) refl in
      sym stop ∙ inv

  pub required_end : length l ≤ i → ok tt ≡ w
  unfolding all_required
  required_end h =
      let none : all_required test number (drop i l) (i + 1) ≡ ok tt = rw (drop_of_length-le l h) refl in
      sym none ∙ inv

-- where none is refused, each of the list passes
pub required_each : {A : Type 0} (test : A → Bool) (number : ℕ) (d : A) (n : ℕ) (l : List A) (i : ℕ) (u : Unit {0}) → all_required test number (take n l) i ≡ ok u
    → (e : ℕ) → e < n → e < length l → test (get_or l e d) ≡ true
unfolding all_required
required_each test number d zero l i u p e h r = absurd (omega arith)
required_each test number d (suc n) [] i u p e h r = absurd (omega arith)
required_each test number d (suc n) (a ∷ as') i u p zero h r =
    let first = bind_ok (require_at (test a) number i) _ u p in
    require_ok (test a) number i first.0 first.1
required_each test number d (suc n) (a ∷ as') i u p (suc e) h r =
    let first = bind_ok (require_at (test a) number i) _ u p in
    required_each test number d n as' (i + 1) u first.2 e (omega arith) (omega arith)

-- what is refused, is refused with this number and the index of one of the list
pub required_refuses : {A : Type 0} {P : ℕ → ℕ → Type 0} (test : A → Bool) (number : ℕ) → ((i : ℕ) → i ≤ 24 → P number i)
    → (l : List A) (i : ℕ) → length l + i ≤ 25 → RefusesOnly P (all_required test number l i)
unfolding all_required
required_refuses test number p [] i h = accepts tt
required_refuses test number p (a ∷ as') i h =
    test_refuses (test a) number i _ (p i (omega arith)) λ _.
    required_refuses test number p as' (i + 1) (omega arith)
