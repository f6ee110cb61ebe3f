-- The loop of the nearest hour: what holds before an hour, one turn, and the end.
use Rattle.std.proofs.Common.{ℕ, zero, suc, ◌+◌, ◌-◌, ◌≤◌, ◌<◌, ◌≡◌, refl, sym, ap, subst, ◌∙◌, Bool, true, false, not, List, [], ◌∷◌, arith, length, drop, ltb, Float, ltb-true, ltb-false}
use Rattle.std.specs.Prelude.{Option, None, Some, IsTrue, MatchOption, option_map}
use lib.Ieee.{nan}
use Rattle.book.proofs.Model.Laws.Bytes.{true_not_false}
use Rattle.tools.specs.Questions.{distance, nearer, none_nearer, nearest_hour}
use Rattle.tools.specs.Questions as Temperature
use Rattle.tools.proofs.Laws.Nearer.{nearer_trans, nearer_other, nearer_itself}
use Rattle.tools.proofs.Laws.FirstHour.{first_hour_lem, no_hour, all_true, all_false, FromNow, from_now, none_from}

module _ (value : Float) (ts : List Float) where
  abbrev pub distance_of : ℕ → Float
  distance_of i = distance value (Temperature.after ts i)

  -- of the first k hours, i is the nearest: none is nearer, and each earlier one is farther
  pub record NearestOf (k i : ℕ) : Type 0 where
    pub among : i < k
    pub none_nearer_lem : (j : ℕ) → j < k → nearer (distance_of j) (distance_of i) ≡ false
    pub earlier_farther : (j : ℕ) → j < i → nearer (distance_of i) (distance_of j) ≡ true

  -- of the hours that were seen the nearest, with its distance
  abbrev pub NearestSeen : (k : ℕ) → Option (ℕ × Float) → Type 0
  NearestSeen k None = k ≡ 0
  NearestSeen k (Some x) = NearestOf k x.0 × (x.1 ≡ distance_of x.0)

  pub record NearestYet (hour : ℕ) (nearest : Option (ℕ × Float)) (rest : List Float) : Type 0 where
    pub left : drop hour ts ≡ rest
    pub among_all : hour ≤ length ts
    pub seen : NearestSeen hour nearest

  pub nearest_at_first : NearestYet 0 None ts
  nearest_at_first = record { left = refl; among_all = omega arith; seen = refl }

  -- the nearest of all
  of_all : (i : ℕ) → NearestOf (length ts) i → nearest_hour value ts ≡ Some i
  unfolding nearest_hour none_nearer
  of_all i n =
      first_hour_lem (length ts) (none_nearer value ts) i n.among
      (λ j l. all_false (length ts - 0) 0 _ i (omega arith) (omega (arith, n.among)) (ap not (n.earlier_farther j l)))
      (all_true (length ts - 0) 0 _ (λ j l m. ap not (n.none_nearer_lem j (omega (arith, m)))))

  -- a nearer one after k others, and one that is not
  nearer_one : (k i : ℕ) → NearestOf k i → nearer (distance_of k) (distance_of i) ≡ true → NearestOf (k + 1) k
  nearer_one k i n h = record { among = omega arith; none_nearer_lem = none_nearer_lem; earlier_farther = earlier }
    where
      earlier : (j : ℕ) → j < k → nearer (distance_of k) (distance_of j) ≡ true
      earlier j l = go (nearer (distance_of k) (distance_of j)) refl
        where
          go : (b : Bool) → nearer (distance_of k) (distance_of j) ≡ b → nearer (distance_of k) (distance_of j) ≡ true
          go true q = q
          go false q = true_not_false (sym (nearer_other (distance_of k) (distance_of j) (distance_of i) h q) ∙ n.none_nearer_lem j l)

      none_nearer_lem : (j : ℕ) → j < k + 1 → nearer (distance_of j) (distance_of k) ≡ false
      none_nearer_lem j l = go (ltb j k) refl (nearer (distance_of j) (distance_of k)) refl
        where
          go : (b : Bool) → ltb j k ≡ b → (c : Bool) → nearer (distance_of j) (distance_of k) ≡ c → nearer (distance_of j) (distance_of k) ≡ false
          go b t false q = q
          go true t true q =
              true_not_false (sym (nearer_trans (distance_of j) (distance_of k) (distance_of i) q h) ∙ n.none_nearer_lem j (ltb-true j k t))
          go false t true q =
              let same : k ≡ j = omega (arith, ltb-false j k t) in
              let self : nearer (distance_of k) (distance_of k) ≡ true = subst (λ (m : ℕ). nearer (distance_of m) (distance_of k) ≡ true) (sym same) q in
              true_not_false (sym self ∙ nearer_itself (distance_of k))

  as_near : (k i : ℕ) → NearestOf k i → nearer (distance_of k) (distance_of i) ≡ false → NearestOf (k + 1) i
  as_near k i n h = record { among = omega (arith, n.among); none_nearer_lem = none_nearer_lem; earlier_farther = n.earlier_farther }
    where
      none_nearer_lem : (j : ℕ) → j < k + 1 → nearer (distance_of j) (distance_of i) ≡ false
      none_nearer_lem j l = go (ltb j k) refl
        where
          go : (b : Bool) → ltb j k ≡ b → nearer (distance_of j) (distance_of i) ≡ false
          go true t = n.none_nearer_lem j (ltb-true j k t)
          go false t = let same : k ≡ j = omega (arith, ltb-false j k t) in subst (λ (m : ℕ). nearer (distance_of m) (distance_of i) ≡ false) same h

  only_one : (k : ℕ) → k ≡ 0 → NearestOf (k + 1) k
  only_one k z =
      record {
        among = omega arith;
        none_nearer_lem = λ j l. let same : k ≡ j = omega arith in subst (λ (m : ℕ). nearer (distance_of m) (distance_of k) ≡ false) same (nearer_itself (distance_of k));
        earlier_farther = λ j l. absurd (omega arith);
      }

  -- of Some hours one is the nearest
  nearest_of : (k : ℕ) → (i : ℕ) × NearestOf (k + 1) i
  nearest_of zero = (0, only_one 0 refl)
  nearest_of (suc k) =
      let r = nearest_of k in
      let same : k + 1 ≡ suc k = omega arith in
      subst (λ (m : ℕ). (j : ℕ) × NearestOf (m + 1) j) same (go r.0 r.1 (nearer (distance_of (k + 1)) (distance_of r.0)) refl)
    where
      go : (i : ℕ) → NearestOf (k + 1) i → (b : Bool) → nearer (distance_of (k + 1)) (distance_of i) ≡ b → (j : ℕ) × NearestOf (k + 1 + 1) j
      go i n true q = (k + 1, nearer_one (k + 1) i n q)
      go i n false q = (i, as_near (k + 1) i n q)

  pub some_nearest : 0 < length ts → (i : ℕ) × (nearest_hour value ts ≡ Some i)
  some_nearest h =
      let same : length ts - 1 + 1 ≡ length ts = omega arith in
      let r = nearest_of (length ts - 1) in
      (r.0, of_all r.0 (subst (λ (m : ℕ). NearestOf m r.0) same r.1))

  -- none is left
  pub nearest_end : (hour : ℕ) (nearest : Option (ℕ × Float)) (rest : List Float) → NearestYet hour nearest rest → rest ≡ [] → option_map (λ x. x.0) nearest ≡ nearest_hour value ts
  unfolding nearest_hour
  nearest_end hour None rest so_far e =
      let l = none_from ts hour (so_far.left ∙ e) in
      sym (no_hour (length ts) (none_nearer value ts) (λ j h. absurd (omega (arith, l, h, so_far.seen))))
  nearest_end hour (Some x) rest so_far e =
      let m : hour ≡ length ts = omega (arith, none_from ts hour (so_far.left ∙ e), so_far.among_all) in
      sym (of_all x.0 (subst (λ (k : ℕ). NearestOf k x.0) m so_far.seen.0))

  -- the next one, which `less` says is the first or nearer
  module _ (hour : ℕ) (rest : List Float) (t : Float) (others : List Float) (e : rest ≡ t ∷ others) (less : Bool) where
    module _ (left : drop hour ts ≡ rest) where
      abbrev turn : FromNow ts hour t nan others
      turn = from_now ts hour t nan others (left ∙ e)

      own : distance value t ≡ distance_of hour
      own = ap (distance value) (sym turn.here)

      more : hour + 1 ≤ length ts
      more = let inside = turn.inside in omega (arith, inside)

    pub nearest_changes : (nearest : Option (ℕ × Float)) → NearestYet hour nearest rest → MatchOption nearest (IsTrue less) (λ x. less ≡ nearer (distance value t) x.1) → less ≡ true
        → NearestYet (hour + 1) (Some (hour, distance value t)) others
    nearest_changes None so_far told h =
        record { left = (turn so_far.left).others; among_all = more so_far.left; seen = (only_one hour so_far.seen, own so_far.left) }
    nearest_changes (Some x) so_far told h =
        let q : nearer (distance_of hour) (distance_of x.0) ≡ true = rw (← own so_far.left, ← so_far.seen.1) (sym told ∙ h) in
        record { left = (turn so_far.left).others; among_all = more so_far.left; seen = (nearer_one hour x.0 so_far.seen.0 q, own so_far.left) }

    pub nearest_stays : (nearest : Option (ℕ × Float)) → NearestYet hour nearest rest → MatchOption nearest (IsTrue less) (λ x. less ≡ nearer (distance value t) x.1) → less ≡ false
        → NearestYet (hour + 1) nearest others
    nearest_stays None so_far told h = true_not_false (sym told ∙ h)
    nearest_stays (Some x) so_far told h =
        let q : nearer (distance_of hour) (distance_of x.0) ≡ false = rw (← own so_far.left, ← so_far.seen.1) (sym told ∙ h) in
        record { left = (turn so_far.left).others; among_all = more so_far.left; seen = (as_near hour x.0 so_far.seen.0 q, so_far.seen.1) }
