-- The loop of the first hour above a value: what holds before an hour, one turn, and both ends.
use Rattle.std.proofs.Common.{ℕ, ◌+◌, ◌<◌, ◌≡◌, refl, sym, subst, ◌∙◌, Bool, true, false, List, [], ◌∷◌, add-one, arith, length, drop, ltb, Float, ltb-true, ltb-false}
use Rattle.std.specs.Prelude.{None, Some}
use lib.Ieee.{nan}
use Rattle.tools.specs.Questions.{goes_above, first_above}
use Rattle.tools.specs.Questions as Temperature
use Rattle.tools.proofs.Laws.FirstHour.{first_hour_lem, no_hour, from_now, none_from}

module _ (value start : Float) (ts : List Float) where
  -- hour i goes above
  abbrev pub above : ℕ → Bool
  above i = goes_above value (Temperature.before start ts i) (Temperature.after ts i)

  -- the hours that are left, the temperature before the next one, and that no earlier one goes above
  pub record NoneYet (hour : ℕ) (last : Float) (rest : List Float) : Type 0 where
    pub left : drop hour ts ≡ rest
    pub last_is : last ≡ Temperature.before start ts hour
    pub none_yet : (j : ℕ) → j < hour → above j ≡ false

  pub none_at_first : NoneYet 0 start ts
  none_at_first = record { left = refl; last_is = refl; none_yet = λ j h. absurd (omega arith) }

  module _ (hour : ℕ) (last : Float) (rest : List Float) (so_far : NoneYet hour last rest) where
    pub above_none : rest ≡ [] → first_above value start ts ≡ None
    unfolding first_above
    above_none e =
        let l = none_from ts hour (so_far.left ∙ e) in
        no_hour (length ts) above (λ j h. so_far.none_yet j (omega (arith, l)))

    module _ (t : Float) (others : List Float) (e : rest ≡ t ∷ others) where
      at_hour : above hour ≡ goes_above value last t
      at_hour =
          let f = from_now ts hour t nan others (so_far.left ∙ e) in
          λ i. goes_above value (sym so_far.last_is i) (f.here i)

      pub above_found : goes_above value last t ≡ true → first_above value start ts ≡ Some hour
      unfolding first_above
      above_found h =
          let f = from_now ts hour t nan others (so_far.left ∙ e) in
          first_hour_lem (length ts) above hour f.inside so_far.none_yet (at_hour ∙ h)

      pub above_turn : goes_above value last t ≡ false → NoneYet (hour + 1) t others
      above_turn h =
          let f = from_now ts hour t nan others (so_far.left ∙ e) in
          record { left = f.others; last_is = next; none_yet = each }
        where
          next : t ≡ Temperature.before start ts (hour + 1)
          next = rw (add-one hour) (sym (from_now ts hour t nan others (so_far.left ∙ e)).here)

          each : (j : ℕ) → j < hour + 1 → above j ≡ false
          each j l = go (ltb j hour) refl
            where
              go : (b : Bool) → ltb j hour ≡ b → above j ≡ false
              go true q = so_far.none_yet j (ltb-true j hour q)
              go false q = let same : hour ≡ j = omega (arith, ltb-false j hour q) in subst (λ (k : ℕ). above k ≡ false) same (at_hour ∙ h)
