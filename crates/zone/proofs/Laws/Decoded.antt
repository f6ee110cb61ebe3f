-- What a loop over bytes still has to read, against what it has read: one part, and then the others; at the end none.
use Rattle.std.proofs.Common.{ℕ, suc, zero, ◌+◌, ◌*◌, ◌-◌, ◌<◌, ◌≤◌, ◌≡◌, refl, ap, List, [], ◌∷◌, arith, length}
use Rattle.zone.specs.Format.Bytes.{float_at, float_size}
use Rattle.zone.specs.Format.Layout.{element_hour_size}
use Rattle.zone.specs.Format.ElementLayout.{size_at}
use Rattle.zone.specs.Format.Decode.{floats_at, element_hour_at, element_at, elements_at}
use Rattle.zone.specs.Format.Conditions.{element_hours_at}
use Rattle.zone.proofs.Laws.Lists.{one_left}

module _ (s : List ℕ) where
  pub floats_length : (at n : ℕ) → length (floats_at s at n) ≡ n
  unfolding floats_at
  floats_length at zero = refl
  floats_length at (suc n) = ap suc (floats_length (at + 8) n)

  module _ (i n : ℕ) (h : i < n) where
    pub floats_next : (at : ℕ) → floats_at s (at + float_size * i) (n - i) ≡ float_at s (at + float_size * i) ∷ floats_at s (at + float_size * (i + 1)) (n - (i + 1))
    unfolding floats_at
    floats_next at =
        let next : at + float_size * (i + 1) ≡ at + float_size * i + float_size = omega arith in
        rw (one_left n i h, next) refl

    pub hours_next : (at : ℕ)
        → element_hours_at s (at + element_hour_size * i) (n - i) ≡ element_hour_at s (at + element_hour_size * i) ∷ element_hours_at s (at + element_hour_size * (i + 1)) (n - (i + 1))
    unfolding element_hours_at
    hours_next at =
        let next : at + element_hour_size * (i + 1) ≡ at + element_hour_size * i + element_hour_size = omega arith in
        rw (one_left n i h, next) refl

    pub elements_next : (p : ℕ) → elements_at s p (n - i) ≡ element_at s p ∷ elements_at s (p + size_at s p) (n - (i + 1))
    unfolding elements_at
    elements_next p = rw (one_left n i h)

  module _ (i n : ℕ) (h : n ≤ i) (p : ℕ) where
    none : n - i ≡ 0
    none = omega arith

    pub floats_none : floats_at s p (n - i) ≡ []
    unfolding floats_at
    floats_none = rw none

    pub hours_none : element_hours_at s p (n - i) ≡ []
    unfolding element_hours_at
    hours_none = rw none

    pub elements_none : elements_at s p (n - i) ≡ []
    unfolding elements_at
    elements_none = rw none
