-- Sums of floats (Specification, Compensated sum; Plain sum).
use Rattle.std.specs.Prelude.{ℕ, zero, suc, ◌-◌, List, [], ◌∷◌, Float}
use Rattle.solver.specs.F64.{◌+ᶠ◌, ◌-ᶠ◌, zero64}
use Rattle.solver.specs.declared.sums.Sum2.{Sum2}

-- `Sum2`: the total s and the correction c start at 0;
abbrev pub sum2_zero : Sum2
sum2_zero = record { s = zero64; c = zero64 }

-- per term t, u = s + t, z = u - s, c becomes c + ((s - (u - z)) + (t - z)), and s becomes u;
abbrev pub sum2_add : Sum2 → Float → Sum2
sum2_add a t =
    let u = a.s +ᶠ t in
    let z = u -ᶠ a.s in
    record { s = u; c = a.c +ᶠ ((a.s -ᶠ (u -ᶠ z)) +ᶠ (t -ᶠ z)) }

unfoldable pub sum2_add_all : Sum2 → List Float → Sum2
sum2_add_all a [] = a
sum2_add_all a (t ∷ ts) = sum2_add_all (sum2_add a t) ts

-- the answer is s + c
abbrev pub sum2_sum : Sum2 → Float
sum2_sum a = a.s +ᶠ a.c

abbrev pub sum2 : List Float → Float
sum2 ts = sum2_sum (sum2_add_all sum2_zero ts)

-- the other sums: left to right, from +0.0
unfoldable pub sum_from : Float → List Float → Float
sum_from s [] = s
sum_from s (t ∷ ts) = sum_from (s +ᶠ t) ts

abbrev pub sum_from0 : List Float → Float
sum_from0 ts = sum_from zero64 ts

-- n terms of a sum, term i and those after it
unfoldable pub terms_of : ℕ → ℕ → (ℕ → Float) → List Float
terms_of zero i term = []
terms_of (suc n) i term = term i ∷ terms_of n (suc i) term

-- the terms of a sum over i from a up to b, b left out
abbrev pub terms : ℕ → ℕ → (ℕ → Float) → List Float
terms a b term = terms_of (b - a) a term
