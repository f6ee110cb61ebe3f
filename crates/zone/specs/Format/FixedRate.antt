-- Hours with the fixed rate, code 0, and the same with code 1.
-- Specification, Fixed rate; Conversion.
use Rattle.std.specs.Prelude.{ℕ, Bool, List, ◌∷◌, ◌++◌, get_or, take, drop, eqb}
use Rattle.zone.specs.Format.Bytes.{float_size}
use Rattle.zone.specs.Format.Layout.{rate_code, first_rate, first_element_hour}

-- the bytes of an hour with the fixed rate, code 0
abbrev pub is_fixed : List ℕ → Bool
is_fixed bs = eqb (get_or bs rate_code 0) 0

-- the bytes of the rate; and the hour's bytes with code 1 and the rate twice
abbrev pub rate_bytes : List ℕ → List ℕ
rate_bytes bs = take float_size (drop first_rate bs)

abbrev pub rate_twice : List ℕ → List ℕ
rate_twice bs = take rate_code bs ++ (1 ∷ (rate_bytes bs ++ (rate_bytes bs ++ drop first_element_hour bs)))
