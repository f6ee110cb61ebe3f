-- What is written is bytes.
use Rattle.std.proofs.Common.{ℕ, suc, zero, ◌/◌, ◌%◌, ◌<◌, List, [], ◌∷◌, ◌++◌, arith, Float, to_bits}
use lib.Ieee.{binary64}
use Rattle.zone.specs.Format.Bytes.{Bytes, bytes_of, float_size}
use Rattle.zone.specs.Format.Encode.{float_bytes, row_bytes}
use Rattle.zone.specs.Claims.Encode.{element_hour_bytes}
use Rattle.zone.specs.declared.record.building_element.ElementHour.{ElementHour}

pub none_bytes : Bytes []
none_bytes i = omega arith

pub cons_bytes : (b : ℕ) (s : List ℕ) → b < 256 → Bytes s → Bytes (b ∷ s)
cons_bytes b s h k zero = h
cons_bytes b s h k (suc i) = k i

pub append_bytes : (s t : List ℕ) → Bytes s → Bytes t → Bytes (s ++ t)
append_bytes [] t h k i = k i
append_bytes (b ∷ s) t h k zero = h 0
append_bytes (b ∷ s) t h k (suc i) = append_bytes s t (λ j. h (suc j)) k i

pub number_bytes : (k n : ℕ) → Bytes (bytes_of k n)
unfolding bytes_of
number_bytes zero n = none_bytes
number_bytes (suc k) n = append_bytes (bytes_of k (n / 256)) (n % 256 ∷ []) (number_bytes k (n / 256)) (cons_bytes (n % 256) [] (omega arith) none_bytes)

pub floats_bytes : (xs : List Float) → Bytes (row_bytes xs)
unfolding row_bytes
floats_bytes [] = none_bytes
floats_bytes (x ∷ xs) = append_bytes (float_bytes x) (row_bytes xs) (number_bytes float_size (to_bits binary64 x)) (floats_bytes xs)

pub hour_bytes : (h : ElementHour) → h.treatments_open < 256 → Bytes (element_hour_bytes h)
hour_bytes h o =
    let xs = h.temp_ext ∷ h.i_sol_dir ∷ h.i_sol_dif ∷ h.f_sh_dir ∷ h.f_sh_dif ∷ [] in
    append_bytes (row_bytes xs) (h.treatments_open ∷ []) (floats_bytes xs) (cons_bytes h.treatments_open [] o none_bytes)
