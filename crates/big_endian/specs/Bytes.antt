-- Bytes of a list from a place on, for reading and for writing.
use Rattle.std.specs.Prelude.{ℕ, zero, suc, ◌+◌, List, [], ◌∷◌, ◌++◌, length, take, drop, replicate, Float, to_bits, from_bits}
use Rattle.std.specs.Float.Ieee.{binary64}
use Rattle.std.specs.Int.{w64, to_be_bytes, from_be_bytes}
use Rattle.std.specs.List.{flat_map}

-- the `count` bytes of s from `at` on, where those past the end are 0
abbrev pub bytes_from : List ℕ → (at count : ℕ) → List ℕ
bytes_from s at count = take count (drop at s ++ replicate count 0)

-- the float at a place
abbrev pub f64_from : List ℕ → (at : ℕ) → Float
f64_from s at = from_bits binary64 (from_be_bytes w64 (bytes_from s at 8))

-- so many floats, one behind the other
unfoldable pub f64s_from : List ℕ → (at count : ℕ) → List Float
f64s_from s at zero = []
f64s_from s at (suc n) = f64_from s at ∷ f64s_from s (at + 8) n

-- s with `bytes` from `at` on, of which those past the end are left out
abbrev pub written : List ℕ → (at : ℕ) → List ℕ → List ℕ
written s at bytes = take (length s) (take at s ++ bytes ++ drop (at + length bytes) s)

-- the eight bytes of a float
abbrev pub f64_bytes : Float → List ℕ
f64_bytes x = to_be_bytes w64 (to_bits binary64 x)

-- those of several floats, one behind the other
abbrev pub f64s_bytes : List Float → List ℕ
f64s_bytes xs = flat_map f64_bytes xs
