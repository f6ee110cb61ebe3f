-- Numbers and floats as bytes, the highest byte first.
-- Specification, Bytes; Zeros and NaN.
use Rattle.std.specs.Prelude.{ℕ, suc, zero, ◌+◌, ◌*◌, ◌/◌, ◌%◌, ◌<◌, List, [], ◌∷◌, ◌++◌, take, drop, get_or, Float}
use Rattle.std.specs.Float.{binary64}
use Rattle.std.specs.Float.Ieee.{of_bits}

-- every number of a list is a byte
abbrev pub Bytes : List ℕ → Type 0
Bytes s = (i : ℕ) → get_or s i 0 < 256

-- the number that bytes spell behind a number that was read already
unfoldable pub big_endian_from : ℕ → List ℕ → ℕ
big_endian_from n [] = n
big_endian_from n (b ∷ bs) = big_endian_from (n * 256 + b) bs

-- the number that bytes spell
abbrev pub big_endian : List ℕ → ℕ
big_endian bs = big_endian_from 0 bs

-- the number in the count bytes from at on
abbrev pub num_at : List ℕ → (at count : ℕ) → ℕ
num_at bs at count = big_endian (take count (drop at bs))

abbrev pub float_size : ℕ
float_size = 8

-- the float whose 64-bit pattern is the eight bytes from at on; each pattern of a NaN gives `nan`
abbrev pub float_at : List ℕ → (at : ℕ) → Float
float_at bs at = of_bits binary64 (num_at bs at float_size)

-- the lowest `count` bytes of a number, the highest first
unfoldable pub bytes_of : (count n : ℕ) → List ℕ
bytes_of zero n = []
bytes_of (suc k) n = bytes_of k (n / 256) ++ (n % 256 ∷ [])
