-- The number that a call returns.
use Rattle.std.proofs.Common.{ℕ, ◌+◌, ◌*◌, ◌%◌, ◌≡◌, arith}
use Rattle.hem_zone.specs.Code.{refusal_code}

-- of an index only the low 24 bits reach the 32 of an answer
pub low_bits : (number index : ℕ) → (number + 256 * (index % 16777216)) % 4294967296 ≡ refusal_code number index
unfolding refusal_code
low_bits n i = omega arith
