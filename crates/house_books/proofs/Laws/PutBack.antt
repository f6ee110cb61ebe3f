-- Bytes written over others, which are then put back.
use Rattle.std.proofs.Common.{◌≡◌, ℕ, List, length, arith, rules}
use Rattle.std.proofs.lemmas.List.{same_lists, places}
use Rattle.big_endian.specs.Bytes.{bytes_from, written}

pub put_back : (s bytes : List ℕ) (at n : ℕ) → length bytes ≡ n → written (written s at bytes) at (bytes_from s at n) ≡ s
put_back s bytes at n long = same_lists _ _ (search (rules, places)) (λ k d h. grind (arith, places))
