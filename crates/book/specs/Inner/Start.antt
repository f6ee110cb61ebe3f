-- What the functions that write leave in a buffer.
use Rattle.std.specs.Prelude.{ℕ, List, ◌++◌, length, drop}

-- b with bs in place of its first bytes
unfoldable pub with_start : (bs b : List ℕ) → List ℕ
with_start bs b = bs ++ drop (length bs) b
