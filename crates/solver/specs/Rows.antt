-- A matrix of at most 25 rows in one flat list of 625 entries, row by row: row i stands from place 25 i on, whatever the number of unknowns.
-- The pivot search and the elimination of one row (Specification, Dense solve).
use Rattle.std.specs.Prelude.{ℕ, ◌+◌, ◌*◌, List, cond, get_or, set, Float}
use Rattle.std.specs.Float.{nan}
use Rattle.std.specs.Float.Ieee.{lt, neg}
use Rattle.solver.specs.F64.{◌+ᶠ◌, ◌*ᶠ◌}
use Rattle.solver.specs.Closeness.{abs}
use Rattle.solver.specs.Repeat.{repeat}
use Rattle.solver.specs.Sums.{terms}

-- the entry of row i and column j, and the matrix with another one there
abbrev pub entry : ℕ → ℕ → List Float → Float
entry i j m = get_or m (25 * i + j) nan

abbrev pub set_entry : ℕ → ℕ → Float → List Float → List Float
set_entry i j x m = set m (25 * i + j) x

-- row i, and the matrix with r as its row i
unfoldable pub row : ℕ → List Float → List Float
row i m = terms 0 25 λ j. entry i j m

unfoldable pub set_row : ℕ → List Float → List Float → List Float
set_row i r m = repeat 0 25 (λ j. set_entry i j (get_or r j nan)) m

-- row i where its magnitude in column k is strictly greater than that of the row found so far, which is never so with a NaN; else that row
unfoldable pub larger_in_column : ℕ → List Float → ℕ → ℕ → ℕ
larger_in_column k part i found = cond (lt (abs (entry found k part)) (abs (entry i k part))) i found

-- of the n rows of a part of the matrix, from its top, the first of largest magnitude in column k
abbrev pub pivot_row : ℕ → ℕ → List Float → ℕ
pivot_row k n part = repeat 1 n (larger_in_column k part) 0

-- to entry j of row i is added (−the pivot row's entry) × factor
abbrev pub eliminate_entry : List Float → ℕ → Float → ℕ → List Float → List Float
eliminate_entry pivots i factor j m = set_entry i j (entry i j m +ᶠ neg (get_or pivots j nan) *ᶠ factor) m

-- row i, once its factor is known: the factor stands in column k from now on, and each later entry is changed
abbrev pub eliminate_row_by : ℕ → ℕ → List Float → ℕ → Float → List Float → List Float
eliminate_row_by w k pivots i factor m = repeat (k + 1) w (eliminate_entry pivots i factor) (set_entry i k factor m)

-- row i of w columns by the pivot row of column k: factor = entry × (1 / pivot)
unfoldable pub eliminate_row : ℕ → ℕ → List Float → Float → ℕ → List Float → List Float
eliminate_row w k pivots reciprocal i m = eliminate_row_by w k pivots i (entry i k m *ᶠ reciprocal) m
