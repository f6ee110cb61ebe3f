-- The dense solve with its last column apart: columns 0 to n - 1 of n + 1 rows are factored once, and the last column, which alone changes with the
-- air change rate, is treated as a right side is. proofs/Laws/Columns.antt and Apart.antt prove that this is `lu_factor` and `lu_solve` of specs/Lu.antt, bit for bit.
use Rattle.std.specs.Prelude.{ℕ, ◌+◌, ◌-◌, ◌*◌, List, Bool, ◌&&◌, get_or, set, drop, replicate, Float}
use Rattle.std.specs.Float.{nan}
use Rattle.solver.specs.F64.{◌-ᶠ◌, ◌*ᶠ◌, ◌/ᶠ◌, zero64, one64}
use Rattle.solver.specs.Closeness.{valid_divisor}
use Rattle.solver.specs.Repeat.{repeat}
use Rattle.solver.specs.Rows.{entry, row, pivot_row, eliminate_row}
use Rattle.solver.specs.declared.lu.Lu.{Lu}
use Rattle.solver.specs.Lu.{lu_with, interchange_rows, pivots_valid, apply_interchanges, forward_substitution, back_substitution}

-- column j: its entry i is the matrix's
abbrev pub column_entry : ℕ → List Float → ℕ → List Float → List Float
column_entry j m i c = set c i (entry i j m)

unfoldable pub column_of : ℕ → List Float → List Float
column_of j m = repeat 0 25 (column_entry j m) (replicate 25 zero64)

-- column k, as `eliminate_column` has it with n + 1 unknowns, but for column n, from which nothing is read and which only changes rows with the others
unfoldable pub factor_column_by : ℕ → ℕ → ℕ → List Float → List ℕ → Lu
factor_column_by n k q m interchanges =
    lu_with (repeat (k + 1) (n + 1) (eliminate_row n k (row q m) (one64 /ᶠ entry q k m)) (interchange_rows k q (row q m) m)) (set interchanges k q)

unfoldable pub factor_column : ℕ → ℕ → Lu → Lu
factor_column n k lu = factor_column_by n k (k + pivot_row k (n + 1 - k) (drop (25 * k) lu.matrix)) lu.matrix lu.interchanges

abbrev pub factor_columns : ℕ → List Float → List ℕ → Lu
factor_columns n m interchanges = repeat 0 n (factor_column n) (lu_with m interchanges)

-- the last column, or a right side: its interchanges made, and forward
unfoldable pub factor_last : ℕ → List Float → List ℕ → List Float → List Float
factor_last n m interchanges column = forward_substitution (n + 1) m (apply_interchanges n interchanges column)

-- every pivot is a valid divisor, the last column's too
abbrev pub pivots_valid_apart : ℕ → List Float → List Float → Bool
pivots_valid_apart n m last = pivots_valid n m && valid_divisor (get_or last n nan)

-- the share of the last unknown, which is x, is subtracted from the right side of row i
abbrev pub subtract_last_multiple : List Float → Float → ℕ → List Float → List Float
subtract_last_multiple last x i b = set b i (get_or b i nan -ᶠ get_or last i nan *ᶠ x)

-- backward: the last unknown first
unfoldable pub back_last : ℕ → List Float → List Float → List Float
back_last n last b =
    let x = get_or b n nan /ᶠ get_or last n nan in
    repeat 0 n (subtract_last_multiple last x) (set b n x)

-- the unknowns, where the right side stood
unfoldable pub lu_solve_apart : ℕ → List Float → List Float → List ℕ → List Float → List Float
lu_solve_apart n m last interchanges b = back_substitution n m (back_last n last (factor_last n m interchanges b))
