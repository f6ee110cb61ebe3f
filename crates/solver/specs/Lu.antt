-- The dense solve: elimination with partial pivoting of a matrix of w unknowns, apart from any right side, and the substitution of a right side.
-- Specification, Dense solve.
use Rattle.std.specs.Prelude.{ℕ, ◌+◌, ◌-◌, ◌*◌, List, Bool, cond, get_or, set, drop, ltb, eqb, Float}
use Rattle.std.specs.Float.{nan}
use Rattle.solver.specs.F64.{◌-ᶠ◌, ◌*ᶠ◌, ◌/ᶠ◌, one64}
use Rattle.solver.specs.declared.lu.Lu.{Lu}
use Rattle.solver.specs.Closeness.{valid_divisor}
use Rattle.solver.specs.Repeat.{repeat, repeat_down, all}
use Rattle.solver.specs.Rows.{entry, row, set_row, pivot_row, eliminate_row}

-- A matrix, factored or on the way there, with the row exchanges: at k the row with which row k changed places when column k was eliminated.
abbrev pub lu_with : (matrix : List Float) (interchanges : List ℕ) → Lu
lu_with matrix interchanges = record { matrix = matrix; interchanges = interchanges }

-- row k and row q, the pivot row, whose entries are given, change places whole, their factors included; nothing is done where they are one row
unfoldable pub interchange_rows : ℕ → ℕ → List Float → List Float → List Float
interchange_rows k q pivots m = cond (eqb q k) m (set_row k pivots (set_row q (row k m) m))

-- row q comes to row k, and is used to eliminate column k from each row below
unfoldable pub eliminate_column_by : ℕ → ℕ → ℕ → List Float → List ℕ → Lu
eliminate_column_by w k q m interchanges =
    lu_with (repeat (k + 1) w (eliminate_row w k (row q m) (one64 /ᶠ entry q k m)) (interchange_rows k q (row q m) m)) (set interchanges k q)

-- column k: its pivot is looked for in the rows from the diagonal down, a part of the flat matrix
unfoldable pub eliminate_column : ℕ → ℕ → Lu → Lu
eliminate_column w k lu = eliminate_column_by w k (k + pivot_row k (w - k) (drop (25 * k) lu.matrix)) lu.matrix lu.interchanges

-- each column in turn; the factors stay below the diagonal, the pivots on it
abbrev pub lu_factor : ℕ → List Float → List ℕ → Lu
lu_factor w m interchanges = repeat 0 w (eliminate_column w) (lu_with m interchanges)

-- every pivot is a valid divisor, the last column's too
unfoldable pub pivots_valid : ℕ → List Float → Bool
pivots_valid w m = all 0 w λ k. valid_divisor (entry k k m)

-- the row exchanges of the factorisation, made on a right side (a row number that no matrix has leaves it as it is)
abbrev pub swap : ℕ → ℕ → List Float → List Float
swap i j l = set (set l i (get_or l j nan)) j (get_or l i nan)

abbrev pub apply_interchange : List ℕ → ℕ → List Float → List Float
apply_interchange interchanges k b = cond (ltb (get_or interchanges k 0) 25) (swap k (get_or interchanges k 0) b) b

unfoldable pub apply_interchanges : ℕ → List ℕ → List Float → List Float
apply_interchanges w interchanges b = repeat 0 w (apply_interchange interchanges) b

-- the share of unknown k, which is x, is subtracted from the right side of row i
abbrev pub subtract_multiple : List Float → ℕ → Float → ℕ → List Float → List Float
subtract_multiple m k x i b = set b i (get_or b i nan -ᶠ entry i k m *ᶠ x)

-- forward, column by column: the share of unknown k is subtracted from the right sides below it
unfoldable pub forward_step : ℕ → List Float → ℕ → List Float → List Float
forward_step w m k b = repeat (k + 1) w (subtract_multiple m k (get_or b k nan)) b

unfoldable pub forward_substitution : ℕ → List Float → List Float → List Float
forward_substitution w m b = repeat 0 w (forward_step w m) b

-- backward, column by column: right side k is divided by the diagonal, and its share subtracted from those above it
unfoldable pub back_step : List Float → ℕ → List Float → List Float
back_step m k b =
    let x = get_or b k nan /ᶠ entry k k m in
    repeat 0 k (subtract_multiple m k x) (set b k x)

unfoldable pub back_substitution : ℕ → List Float → List Float → List Float
back_substitution w m b = repeat_down w (back_step m) b

-- the unknowns of a factored matrix, where the right side stood
unfoldable pub lu_solve : ℕ → List Float → List ℕ → List Float → List Float
lu_solve w m interchanges b = back_substitution w m (forward_substitution w m (apply_interchanges w interchanges b))
