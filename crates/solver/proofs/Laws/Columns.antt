-- The last column of the dense matrix apart (specs/Inner/Columns.antt): the factorisation of the columns before it does not read it, and `lu_factor` makes of
-- it what interchanges and forward substitution make of a right side, bit for bit.
use Rattle.std.proofs.Common.{◌≡◌, refl, ap, ◌∙◌, List, ℕ, suc, ◌+◌, ◌-◌, ◌*◌, ◌≤◌, ◌<◌, arith, length, set, drop, Float, eq-eqb}
use Rattle.solver.specs.F64.{◌/ᶠ◌, one64}
use Rattle.solver.specs.Repeat.{repeat}
use Rattle.solver.specs.Rows.{entry, row, larger_in_column, pivot_row, eliminate_row}
use Rattle.solver.specs.declared.lu.Lu.{Lu}
use Rattle.solver.specs.Lu.{lu_with, interchange_rows, eliminate_column_by, eliminate_column, lu_factor, apply_interchange, apply_interchanges, forward_step}
use Rattle.solver.specs.Inner.Columns.{factor_column, factor_columns, factor_last}
use Rattle.solver.proofs.Laws.Counting.{repeat_done}
use Rattle.solver.proofs.Laws.Turns.{repeat_last, repeat_relates}
use Rattle.solver.proofs.Laws.Forward.{forward_all}
use Rattle.solver.proofs.Laws.Pivots.{pivot_same, pivot_less}
use Rattle.solver.proofs.Laws.ColumnStep.{Apart, column_after, Besides, by_row}

-- one column, its pivot row looked for
column_step : (n : ℕ) (c : List Float) → n ≤ 24 → length c ≡ 25 → (k : ℕ) (x y : Lu) → 0 ≤ k → k < n → Besides n c k x y →
    Besides n c (suc k) (eliminate_column (n + 1) k x) (factor_column n k y)
unfolding Besides eliminate_column factor_column
column_step n c hn hc k x y h hk b =
    let full = x.matrix in
    let m = y.matrix in
    let interchanges' = y.interchanges in
    let same : (i : ℕ) → i < n + 1 → entry i k full ≡ entry i k m = λ i g. b.apart.others i k (omega arith) (omega arith) (λ e. omega arith) in
    let less : pivot_row k (n + 1 - k) (drop (25 * k) m) < n + 1 - k = pivot_less k (n + 1) full m (omega arith) same in
    rw (b.same_interchanges, pivot_same k (n + 1) full m (omega arith) same)
    (by_row n c k (k + pivot_row k (n + 1 - k) (drop (25 * k) m)) full interchanges' m hn hk (omega arith) (omega arith) hc b.interchanges_fit b.apart)

-- the last turn of `lu_factor` leaves the matrix as it is
last_turn : (n : ℕ) (m : List Float) (interchanges : List ℕ) → eliminate_column (n + 1) n (lu_with m interchanges) ≡ lu_with m (set interchanges n n)
unfolding eliminate_column eliminate_column_by interchange_rows
last_turn n m interchanges =
    let one : n + 1 - n ≡ 1 = omega arith in
    let here : n + 0 ≡ n = omega arith in
    rw (one, repeat_done (larger_in_column n (drop (25 * n) m)) 1 1 0 (omega arith), here, eq-eqb n n refl)
    (ap (λ (l : List Float). lu_with l (set interchanges n n)) (repeat_done (eliminate_row (n + 1) n (row n m) (one64 /ᶠ entry n n m)) (n + 1) (n + 1) m (omega arith)))

-- What `lu_factor` of n + 1 unknowns makes of a matrix, and what `factor_columns` makes of the same matrix, whatever stands in its column n.
pub data FactoredApart (n : ℕ) (c : List Float) : Lu → Lu → Type 0 where
  factored_apart : (full m : List Float) (interchanges : List ℕ) → length interchanges ≡ 25 → Apart n full m (factor_last n m interchanges c) →
      FactoredApart n c (lu_with full (set interchanges n n)) (lu_with m interchanges)

start_at : (n : ℕ) (full m c : List Float) (interchanges : List ℕ) → length interchanges ≡ 25 → Apart n full m c → Besides n c 0 (lu_with full interchanges) (lu_with m interchanges)
unfolding Besides apply_interchanges
start_at n full m c interchanges hx a =
    let none : column_after n c 0 m interchanges ≡ c = repeat_done (forward_step (n + 1) m) 0 0 (apply_interchanges 0 interchanges c) (omega arith) ∙ repeat_done (apply_interchange interchanges) 0 0 c (omega arith) in
    record { same_interchanges = refl; interchanges_fit = hx; apart = rw none a }

finish_at : (n : ℕ) (c : List Float) (x y : Lu) → Besides n c n x y → FactoredApart n c (eliminate_column (n + 1) n x) y
unfolding Besides factor_last
finish_at n c x y b =
    let m = y.matrix in
    let interchanges' = y.interchanges in
    rw (last_turn n x.matrix x.interchanges, b.same_interchanges)
    (factored_apart x.matrix m interchanges' b.interchanges_fit (rw (forward_all n m (apply_interchanges n interchanges' c)) b.apart))

pub columns_apart : (n : ℕ) (full m c : List Float) (interchanges : List ℕ) → n ≤ 24 → length c ≡ 25 → length interchanges ≡ 25 → Apart n full m c →
    FactoredApart n c (lu_factor (n + 1) full interchanges) (factor_columns n m interchanges)
columns_apart n full m c interchanges hn hc hx a =
    rw (repeat_last (eliminate_column (n + 1)) 0 n (lu_with full interchanges) (omega arith))
    (finish_at n c (repeat 0 n (eliminate_column (n + 1)) (lu_with full interchanges)) (factor_columns n m interchanges)
    (repeat_relates (Besides n c) (eliminate_column (n + 1)) (factor_column n) 0 n (lu_with full interchanges) (lu_with m interchanges) (omega arith) (column_step n c hn hc) (start_at n full m c interchanges hx a)))
