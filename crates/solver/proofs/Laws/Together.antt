-- `fast_solver` in the parts of specs/Inner/Apart.antt: the columns before the last factored once, the last column for each rate, the right side reduced once,
-- and each load gathered and substituted.
use Rattle.std.proofs.Common.{◌≡◌, refl, sym, ap, ◌∙◌, ⊎_elim, Bool, true, false, cond, ◌&&◌, List, ℕ, ◌+◌, ◌*◌, ◌≤◌, ◌<◌, arith, ltb, length, get_or, set, replicate, length-set, get_or-set_same, get_or-set_other, Float, ltb-false}
use Rattle.std.specs.Prelude.{Ok, Err}
use Rattle.std.specs.Prelude as Rust
use lib.Ieee.{nan}
use Rattle.std.proofs.Math.Bool.{and_assoc}
use Rattle.std.proofs.lemmas.Bool.{cases_eq}
use Rattle.solver.specs.declared.system.Matrix.{Matrix}
use Rattle.solver.specs.declared.lu.Lu.{Lu}
use Rattle.solver.specs.declared.system.Factors.{Factors}
use Rattle.solver.specs.declared.dense_part.RightSide.{RightSide}
use Rattle.solver.specs.declared.error.SolveError.{SolveError}
use Rattle.solver.specs.Numbers.{divisor}
use Rattle.solver.specs.Result.{Result, ok, refused, require}
use Rattle.solver.specs.Answers.{number_of, answered}
use Rattle.solver.specs.Inner.Factored.{Solved}
use Rattle.solver.specs.F64.{zero64}
use Rattle.solver.specs.Closeness.{valid_divisor}
use Rattle.solver.specs.Rows.{entry, set_entry}
use Rattle.solver.specs.Lu.{lu_with, lu_factor, pivots_valid}
use Rattle.solver.specs.Inner.Columns.{column_of, factor_columns, factor_last, lu_solve_apart}
use Rattle.solver.specs.Chain.{eliminate_chains, divisors_valid, nodes_within}
use Rattle.solver.specs.Inner.Reduced.{reduce_chains, inner_shares, gather_reduced, with_load, gather_loaded}
use Rattle.solver.specs.FastSolver.{at_most24, set_inner_diagonals, temperatures}
use Rattle.solver.specs.Inner.Reduced.{set_inner_diagonal}
use Rattle.solver.specs.Inner.Factored.{Factored, factored, factor_dense, factor, solved, substitute, substitute_factored, fast_solver}
use Rattle.solver.specs.Inner.Apart.{Columns, columns, valid_in, diag_in, dense_in, interchanges_in, factor_apart, temperatures_apart, substitute_apart, factored_columns, reduced_base}
use Rattle.solver.proofs.Laws.Turns.{repeat_relates}
use Rattle.solver.proofs.Laws.Stores.{stores_length, stores_in}
use Rattle.solver.proofs.Laws.ColumnStep.{Apart}
use Rattle.solver.proofs.Laws.Columns.{FactoredApart, factored_apart, columns_apart}
use Rattle.solver.proofs.Laws.Apart.{pivots_apart, solve_apart}
use Rattle.solver.proofs.Laws.Reduction.{gather_reduced_lem, scatter_reduced}
use Rattle.solver.proofs.Laws.Loaded.{gather_loaded_lem, scatter_loaded}

-- no more than 24
pub at_most : (n : ℕ) → at_most24 n ≤ 24
at_most n = by (ltb 24 n) refl
  where
    by : (t : Bool) → ltb 24 n ≡ t → cond t 24 n ≤ 24
    by true e = omega arith
    by false e = ltb-false 24 n e

-- a matrix with its own column beside it
pub column_length : (n : ℕ) (m : List Float) → length (column_of n m) ≡ 25
unfolding column_of
column_length n m = stores_length nan (λ i. i) (λ i x. entry i n m) 0 25 (replicate 25 zero64)

pub column_at : (n : ℕ) (m : List Float) (i : ℕ) → i < 25 → get_or (column_of n m) i nan ≡ entry i n m
unfolding column_of
column_at n m i u = stores_in nan (λ i. i) (λ i x. entry i n m) 0 25 (replicate 25 zero64) i (λ x y n e. n e) (omega arith) u u

pub own_column : (n : ℕ) (m : List Float) → length m ≡ 625 → Apart n m m (column_of n m)
own_column n m h =
    record {
      full_length = h;
      m_length = h;
      others = λ i j u v o. refl;
      column = λ i u. sym (column_at n m i u);
    }

-- another entry in the last row of the last column: the column alone changes, as it does with the air change rate
pub rate_apart : (n : ℕ) (full m c : List Float) (x : Float) → n ≤ 24 → length c ≡ 25 → Apart n full m c → Apart n (set_entry n n x full) m (set c n x)
rate_apart n full m c x hn hc a =
    record {
      full_length = length-set full (25 * n + n) x ∙ a.full_length;
      m_length = a.m_length;
      others = λ i j u v o. get_or-set_other full (25 * n + n) (25 * i + j) x nan (λ e. o (omega arith)) ∙ a.others i j u v o;
      column =
          λ i u. ⊎_elim
          (λ (e : i ≡ n). rw e (get_or-set_same full (25 * n + n) x nan (omega (arith, a.full_length)) ∙ sym (get_or-set_same c n x nan (omega arith))))
          (λ (o : i ≡ n → ⊥).
          get_or-set_other full (25 * n + n) (25 * i + n) x nan (λ e. o (omega arith)) ∙ a.column i u ∙ sym (get_or-set_other c n i x nan o))
          (cases_eq i n);
    }

-- the inner diagonals leave the last column as it is
store_apart : (n : ℕ) (full m c : List Float) (e : ℕ) (x : Float) → n ≤ 24 → e < n → Apart n full m c → Apart n (set_entry e e x full) (set_entry e e x m) c
store_apart n full m c e x hn h a =
    record {
      full_length = length-set full (25 * e + e) x ∙ a.full_length;
      m_length = length-set m (25 * e + e) x ∙ a.m_length;
      others =
          λ i j u v o. ⊎_elim
          (λ (q : 25 * i + j ≡ 25 * e + e).
          rw q
          (get_or-set_same full (25 * e + e) x nan (omega (arith, a.full_length)) ∙ sym (get_or-set_same m (25 * e + e) x nan (omega (arith, a.m_length)))))
          (λ (q : 25 * i + j ≡ 25 * e + e → ⊥).
          get_or-set_other full (25 * e + e) (25 * i + j) x nan q ∙ a.others i j u v o ∙ sym (get_or-set_other m (25 * e + e) (25 * i + j) x nan q))
          (cases_eq (25 * i + j) (25 * e + e));
      column = λ i u. get_or-set_other full (25 * e + e) (25 * i + n) x nan (λ q. omega arith) ∙ a.column i u;
    }

diagonals_apart : (n : ℕ) (diag full m c : List Float) → n ≤ 24 → Apart n full m c → Apart n (set_inner_diagonals n diag full) (set_inner_diagonals n diag m) c
unfolding set_inner_diagonals
diagonals_apart n diag full m c hn a =
    repeat_relates (λ (e : ℕ) (u v : List Float). Apart n u v c) (set_inner_diagonal diag) (set_inner_diagonal diag) 0 n full m (omega arith)
    (λ e u v lo hi r. store_apart n u v c e (get_or diag (5 * e + 4) nan) hn hi r) a

-- What `factor` makes of a matrix, and what `factor_apart` makes of it, whatever stands in column n of its dense part.
pub data FactorsApart (n : ℕ) (c : List Float) : Factored → Columns → Type 0 where
  factors_apart : (valid : Bool) (diag full m : List Float) (interchanges : List ℕ) → length interchanges ≡ 25 → Apart n full m (factor_last n m interchanges c) →
      FactorsApart n c
      (factored (cond (valid && valid_divisor (get_or (factor_last n m interchanges c) n nan)) 0 12) diag full (set interchanges n n))
      (columns valid diag m interchanges)

abbrev test_divisors : ℕ → List Bool → List Float → Lu → Factored
test_divisors n two_nodes diag lu =
    factored (cond (divisors_valid n two_nodes diag && pivots_valid (n + 1) lu.matrix) 0 12) diag lu.matrix lu.interchanges

abbrev test_columns : ℕ → List Bool → List Float → Lu → Columns
test_columns n two_nodes diag lu = columns (divisors_valid n two_nodes diag && pivots_valid n lu.matrix) diag lu.matrix lu.interchanges

abbrev test_nodes : ℕ → List Bool → List Float → Solved
test_nodes n two_nodes t = solved (cond (nodes_within n two_nodes t) 0 13) t

tests_apart : (n : ℕ) (two_nodes : List Bool) (diag c : List Float) (x y : Lu) → n ≤ 24 → FactoredApart n c x y →
    FactorsApart n c (test_divisors n two_nodes diag x) (test_columns n two_nodes diag y)
tests_apart n two_nodes diag c x y hn (factored_apart full m interchanges hx a) =
    let last = factor_last n m interchanges c in
    rw (pivots_apart n full m last hn a, ← and_assoc (divisors_valid n two_nodes diag) (pivots_valid n m) (valid_divisor (get_or last n nan)))
    (factors_apart (divisors_valid n two_nodes diag && pivots_valid n m) diag full m interchanges hx a)

factors_apart_lem : (a : Matrix) (m c : List Float) (interchanges : List ℕ) → length c ≡ 25 → length interchanges ≡ 25 → Apart (at_most24 a.n) a.dense m c →
    FactorsApart (at_most24 a.n) c (factor a interchanges) (factor_apart (at_most24 a.n) a.two_nodes a.diag a.next a.prev m interchanges)
unfolding factor factor_dense factor_apart
factors_apart_lem a m c interchanges hc hx p =
    let n = at_most24 a.n in
    let d = eliminate_chains n a.two_nodes a.next a.prev a.diag in
    tests_apart n a.two_nodes d c (lu_factor (n + 1) (set_inner_diagonals n d a.dense) interchanges) (factor_columns n (set_inner_diagonals n d m) interchanges) (at_most a.n)
    (columns_apart n (set_inner_diagonals n d a.dense) (set_inner_diagonals n d m) c interchanges (at_most a.n) hc hx (diagonals_apart n d a.dense m c (at_most a.n) p))

-- a right side solved for, reduced before; and one with a load
module _ (n : ℕ) (two_nodes : List Bool) (diag next prev full m last : List Float) (interchanges : List ℕ) (b shares : List Float)
    (hn : n ≤ 24) (p : Apart n full m last) (hx : length interchanges ≡ 25) (hb : length b ≡ 121) (hs : length shares ≡ 24) where
  abbrev y : List Float
  y = reduce_chains n two_nodes diag prev b

  temperatures_reduced : temperatures n two_nodes diag next prev full (set interchanges n n) b
      ≡ temperatures_apart n two_nodes diag next m last interchanges (gather_reduced n y (inner_shares n diag prev y shares)) y
  unfolding temperatures temperatures_apart
  temperatures_reduced =
      let v = gather_reduced n y (inner_shares n diag prev y shares) in
      rw (gather_reduced_lem diag prev two_nodes n b shares hn hb hs, solve_apart n full m last hn p interchanges v hx, scatter_reduced diag prev two_nodes n b shares hn hb hs (lu_solve_apart n m last interchanges v))

  temperatures_loaded : (gains air : Float) → temperatures n two_nodes diag next prev full (set interchanges n n) (with_load n gains air b)
      ≡ temperatures_apart n two_nodes diag next m last interchanges (gather_loaded n y (inner_shares n diag prev y shares) gains air) y
  unfolding temperatures temperatures_apart
  temperatures_loaded gains air =
      let v = gather_loaded n y (inner_shares n diag prev y shares) gains air in
      rw (gather_loaded_lem diag prev two_nodes n gains air b shares hn hb hs, solve_apart n full m last hn p interchanges v hx, scatter_loaded diag prev two_nodes n gains air b shares hn hb hs (lu_solve_apart n m last interchanges v))

-- The solver, for those who factor the columns of a matrix once and a last column for each rate, and reduce a right side once for several loads. The laws take
-- the equations that the contracts of `factor_columns` (on interchanges of zeros) and of `factor_last` give.
module _ (a : Matrix) (m c : List Float) (valid : Bool) (diag dense : List Float) (interchanges : List ℕ) (last : List Float)
    (p : Apart (at_most24 a.n) a.dense m c) (hc : length c ≡ 25)
    (f : columns valid diag dense interchanges ≡ factor_apart (at_most24 a.n) a.two_nodes a.diag a.next a.prev m (replicate 25 0))
    (l : last ≡ factor_last (at_most24 a.n) dense interchanges c) where
  abbrev n : ℕ
  n = at_most24 a.n

  -- a divisor or a pivot that is not valid
  refused_by : (b : List Float) (x : Factored) (z : Columns) → FactorsApart n c x z → columns valid diag dense interchanges ≡ z →
      (valid && valid_divisor (get_or last n nan)) ≡ false → substitute_factored a b x ≡ solved 12 b
  refused_by b x z (factors_apart valid' diag' full' m' interchanges' hx q) e t =
      let v : valid ≡ valid' = cc in
      let d : dense ≡ m' = cc in
      let s : interchanges ≡ interchanges' = cc in
      rw (← v, ← d, ← s, ← l, t)

  pub apart_divisor : (b : List Float) → (valid && valid_divisor (get_or last n nan)) ≡ false → fast_solver a b ≡ solved 12 b
  unfolding fast_solver
  apart_divisor b t =
      refused_by b (factor a (replicate 25 0)) (factor_apart n a.two_nodes a.diag a.next a.prev m (replicate 25 0))
      (factors_apart_lem a m c (replicate 25 0) hc refl p) f t

  -- all of them valid
  module _ (t : (valid && valid_divisor (get_or last n nan)) ≡ true) where
    solved_by : (b : List Float) (w : List Float) (x : Factored) (z : Columns) → FactorsApart n c x z → columns valid diag dense interchanges ≡ z →
        ((full : List Float) → length interchanges ≡ 25 → Apart n full dense last → temperatures n a.two_nodes diag a.next a.prev full (set interchanges n n) b ≡ w) →
        substitute_factored a b x ≡ test_nodes n a.two_nodes w
    unfolding substitute
    solved_by b w x z (factors_apart valid' diag' full' m' interchanges' hx q) e k =
        let v : valid ≡ valid' = cc in
        let g : diag ≡ diag' = cc in
        let d : dense ≡ m' = cc in
        let s : interchanges ≡ interchanges' = cc in
        let h : Apart n full' dense last = rw (l, d, s) q in
        let o : length interchanges ≡ 25 = rw s hx in
        rw (← v, ← d, ← s, ← l, t, ← g) (ap (test_nodes n a.two_nodes) (k full' o h))

    solved_as : (b w : List Float) →
        ((full : List Float) → length interchanges ≡ 25 → Apart n full dense last → temperatures n a.two_nodes diag a.next a.prev full (set interchanges n n) b ≡ w) →
        fast_solver a b ≡ test_nodes n a.two_nodes w
    unfolding fast_solver
    solved_as b w k =
        solved_by b w (factor a (replicate 25 0)) (factor_apart n a.two_nodes a.diag a.next a.prev m (replicate 25 0))
        (factors_apart_lem a m c (replicate 25 0) hc refl p) f k

    module _ (b shares : List Float) (hb : length b ≡ 121) (hs : length shares ≡ 24) where
      abbrev reduced : List Float
      reduced = reduce_chains n a.two_nodes diag a.prev b

      abbrev inner : List Float
      inner = inner_shares n diag a.prev reduced shares

      apart_reduced : fast_solver a b ≡ substitute_apart n a.two_nodes diag a.next dense last interchanges (gather_reduced n reduced inner) reduced
      unfolding substitute_apart
      apart_reduced =
          solved_as b (temperatures_apart n a.two_nodes diag a.next dense last interchanges (gather_reduced n reduced inner) reduced)
          (λ full hx q. temperatures_reduced n a.two_nodes diag a.next a.prev full dense last interchanges b shares (at_most a.n) q hx hb hs)

      pub apart_loaded : (gains air : Float) → fast_solver a (with_load n gains air b)
          ≡ substitute_apart n a.two_nodes diag a.next dense last interchanges (gather_loaded n reduced inner gains air) reduced
      unfolding substitute_apart
      apart_loaded gains air =
          solved_as (with_load n gains air b) (temperatures_apart n a.two_nodes diag a.next dense last interchanges (gather_loaded n reduced inner gains air) reduced)
          (λ full hx q. temperatures_loaded n a.two_nodes diag a.next a.prev full dense last interchanges b shares (at_most a.n) q hx hb hs gains air)

-- What the contract of `factor_columns` says, as the equation that the laws above take.
columns_again : (k : Columns) → columns (valid_in k) (diag_in k) (dense_in k) (interchanges_in k) ≡ k
columns_again (columns valid diag dense interchanges) = refl

pub factored_are : (f g : Factors) → g ≡ factored_columns f →
    columns g.valid g.chains.diag g.lu.matrix g.lu.interchanges
    ≡ factor_apart (at_most24 f.chains.n) f.chains.two_nodes f.chains.diag f.chains.next f.chains.prev f.lu.matrix f.lu.interchanges
factored_are f g e =
    ap (λ (h : Factors). columns h.valid h.chains.diag h.lu.matrix h.lu.interchanges) e
    ∙ columns_again (factor_apart (at_most24 f.chains.n) f.chains.two_nodes f.chains.diag f.chains.next f.chains.prev f.lu.matrix f.lu.interchanges)

-- A test that decides between an answer and the refusal of a divisor.
refused_divisor : (t : Bool) (k : ℕ) → ◌≡◌ {A = Result (Unit {0})} (refused k 0) (require t divisor) → (t ≡ false) × (k ≡ divisor)
refused_divisor true k e = absurd (cc)
refused_divisor false k e = (refl, cc)

ok_divisor : (t : Bool) (u : Unit {0}) → ok u ≡ require t divisor → t ≡ true
ok_divisor true u e = refl
ok_divisor false u e = absurd (cc)

-- A matrix in the form that is kept, with nothing factored yet.
abbrev unfactored : Matrix → Factors
unfactored a =
    record {
      chains = record { n = a.n; two_nodes = a.two_nodes; diag = a.diag; next = a.next; prev = a.prev };
      lu = lu_with a.dense (replicate 25 0);
      valid = false;
    }

-- The solver on one right side: the equations that the contracts give along `fast_solver`, put together.
module _ (a : Matrix) (b : List Float) (f : Factors) (c last : List Float) (x : Rust.Result (Unit {0}) SolveError)
    (ha : length a.dense ≡ 625) (hc : c ≡ column_of (at_most24 a.n) a.dense) (hf : f ≡ factored_columns (unfactored a))
    (l : last ≡ factor_last (at_most24 f.chains.n) f.lu.matrix f.lu.interchanges c)
    (v : answered x ≡ require (f.valid && valid_divisor (get_or last (at_most24 f.chains.n) nan)) divisor) where
  same_n : f.chains.n ≡ a.n
  same_n = ap (λ (g : Factors). g.chains.n) hf

  beside : Apart (at_most24 a.n) a.dense a.dense c
  beside = rw hc (own_column (at_most24 a.n) a.dense ha)

  fits : length c ≡ 25
  fits = rw hc (column_length (at_most24 a.n) a.dense)

  own_last : last ≡ factor_last (at_most24 a.n) f.lu.matrix f.lu.interchanges c
  own_last = rw same_n at l

  pub parts_divisor : (e : SolveError) → x ≡ Err e → fast_solver a b ≡ solved (number_of e) b
  parts_divisor e h =
      let t = refused_divisor (f.valid && valid_divisor (get_or last (at_most24 a.n) nan)) (number_of e) (rw (h, same_n) at v) in
      rw (t.1)
      (apart_divisor a a.dense c f.valid f.chains.diag f.lu.matrix f.lu.interchanges last beside fits (factored_are (unfactored a) f hf) own_last b (t.0))

  pub parts_solved : (base : RightSide) (u : Unit {0}) → length b ≡ 121 → x ≡ Ok u →
      base ≡ reduced_base f (record { b = b; inner = replicate 24 zero64 }) →
      fast_solver a b
      ≡ substitute_apart (at_most24 f.chains.n) f.chains.two_nodes f.chains.diag f.chains.next f.lu.matrix last f.lu.interchanges
      (gather_reduced (at_most24 f.chains.n) base.b base.inner) base.b
  parts_solved base u hb h r =
      let t = ok_divisor (f.valid && valid_divisor (get_or last (at_most24 a.n) nan)) u (rw (h, same_n) at v) in
      rw (r, same_n, ap (λ (g : Factors). g.chains.two_nodes) hf, ap (λ (g : Factors). g.chains.next) hf, ap (λ (g : Factors). g.chains.prev) hf)
      (apart_reduced a a.dense c f.valid f.chains.diag f.lu.matrix f.lu.interchanges last beside fits (factored_are (unfactored a) f hf) own_last t b (replicate 24 zero64) hb refl)
