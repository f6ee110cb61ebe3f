-- A factored matrix whose last column is apart: its pivots are tested and its right sides solved for as those of the whole matrix.
use Rattle.std.proofs.Common.{◌≡◌, sym, ap, ◌∙◌, List, ℕ, ◌+◌, ◌≤◌, ◌<◌, arith, length, get_or, set, set-set, Float}
use lib.Seq.{set-get_or}
use lib.Ieee.{nan}
use Rattle.solver.specs.F64.{◌/ᶠ◌}
use Rattle.solver.specs.Closeness.{valid_divisor}
use Rattle.solver.specs.Rows.{entry}
use Rattle.solver.specs.Lu.{pivots_valid, swap, apply_interchanges, subtract_multiple, forward_step, forward_substitution, back_step, back_substitution, lu_solve}
use Rattle.solver.specs.Inner.Columns.{factor_last, pivots_valid_apart, subtract_last_multiple, back_last, lu_solve_apart}
use Rattle.solver.proofs.Laws.Turns.{repeat_same, all_last, all_same, down_first, down_same}
use Rattle.solver.proofs.Laws.Forward.{forward_same, forward_all, interchanges_next}
use Rattle.solver.proofs.Laws.ColumnStep.{Apart}

-- a place that changes places with itself
swap_self : (n : ℕ) (l : List Float) → swap n n l ≡ l
swap_self n l = set-set l n (get_or l n nan) (get_or l n nan) ∙ set-get_or l n nan

module _ (n : ℕ) (full m last : List Float) (hn : n ≤ 24) (a : Apart n full m last) where
  same : (i j : ℕ) → i < 25 → j < n → entry i j full ≡ entry i j m
  same i j h g = a.others i j h (omega arith) (λ e. omega arith)

  pub pivots_apart : pivots_valid (n + 1) full ≡ pivots_valid_apart n m last
  unfolding pivots_valid
  pivots_apart =
      all_last (λ k. valid_divisor (entry k k full)) 0 n (omega arith)
      ∙ rw (a.column n (omega arith), all_same (λ k. valid_divisor (entry k k full)) (λ k. valid_divisor (entry k k m)) 0 n (λ k u v. ap valid_divisor (same k k (omega arith) v)))

  forward_apart : (b : List Float) → forward_substitution (n + 1) full b ≡ forward_substitution (n + 1) m b
  forward_apart b =
      forward_all n full b
      ∙ repeat_same (forward_step (n + 1) full) (forward_step (n + 1) m) 0 n b (λ k t u v. forward_same (n + 1) full m k t (λ i h. same i k (omega arith) v))
      ∙ sym (forward_all n m b)

  back_last_lem : (b : List Float) → back_step full n b ≡ back_last n last b
  unfolding back_step back_last
  back_last_lem b =
      let x = get_or b n nan /ᶠ get_or last n nan in
      rw (a.column n (omega arith))
      (repeat_same (subtract_multiple full n x) (subtract_last_multiple last x) 0 n (set b n x) (λ i t u v. rw (a.column i (omega arith))))

  back_before : (k : ℕ) (b : List Float) → k < n → back_step full k b ≡ back_step m k b
  unfolding back_step
  back_before k b h =
      let x = get_or b k nan /ᶠ entry k k m in
      rw (same k k (omega arith) h)
      (repeat_same (subtract_multiple full k x) (subtract_multiple m k x) 0 k (set b k x) (λ i t u v. rw (same i k (omega arith) h)))

  back_apart : (b : List Float) → back_substitution (n + 1) full b ≡ back_substitution n m (back_last n last b)
  unfolding back_substitution
  back_apart b =
      down_first (back_step full) n b
      ∙ rw (back_last_lem b) (down_same (back_step full) (back_step m) n (back_last n last b) (λ k t h. back_before k t h))

  pub solve_apart : (interchanges : List ℕ) (b : List Float) → length interchanges ≡ 25 → lu_solve (n + 1) full (set interchanges n n) b ≡ lu_solve_apart n m last interchanges b
  unfolding lu_solve lu_solve_apart factor_last
  solve_apart interchanges b h =
      rw (interchanges_next n n interchanges b (omega arith) (omega arith), swap_self n (apply_interchanges n interchanges b), forward_apart (apply_interchanges n interchanges b))
      (back_apart (forward_substitution (n + 1) m (apply_interchanges n interchanges b)))
