-- The laws that proofs of the layers above cite: Laws is private.
pub use Rattle.solver.proofs.Laws.Parts.{drop_next, part_to_end}
pub use Rattle.solver.proofs.Laws.Counting.{repeat_next, repeat_turn, repeat_end}
pub use Rattle.solver.proofs.Laws.Turns.{repeat_keeps, repeat_stays, all_last}
pub use Rattle.solver.proofs.Laws.Stores.{less_or_not}
pub use Rattle.solver.proofs.Laws.ColumnStep.{Apart}
pub use Rattle.solver.proofs.Laws.Together.{at_most, column_length, own_column, rate_apart, apart_loaded, factored_are}
pub use Rattle.solver.proofs.Laws.Loads.{load_divisor}
pub use Rattle.solver.proofs.Laws.FromFn.{from_fn_is}
pub use Rattle.solver.proofs.Laws.Signs.{never, without_sign}
pub use Rattle.solver.proofs.Laws.Order.{le_is, NoNan, clash, le_no_nan, below_no_nan, not_below, not_above, lt_irreflexive, le_lt_trans, lt_trans}
pub use Rattle.solver.proofs.Laws.Fits.{AllFit, set_fits, zeros_fit, take_fits, either_fits, repeat_fits, solve_fits}
pub use Rattle.solver.proofs.Laws.Sums.{sum2_terms_next, sum2_terms_done}
pub use Rattle.solver.proofs.Laws.Result.{ok_inj, ok_not_refused, bind_ok, bind_is, require_ok}
pub use Rattle.solver.proofs.Laws.Solver.{fast_solver_is}
pub use Rattle.solver.proofs.Laws.Refusals.{bind_refuses, cond_refuses, refusal_by, refuses_also, require_refuses, test_refuses}
pub use Rattle.solver.proofs.Laws.Tests.{and_true}
