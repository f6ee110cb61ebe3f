-- The words of Inner that contracts and proofs of the layers above cite: they name this file alone.
pub use Rattle.solver.specs.Inner.Factored.{Solved, solved, solved_res}
pub use Rattle.solver.specs.Inner.Columns.{column_of, factor_last}
pub use Rattle.solver.specs.Inner.Reduced.{reduce_chains, inner_shares, gather_loaded}
unfoldable pub use Rattle.solver.specs.Inner.Reduced.{with_load}
pub use Rattle.solver.specs.Inner.Apart.{Columns, columns, factor_apart, substitute_apart, factored_columns, reduced_base}
