use Rattle.std.proofs.Common.{◌+◌, refl, arith}
use Rattle.solver.specs.Inner.Columns.{factor_column, factor_column_by}
use Rattle.solver.proofs.Laws.RowsBelow.{put_below}
use Rattle.solver.proofs.lu.Lu.factor_column.Goals as goal

pub returns : goal.returns
unfolding factor_column factor_column_by
returns c =
    let k = c.args.k in
    let n = c.args.count.n in
    let few = c.args.count.few in
    let below = c.requires in
    let e = put_below c.interchange_rows.new.m c.eliminate_rows.new.part k (n + 1) n k _ _ c.interchange_rows.array_long.0 (omega arith) (omega arith) c.eliminate_rows.ensures in
    rw (e, c.interchange_rows.ensures, c.row-pivots.ensures, c.entry-pivot.ensures, c.pivot_row-q.ensures.0) refl
