use Rattle.std.proofs.Common.{rules, tests, ◌≡◌, refl}
use Rattle.std.specs.Float.{nan}
use Rattle.solver.specs.Rows.{entry}
use Rattle.solver.specs.Inner.Columns.{column_of}
use Rattle.solver.proofs.Laws.FromFn.{from_fn_is}
use Rattle.solver.proofs.Laws.Together.{column_length, column_at}
use Rattle.solver.proofs.rows.column.Goals as goal

pub returns : goal.returns
returns c =
    let m = c.args.m.now in
    let j = c.args.j in
    from_fn_is _ (λ f. (f.0.now ≡ m) × (f.1.now ≡ j)) (λ i. entry i j m) 25 (λ f i y q few kept k. (search (rules, kept), search (rules, tests, kept)))
    (column_of j m) nan _ _ (refl, refl) (column_length j m) (column_at j m) c.from_fn.ensures.items
