use Rattle.std.proofs.Common.{rules, tests, ◌≡◌, refl}
use Rattle.std.specs.Float.{nan}
use Rattle.solver.specs.Sums.{terms_of}
use Rattle.solver.specs.Rows.{entry, row}
use Rattle.solver.proofs.Laws.FromFn.{from_fn_is}
use Rattle.solver.proofs.Laws.Sums.{terms_at}
use Rattle.solver.proofs.rows.row.Goals as goal

pub returns : goal.returns
unfolding row terms_of
returns c =
    let m = c.args.m.now in
    let i = c.args.i in
    from_fn_is _ (λ f. (f.0.now ≡ m) × (f.1.now ≡ i)) (λ j. entry i j m) 25 (λ f j y q few kept k. (search (rules, kept), search (rules, tests, kept)))
    (row i m) nan _ _ (refl, refl) refl (λ j h. terms_at (λ j. entry i j m) 25 j nan h) c.from_fn.ensures.items
