use Rattle.std.proofs.Common.{◌≡◌, length, sym, ◌∙◌, rules, Err}
use Rattle.solver.proofs.Laws.Together.{parts_divisor, parts_solved}
use Rattle.solver.proofs.system.fast_solver.Goals as goal

pub returns-in_err-factor_last : goal.returns-in_err-factor_last
returns-in_err-factor_last c =
    let h : length c.args.a.now.dense ≡ 625 = search rules in
    let e : c.from_residual.result ≡ Err c.in_err-factor_last.field-0.0 = search rules in
    rw e
    (sym
    (parts_divisor c.args.a.now c.args.temps.now c.factor_columns.new.self _ c.factor_last.new.last c.factor_last.result
    h (search rules) c.factor_columns.ensures c.factor_last.ensures.column c.factor_last.ensures.divisors _ (c.in_err-factor_last.was {u = tt})))

-- back from the last call to the first: the substitution, the reduction, the test, the last column, the columns
pub returns : goal.returns
returns c =
    let h : length c.args.a.now.dense ≡ 625 = search rules in
    let g : length c.args.temps.now ≡ 121 = search rules in
    (rw (c.gather-v.ensures, c.count.ensures) at c.substitute_apart.ensures)
    ∙ sym
    (parts_solved c.args.a.now c.args.temps.now c.factor_columns.new.self _ c.factor_last.new.last c.factor_last.result
    h (search rules) c.factor_columns.ensures c.factor_last.ensures.column c.factor_last.ensures.divisors
    c.reduce_base.new.base _ g (c.in_ok-factor_last.was {u = tt}) c.reduce_base.ensures)
