use Rattle.std.proofs.Common.{◌≡◌, refl, sym, arith, rules, tests}
use Rattle.weather.specs.Lines.{line_of}
use Rattle.weather.proofs.Laws.Lines.{few_headers, line_absent, line_last, line_other}
use Rattle.weather.proofs.lines.find_line.Goals as goal

pub returns-in_err-before : goal.returns-in_err-before
unfolding line_of
returns-in_err-before c = let z : c.args.line ≡ 0 = omega (arith, c.in_err-before.ensures) in rw (c.from_residual.ensures, z) refl

pub returns-in_err-behind_headers : goal.returns-in_err-behind_headers
returns-in_err-behind_headers c =
    rw c.from_residual-in_err-behind_headers.ensures
    (sym (few_headers c.args.file.now c.args.line c.in_ok-before.before (omega (arith, c.in_ok-before.ensures)) c.in_err-behind_headers.ensures))

pub returns-in_err-found : goal.returns-in_err-found
returns-in_err-found c =
    rw c.from_residual-in_err-found.ensures
    (sym (line_absent c.args.file.now c.args.line c.in_ok-before.before (omega (arith, c.in_ok-before.ensures))
    c.in_ok-behind_headers.behind_headers.now c.in_ok-behind_headers.ensures c.in_err-found.ensures))

pub returns-in-Some : goal.returns-in-Some
returns-in-Some c =
    rw c.without_return.ensures
    (sym (line_other c.args.file.now c.args.line c.in_ok-before.before (omega (arith, c.in_ok-before.ensures))
    c.in_ok-behind_headers.behind_headers.now c.in_ok-behind_headers.ensures c.in_ok-found.found.now c.in_ok-found.ensures
    c.first_line-first.result.now c.first_line-first.ensures (search (rules, tests))))

pub returns-in-None : goal.returns-in-None
returns-in-None c =
    sym (line_last c.args.file.now c.args.line c.in_ok-before.before (omega (arith, c.in_ok-before.ensures))
    c.in_ok-behind_headers.behind_headers.now c.in_ok-behind_headers.ensures c.in_ok-found.found.now c.in_ok-found.ensures
    c.first_line-first.result.now c.first_line-first.ensures (search (rules, tests)))
