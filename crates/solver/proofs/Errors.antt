-- A refusal's number names one error.
use Rattle.std.proofs.Common.{ℕ, eqb, cond, ◌≡◌, refl, sym, ap, ◌∙◌}
use Rattle.solver.specs.Answers.{number_of}
use Rattle.solver.specs.Numbers.{divisor}
use Rattle.solver.specs.Refusals.{OneError}
use Rattle.solver.specs.declared.error.SolveError.{SolveError}
use Rattle.solver.specs.declared.error.SolveError.TheVariants.{Divisor, Temperature}

abbrev error_of : (number : ℕ) → SolveError
error_of number = cond (eqb number divisor) Divisor Temperature

error_back : (e : SolveError) → error_of (number_of e) ≡ e
error_back Divisor = refl
error_back Temperature = refl

pub one_error : OneError
one_error e e' same = sym (error_back e) ∙ ap error_of same ∙ error_back e'
