-- A refusal's number and index name it.
use Rattle.std.proofs.Common.{ℕ, ◌-◌, ◌≡◌, refl, sym, ap, ◌∙◌, List, [], ◌∷◌, get_or}
use Rattle.solver.specs.declared.error.SolveError.TheVariants.{Divisor, Temperature}
use Rattle.zone.specs.declared.record.refusal.Refusal.{Refusal}
use Rattle.zone.specs.Answers.{number_of, index_of}
use Rattle.zone.specs.Claims.Errors.{OneError}

-- the refusals of the numbers 1 to 18, with an index
abbrev numbered : (index : ℕ) → List Refusal
numbered i =
    Refusal.HeadShort
    ∷ Refusal.HeadLength
    ∷ Refusal.HeadVersion
    ∷ Refusal.Structure i
    ∷ Refusal.ZoneValue i
    ∷ Refusal.StateInvalid
    ∷ Refusal.ConditionsSize
    ∷ Refusal.ConditionsCode
    ∷ Refusal.ConditionsValue i
    ∷ Refusal.CoolingBelowHeating
    ∷ Refusal.VentilationBelowHeating
    ∷ Refusal.Solve Divisor
    ∷ Refusal.Solve Temperature
    ∷ Refusal.NoEffect
    ∷ Refusal.NotSettled
    -- 16 and 17 are the book's
    ∷ Refusal.LimitValue
    ∷ Refusal.LimitValue
    ∷ Refusal.FalseEntry i
    ∷ []

-- behind them 19
abbrev error_of : (number index : ℕ) → Refusal
error_of n i = get_or (numbered i) (n - 1) Refusal.LimitValue

error_back : (e : Refusal) → error_of (number_of e) (index_of e) ≡ e
error_back Refusal.HeadShort = refl
error_back Refusal.HeadLength = refl
error_back Refusal.HeadVersion = refl
error_back (Refusal.Structure i) = refl
error_back (Refusal.ZoneValue i) = refl
error_back Refusal.StateInvalid = refl
error_back Refusal.ConditionsSize = refl
error_back Refusal.ConditionsCode = refl
error_back (Refusal.ConditionsValue i) = refl
error_back Refusal.CoolingBelowHeating = refl
error_back Refusal.VentilationBelowHeating = refl
error_back (Refusal.Solve Divisor) = refl
error_back (Refusal.Solve Temperature) = refl
error_back Refusal.NoEffect = refl
error_back Refusal.NotSettled = refl
error_back (Refusal.FalseEntry i) = refl
error_back Refusal.LimitValue = refl

pub one_error : OneError
one_error e e' n i = sym (error_back e) ∙ ap (λ x. error_of x (index_of e)) n ∙ ap (error_of (number_of e')) i ∙ error_back e'
