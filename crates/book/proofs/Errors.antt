-- A refusal's number and index name one error.
use Rattle.std.proofs.Common.{ℕ, ◌-◌, ◌≡◌, refl, sym, ap, ◌∙◌, List, [], ◌∷◌, get_or}
use Rattle.zone.specs.Promise.{Divisor, Temperature}
use Rattle.zone.specs.declared.record.refusal.Refusal.{Refusal}
use Rattle.book.specs.Answers.{number_of, index_of}
use Rattle.book.specs.Refusals.{OneError}
use Rattle.book.specs.declared.book_error.BookError.{BookError}

-- the errors of the numbers 1 to 19, with an index
abbrev numbered : (index : ℕ) → List BookError
numbered i =
    BookError.Zone Refusal.HeadShort ∷
    BookError.Zone Refusal.HeadLength ∷
    BookError.Zone Refusal.HeadVersion ∷
    BookError.Zone (Refusal.Structure i) ∷
    BookError.Zone (Refusal.ZoneValue i) ∷
    BookError.Zone Refusal.StateInvalid ∷
    BookError.Zone Refusal.ConditionsSize ∷
    BookError.Zone Refusal.ConditionsCode ∷
    BookError.Zone (Refusal.ConditionsValue i) ∷
    BookError.Zone Refusal.CoolingBelowHeating ∷
    BookError.Zone Refusal.VentilationBelowHeating ∷
    BookError.Zone (Refusal.Solve Divisor) ∷
    BookError.Zone (Refusal.Solve Temperature) ∷
    BookError.Zone Refusal.NoEffect ∷
    BookError.Zone Refusal.NotSettled ∷
    BookError.BufferShort ∷
    BookError.BookFull ∷
    BookError.Zone (Refusal.FalseEntry i) ∷
    BookError.Zone Refusal.LimitValue ∷ []

abbrev pub error_of : (number index : ℕ) → BookError
error_of n i = get_or (numbered i) (n - 1) BookError.BookFull

pub error_back : (e : BookError) → error_of (number_of e) (index_of e) ≡ e
error_back (BookError.Zone Refusal.HeadShort) = refl
error_back (BookError.Zone Refusal.HeadLength) = refl
error_back (BookError.Zone Refusal.HeadVersion) = refl
error_back (BookError.Zone (Refusal.Structure i)) = refl
error_back (BookError.Zone (Refusal.ZoneValue i)) = refl
error_back (BookError.Zone Refusal.StateInvalid) = refl
error_back (BookError.Zone Refusal.ConditionsSize) = refl
error_back (BookError.Zone Refusal.ConditionsCode) = refl
error_back (BookError.Zone (Refusal.ConditionsValue i)) = refl
error_back (BookError.Zone Refusal.CoolingBelowHeating) = refl
error_back (BookError.Zone Refusal.VentilationBelowHeating) = refl
error_back (BookError.Zone (Refusal.Solve Divisor)) = refl
error_back (BookError.Zone (Refusal.Solve Temperature)) = refl
error_back (BookError.Zone Refusal.NoEffect) = refl
error_back (BookError.Zone Refusal.NotSettled) = refl
error_back (BookError.Zone (Refusal.FalseEntry i)) = refl
error_back (BookError.Zone Refusal.LimitValue) = refl
error_back BookError.BufferShort = refl
error_back BookError.BookFull = refl

pub one_error : OneError
one_error e e' n i = sym (error_back e) ∙ ap (λ x. error_of x (index_of e)) n ∙ ap (error_of (number_of e')) i ∙ error_back e'
