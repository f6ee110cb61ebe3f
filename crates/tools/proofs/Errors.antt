-- A refusal's number and index name one error: the book's go to 19.
use Rattle.std.proofs.Common.{◌≡◌, refl, sym, ap, ◌∙◌, arith}
use Rattle.book.specs.Answers.{number_of, index_of}
use Rattle.book.specs.declared.book_error.BookError.{BookError}
use Rattle.book.proofs.Errors as Book
use Rattle.tools.specs.Refusals.{OneError}
use Rattle.tools.specs.Numbers.{question_value}
use Rattle.tools.specs.declared.question_error.QuestionError.{QuestionError}

not_of_book : (e : BookError) → number_of e ≡ question_value → ⊥
not_of_book e t =
    let full : BookError.BookFull ≡ e = sym (ap (λ n. Book.error_of n (index_of e)) t) ∙ Book.error_back e in
    let number : 17 ≡ question_value = ap number_of full ∙ t in
    omega (arith, number)

pub one_error : OneError
one_error (QuestionError.Book e) (QuestionError.Book e') n i = ap QuestionError.Book (Book.one_error e e' n i)
one_error (QuestionError.Book e) QuestionError.QuestionValue n i = absurd (not_of_book e n)
one_error QuestionError.QuestionValue (QuestionError.Book e') n i = absurd (not_of_book e' (sym n))
one_error QuestionError.QuestionValue QuestionError.QuestionValue n i = refl
