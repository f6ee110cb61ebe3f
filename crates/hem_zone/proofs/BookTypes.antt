-- Every answer that begin, append and take-up give is read back from what the C functions return and leave.
use Rattle.std.proofs.Common.{ℕ, zero, suc, ◌%◌, ◌/◌, ◌≤◌, ◌≡◌, refl, List, arith}
use Rattle.zone.specs.Promise.{Result, RefusesOnly, accepts, refuses}
use Rattle.book.specs.Model.Calls as Book
use Rattle.book.specs.Model.Claims.{HandedOn}
use Rattle.book.proofs.Model.CodeLaws.{AnswerOfCall, of_begin, of_append, of_take_up, CodeLaws}
use Rattle.book.specs.Year.{Carried, year_interface}
use Rattle.book.proofs.Refusals.{begin_refusals, append_refusals, take_up_refusals}
use Rattle.hem_zone.specs.Code.{refusal_code}
use Rattle.hem_zone.specs.Book.{book_state_of, c_book_state_of}
use Rattle.hem_zone.specs.BookTypes.{answer_by, answer_of, reply_in, c_types}
use Rattle.hem_zone.proofs.Laws.Numbered.{Numbered, begin_numbered, append_numbered, take_up_numbered}
use Rattle.hem_zone.proofs.Claims.{code_exact, code_number, code_index}

read_back : (returned number index : ℕ) (v : Book.BookState Carried) → 1 ≤ returned → returned % 256 ≡ number → returned / 256 ≡ index
    → answer_by returned v ≡ Book.refused_with number index v
read_back zero number index v h n i = absurd (omega (arith, h))
read_back (suc c) number index v h n i = λ t. Book.refused_with (n t) (i t) v

refusal_back : (number index : ℕ) → Numbered number index → (v : Book.BookState Carried)
    → answer_by (refusal_code number index) v ≡ Book.refused_with number index v
refusal_back number index p v =
    let e = code_exact number index p in
    read_back (refusal_code number index) number index v (omega (arith, e, p.from_1)) (code_number number index p) (code_index number index p)

module _ {P : ℕ → ℕ → Type 0} (numbered : (number index : ℕ) → P number index → Numbered number index) (g : Book.BookState Carried) where
  taken_back : {d : Result (Book.BookState Carried)} → RefusesOnly P d → answer_of (reply_in (Book.answer_from g d)) ≡ Book.answer_from g d
  taken_back (accepts a) = refl
  taken_back (refuses {number = n} {index = i} p) = refusal_back n i (numbered n i p) g

  outcome_back : (buf : List ℕ) {d : Result (Book.BookState Carried × List ℕ)} → RefusesOnly P d
      → answer_of (reply_in (Book.outcome_of g buf d).answer) ≡ (Book.outcome_of g buf d).answer
  outcome_back buf (accepts a) = refl
  outcome_back buf (refuses {number = n} {index = i} p) = refusal_back n i (numbered n i p) g

pub answer_back : (a : Book.Answer Carried) → AnswerOfCall year_interface a → answer_of (reply_in a) ≡ a
unfolding Book.begin Book.append Book.take_up
answer_back a (of_begin head g buf) = outcome_back begin_numbered g buf (begin_refusals head buf)
answer_back a (of_append z g i buf) = outcome_back (append_numbered g.count) g buf (append_refusals z g i buf)
answer_back a (of_take_up g bytes) = taken_back take_up_numbered g (take_up_refusals bytes)

pub c_laws : CodeLaws year_interface c_types
c_laws = record { given_back = λ v. (c_book_state_of v, refl); reply_for = λ a p. (reply_in a, answer_back a p) }

-- what a caller gives the next call: `temps`, `nodes`, `count`, `used` and `last_version` as the call left them are the values that its answer hands back
pub handed_on : HandedOn year_interface c_types (λ r. r.1)
handed_on r = by r.0
  where
    by : (returned : ℕ) → book_state_of r.1 ≡ Book.handed_back (answer_by returned (book_state_of r.1))
    by zero = refl
    by (suc c) = refl
