-- What the definitions of hem_begin, hem_append and hem_take_up leave is what a session has of their calls.
use Rattle.std.proofs.Common.{ℕ, ◌≡◌, refl, ap, ◌∙◌, List, ◌++◌, take, Float}
use Rattle.zone.specs.Promise.{Result, ok, refused, bind}
use Rattle.zone.specs.Format.Head.{ReadHead, head_of}
use Rattle.zone.proofs.Claims.Head.{head_then}
use Rattle.zone.specs.declared.record.zone_record.Zone.{Zone}
use Rattle.book.specs.Model.Calls as Book
use Rattle.book.specs.Model.Session.{CallSpec}
use Rattle.book.specs.Year.{hour_item, Carried, year_interface}
use Rattle.book.proofs.Model.CodeLaws.{AnswerOfCall, of_begin, of_append, of_take_up}
use Rattle.book.proofs.Model.InSession as OfCall
use Rattle.hem_zone.specs.Code.{answer_code, lent_after, answered}
use Rattle.hem_zone.specs.Arrays.{limits_of}
use Rattle.hem_zone.specs.Zone.{with_zone}
use Rattle.hem_zone.specs.Book.{CBookState, book_state_of, c_book_state_of, book_out, hem_begin_outcome, hem_append_outcome, hem_take_up_outcome}
use Rattle.hem_zone.specs.BookTypes.{answer_of, reply_in, c_types}
use Rattle.hem_zone.specs.InSession.{AppendInSession}
use Rattle.hem_zone.proofs.BookTypes.{answer_back}

module _ (held : CBookState) where
  answered_meets : (buf : List ℕ) (d : Result (Book.BookState Carried × List ℕ)) → AnswerOfCall year_interface (Book.outcome_of (book_state_of held) buf d).answer
      → (c : ℕ) (out : List ℕ) (after : CBookState) → (c, (out, after)) ≡ answered book_out (buf, held) d → CallSpec year_interface c_types (c, after) out (Book.outcome_of (book_state_of held) buf d)
  unfolding answered answer_code lent_after
  answered_meets buf (ok r) p c out after e = record { answer = ap (λ x. answer_of (x.0, x.1.1)) e ∙ answer_back _ p; bytes = ap (λ x. x.1.0) e }
  answered_meets buf (refused n j) p c out after e = record { answer = ap (λ x. answer_of (x.0, x.1.1)) e ∙ answer_back _ p; bytes = ap (λ x. x.1.0) e }

  answered_is : (d : Result (Book.BookState Carried)) → answered c_book_state_of held d ≡ reply_in (Book.answer_from (book_state_of held) d)
  unfolding answered answer_code lent_after
  answered_is (ok v) = refl
  answered_is (refused n j) = refl

pub begin_meets : (head buf : List ℕ) (held : CBookState) (c : ℕ) (out : List ℕ) (after : CBookState) → (c, (out, after)) ≡ hem_begin_outcome head buf held
    → CallSpec year_interface c_types (c, after) out (Book.begin year_interface head (book_state_of held) buf)
unfolding hem_begin_outcome Book.begin
begin_meets head buf held c out after e = answered_meets held buf (Book.begin_res year_interface head buf) (of_begin head (book_state_of held) buf) c out after e

append_of : (head buf : List ℕ) (held : CBookState) (conditions : List ℕ) (version : ℕ) (heating_limit cooling_limit : Float) (h : ReadHead Zone) (c : ℕ) (out : List ℕ) (after : CBookState) → head_of head ≡ ok h
    → (c, (out, after)) ≡ hem_append_outcome head buf held conditions version heating_limit cooling_limit
    → CallSpec year_interface c_types (c, after) out (Book.append year_interface h.zone (book_state_of held) (hour_item version conditions (limits_of heating_limit cooling_limit)) buf)
unfolding hem_append_outcome with_zone Book.append
append_of head buf held conditions version heating_limit cooling_limit h c out after k e =
    answered_meets held buf (Book.append_res year_interface h.zone (book_state_of held) (hour_item version conditions (limits_of heating_limit cooling_limit)) buf)
    (of_append h.zone (book_state_of held) (hour_item version conditions (limits_of heating_limit cooling_limit)) buf) c out after
    (e ∙ ap (λ t. answered book_out (buf, held) (bind t λ x. Book.append_res year_interface x.zone (book_state_of held) (hour_item version conditions (limits_of heating_limit cooling_limit)) buf)) k)

-- the head handed in is the book's own, as it stands at the front of its used bytes, with any bytes behind it
pub append_meets : (used behind buf : List ℕ) (h : ReadHead Zone) (held : CBookState) (conditions : List ℕ) (version : ℕ) (heating_limit cooling_limit : Float) (c : ℕ) (out : List ℕ) (after : CBookState) → head_of used ≡ ok h
    → (c, (out, after)) ≡ hem_append_outcome (take h.length used ++ behind) buf held conditions version heating_limit cooling_limit
    → CallSpec year_interface c_types (c, after) out (Book.append year_interface h.zone (book_state_of held) (hour_item version conditions (limits_of heating_limit cooling_limit)) buf)
append_meets used behind buf h held conditions version heating_limit cooling_limit c out after k e = append_of (take h.length used ++ behind) buf held conditions version heating_limit cooling_limit h c out after (head_then used behind h k) e

pub append_in_session : (head buf : List ℕ) (held : CBookState) (conditions : List ℕ) (version : ℕ) (heating_limit cooling_limit : Float) (c : ℕ) (out : List ℕ) (after : CBookState)
    → (c, (out, after)) ≡ hem_append_outcome head buf held conditions version heating_limit cooling_limit
    → AppendInSession head (hour_item version conditions (limits_of heating_limit cooling_limit)) buf held (c, after) out
append_in_session head buf held conditions version heating_limit cooling_limit c out after e v h spare behind k q same used =
    OfCall.append_in_session year_interface c_types h.zone (hour_item version conditions (limits_of heating_limit cooling_limit)) buf held (c, after) out
    (append_of head buf held conditions version heating_limit cooling_limit h c out after (ap head_of q ∙ head_then v.bytes behind h k) e)
    v h spare k refl same used

pub take_up_is : (bytes : List ℕ) (held : CBookState) → hem_take_up_outcome bytes held ≡ reply_in (Book.take_up year_interface (book_state_of held) bytes)
unfolding hem_take_up_outcome Book.take_up
take_up_is bytes held = answered_is held (Book.take_up_res year_interface bytes)

pub take_up_meets : (bytes : List ℕ) (held : CBookState) → answer_of (hem_take_up_outcome bytes held) ≡ Book.take_up year_interface (book_state_of held) bytes
take_up_meets bytes held = ap answer_of (take_up_is bytes held) ∙ answer_back _ (of_take_up (book_state_of held) bytes)
