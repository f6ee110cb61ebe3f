-- Whole lists of calls: a session's events are the plain book's, and every list of calls that may be made has a session.
-- Specification, Lists of calls.
use Rattle.std.proofs.Common.{◌≡◌, refl, sym, ap, ◌∙◌, subst, Bool, true, false, ◌&&◌, cond, List, [], ◌∷◌, ◌++◌, ℕ, take, leb, leb-true, le-leb}
use mathlib.Core.Option.{none, some}
use Rattle.zone.specs.Promise.{Result, ok, refused}
use Rattle.zone.specs.Format.Head.{ReadHead}
use Rattle.zone.proofs.Promise.{and_true}
use Rattle.book.specs.Model.Interface.{Interface}
use Rattle.book.specs.Model.Calls as Book
use Rattle.book.specs.Model.Plain.{Plain, empty, book, Snapshot, snapshot, WellFormed}
use Rattle.book.proofs.Model.Formed.{PlainFormed}
use Rattle.book.specs.Model.Run.{Call, call_begin, call_append, call_take_up, call_cut, Calls, Event, plain_make, plain_event, plain_run}
use Rattle.book.specs.Model.Session.{CodeTypes, CallSpec, HeldBook, after_begin, after_take_up, after_append, returned, Made, begins, takes_up, appends, cuts, Session, ends, calls}
use Rattle.book.specs.Model.Claims.{WholeLists, Admissible, SessionFrom}
use Rattle.book.proofs.Model.InterfaceLaws.{Laws}
use Rattle.book.proofs.Model.CodeLaws.{AnswerOfCall, of_begin, of_append, of_take_up, CodeLaws}
use Rattle.book.proofs.Model.Caller.{not_made_event, make_append, make_cut, make}
use Rattle.book.proofs.Model.Laws.Bytes.{none_not_some}
use Rattle.book.proofs.Model.Whole.{agrees}

module _ (L : Interface) (T : CodeTypes L) (C : CodeLaws L T) where
  returned_is : (r : T.Reply) (out : List ℕ) (d : Book.Outcome L.State) → CallSpec L T r out d → returned L T r out ≡ d
  returned_is r out d m = λ t. record { answer = m.answer t; buffer = m.bytes t }

  -- ---- a call that was made has the event of the definitions

  made_is : {h : HeldBook L} {c : Call L.State L.Item} {e : Event L.State} → Made L T h c e → e ≡ make L h c
  unfolding make
  made_is (begins h head buf g r out m) = ap (after_begin L h) (returned_is r out (Book.begin L head (T.given_of g) buf) m)
  made_is (takes_up h bytes g r m) = ap (after_take_up L h bytes) m
  made_is (appends v h i spare g r out hd same m) =
      rw hd
      (ap (after_append L)
      (returned_is r out (Book.append L h.zone (T.given_of g) i (v.bytes ++ spare)) m
      ∙ ap (λ x. Book.append L h.zone x i (v.bytes ++ spare)) same))
  made_is (cuts v h at g r hd lo hi same m) =
      rw (hd, le-leb h.length at lo, le-leb at v.values.used hi)
      (ap (after_take_up L (some v) (take at v.bytes))
      (m ∙ ap (λ x. Book.take_up L x (take at v.bytes)) same))

  has_answer : {h : HeldBook L} {c : Call L.State L.Item} {e : Event L.State} → Made L T h c e → (a : Book.Answer L.State) × (e.answer ≡ some a)
  has_answer (begins h head buf g r out m) = (T.answer_of r, refl)
  has_answer (takes_up h bytes g r m) = (T.answer_of r, refl)
  has_answer (appends v h i spare g r out hd same m) = (T.answer_of r, refl)
  has_answer (cuts v h at g r hd lo hi same m) = (T.answer_of r, refl)

  -- ---- a call that has an answer may be made

  abbrev MayBe : HeldBook L → Call L.State L.Item → Event L.State → Type 0
  MayBe h c e = (a : Book.Answer L.State) × (e.answer ≡ some a) → Made L T h c e

  not_made : (h : HeldBook L) (c : Call L.State L.Item) → MayBe h c (not_made_event L h)
  not_made h c x = none_not_some x.0 x.1

  -- a reply for an answer
  module _ (d : Book.Outcome L.State) (p : AnswerOfCall L d.answer) where
    abbrev reply : T.Reply
    reply = (C.reply_for d.answer p).0

    meets : CallSpec L T reply d.buffer d
    meets = record { answer = (C.reply_for d.answer p).1; bytes = refl }

    returned_as : returned L T reply d.buffer ≡ d
    returned_as = returned_is reply d.buffer d meets

  begin_made : (h : HeldBook L) (head : List ℕ) (g : Book.BookState L.State) (buf : List ℕ)
      → Made L T h (call_begin head g buf) (after_begin L h (Book.begin L head g buf))
  begin_made h head g buf =
      let w = C.given_back g in
      let d : Book.Outcome L.State = Book.begin L head (T.given_of w.0) buf in
      let p : AnswerOfCall L d.answer = of_begin head (T.given_of w.0) buf in
      subst (λ x. Made L T h (call_begin head x buf) (after_begin L h (Book.begin L head x buf))) w.1
      (subst (λ x. Made L T h (call_begin head (T.given_of w.0) buf) (after_begin L h x))
      (returned_as d p) (begins h head buf w.0 _ _ (meets d p)))

  take_up_made : (h : HeldBook L) (g : Book.BookState L.State) (bytes : List ℕ)
      → Made L T h (call_take_up g bytes) (after_take_up L h bytes (Book.take_up L g bytes))
  take_up_made h g bytes =
      let w = C.given_back g in
      let r = C.reply_for _ (of_take_up (T.given_of w.0) bytes) in
      subst (λ x. Made L T h (call_take_up x bytes) (after_take_up L h bytes (Book.take_up L x bytes))) w.1
      (subst (λ x. Made L T h (call_take_up (T.given_of w.0) bytes) (after_take_up L h bytes x))
      r.1 (takes_up h bytes w.0 r.0 r.1))

  append_made : (v : Snapshot L.State) (i : L.Item) (spare : List ℕ) (x : Result (ReadHead L.Zone)) → L.head_of v.bytes ≡ x
      → MayBe (some v) (call_append i spare) (make_append L v i spare x)
  append_made v i spare (refused c j) e = not_made (some v) (call_append i spare)
  append_made v i spare (ok h) e =
      λ _.
      let w = C.given_back v.values in
      let d : Book.Outcome L.State = Book.append L h.zone (T.given_of w.0) i (v.bytes ++ spare) in
      let p : AnswerOfCall L d.answer = of_append h.zone (T.given_of w.0) i (v.bytes ++ spare) in
      subst (λ x. Made L T (some v) (call_append i spare) (after_append L x))
      (returned_as d p ∙ ap (λ x. Book.append L h.zone x i (v.bytes ++ spare)) w.1)
      (appends v h i spare w.0 _ _ e w.1 (meets d p))

  module _ (v : Snapshot L.State) (at : ℕ) where
    abbrev bytes : List ℕ
    bytes = take at v.bytes

    cut_made : (h : ReadHead L.Zone) → L.head_of v.bytes ≡ ok h → (b : Bool) → (leb h.length at && leb at v.values.used) ≡ b
        → MayBe (some v) (call_cut at) (cond b (after_take_up L (some v) bytes (Book.take_up L v.values bytes)) (not_made_event L (some v)))
    cut_made h e false t = not_made (some v) (call_cut at)
    cut_made h e true t =
        λ _.
        let both = and_true (leb h.length at) (leb at v.values.used) t in
        let w = C.given_back v.values in
        let r = C.reply_for _ (of_take_up (T.given_of w.0) bytes) in
        subst (λ x. Made L T (some v) (call_cut at) (after_take_up L (some v) bytes x))
        (r.1 ∙ ap (λ x. Book.take_up L x bytes) w.1)
        (cuts v h at w.0 r.0 e (leb-true _ _ both.0) (leb-true _ _ both.1) w.1 r.1)

    cut_may : (x : Result (ReadHead L.Zone)) → L.head_of v.bytes ≡ x → MayBe (some v) (call_cut at) (make_cut L v at x)
    cut_may (refused c j) e = not_made (some v) (call_cut at)
    cut_may (ok h) e = cut_made h e (leb h.length at && leb at v.values.used) refl

  may_be : (h : HeldBook L) (c : Call L.State L.Item) → MayBe h c (make L h c)
  unfolding make
  may_be h (call_begin head g buf) = λ _. begin_made h head g buf
  may_be h (call_take_up g bytes) = λ _. take_up_made h g bytes
  may_be none (call_append i spare) = not_made none (call_append i spare)
  may_be (some v) (call_append i spare) = append_made v i spare (L.head_of v.bytes) refl
  may_be none (call_cut at) = not_made none (call_cut at)
  may_be (some v) (call_cut at) = cut_may v at (L.head_of v.bytes) refl

  -- ---- the whole list

  module _ (W : Laws L) where
    only : {h : HeldBook L} {cs : Calls L} {es : List (Event L.State)} → Session L T h cs es → (p : Plain L.Item) → PlainFormed L p → h ≡ snapshot L p
        → Admissible L (plain_run L p cs) × (es ≡ plain_run L p cs)
    unfolding plain_run plain_event
    only (ends h) p pp q = (tt, refl)
    only (calls h c e cs es m rest) p pp q =
        let a = agrees L W p pp c in
        let is : e ≡ plain_event L (plain_make L p c) = made_is m ∙ ap (λ x. make L x c) q ∙ a.0 in
        let r = only rest (plain_make L p c).next a.1 (ap (λ x. x.held) is) in
        let x = has_answer m in
        (((x.0, sym (ap (λ y. y.answer) is) ∙ x.1), r.0), (λ t. is t ∷ r.1 t))

    exists : (p : Plain L.Item) → PlainFormed L p → (cs : Calls L) → Admissible L (plain_run L p cs) → Session L T (snapshot L p) cs (plain_run L p cs)
    unfolding plain_run plain_event
    exists p pp [] m = ends (snapshot L p)
    exists p pp (c ∷ cs) m =
        let a = agrees L W p pp c in
        calls (snapshot L p) c (plain_event L (plain_make L p c)) cs _
        (subst (Made L T (snapshot L p) c) a.0 (may_be (snapshot L p) c (m.0.0, ap (λ x. x.answer) a.0 ∙ m.0.1)))
        (exists (plain_make L p c).next a.1 cs m.1)

    session_of : (p : Plain L.Item) → PlainFormed L p → SessionFrom L T p
    session_of p pp cs es =
        (λ s. only s p pp refl, λ x. subst (Session L T (snapshot L p) cs) (sym x.1) (exists p pp cs x.0))

    pub session_exactly : SessionFrom L T empty
    session_exactly = session_of empty tt

    pub session_from : (head : List ℕ) (is : List L.Item) → WellFormed L head is → SessionFrom L T (book head is)
    session_from head is S = session_of (book head is) S

    pub whole_lists : WholeLists L T
    unfolding snapshot
    whole_lists cs es s = ((session_exactly cs es).0 s).1
