-- What the functions' own contracts ensure of a call is what a session has of it (specs/Model/InSession.antt).
use Rattle.std.proofs.Common.{◌≡◌, subst, sym, List, ◌++◌, ℕ, take}
use mathlib.Core.Option.{some}
use Rattle.book.specs.Model.Interface.{Interface}
use Rattle.book.specs.Model.Calls as Book
use Rattle.book.specs.Model.Run.{call_append, call_cut}
use Rattle.book.specs.Model.Session.{CodeTypes, CallSpec, after_take_up, Made, begins, takes_up, appends, cuts}
use Rattle.book.specs.Model.InSession.{BeginInSession, TakeUpInSession, AppendInSession, CutInSession}

module _ (L : Interface) (T : CodeTypes L) where
  pub begin_in_session : (head buf : List ℕ) (given : T.BookState) (r : T.Reply) (out : List ℕ)
      → CallSpec L T r out (Book.begin L head (T.given_of given) buf) → BeginInSession L T head buf given r out
  begin_in_session head buf given r out m h = begins h head buf given r out m

  pub append_in_session : (z : L.Zone) (i : L.Item) (buf : List ℕ) (given : T.BookState) (r : T.Reply) (out : List ℕ)
      → CallSpec L T r out (Book.append L z (T.given_of given) i buf) → AppendInSession L T z i buf given r out
  append_in_session z i buf given r out m v h spare hd zone same used =
      appends v h i spare given r out hd same
      (subst (λ x. CallSpec L T r out (Book.append L x (T.given_of given) i (v.bytes ++ spare))) zone
      (subst (λ x. CallSpec L T r out (Book.append L z (T.given_of given) i x)) used m))

  module _ (bytes : List ℕ) (given : T.BookState) (r : T.Reply) (m : T.answer_of r ≡ Book.take_up L (T.given_of given) bytes) where
    pub take_up_in_session : TakeUpInSession L T bytes given r
    take_up_in_session h = takes_up h bytes given r m

    pub cut_in_session : CutInSession L T bytes given r
    cut_in_session v h at hd lo hi same is =
        subst (λ x. Made L T (some v) (call_cut at) (after_take_up L (some v) x (T.answer_of r))) (sym is)
        (cuts v h at given r hd lo hi same (subst (λ x. T.answer_of r ≡ Book.take_up L (T.given_of given) x) is m))
