-- The laws that the types of a book's functions meet: all values are some of theirs, and every answer that a call gives is some reply's.
use Rattle.std.proofs.Common.{◌≡◌, List, ℕ}
use Rattle.book.specs.Model.Interface.{Interface}
use Rattle.book.specs.Model.Calls as Book
use Rattle.book.specs.Model.Session.{CodeTypes}

-- an answer that a call gives
pub data AnswerOfCall (L : Interface) : Book.Answer L.State → Type 0 where
  of_begin : (head : List ℕ) (g : Book.BookState L.State) (buf : List ℕ) → AnswerOfCall L (Book.begin L head g buf).answer
  of_append : (z : L.Zone) (g : Book.BookState L.State) (i : L.Item) (buf : List ℕ) → AnswerOfCall L (Book.append L z g i buf).answer
  of_take_up : (g : Book.BookState L.State) (bytes : List ℕ) → AnswerOfCall L (Book.take_up L g bytes)

pub record CodeLaws (L : Interface) (T : CodeTypes L) : Type 0 where
  pub given_back : (v : Book.BookState L.State) → (w : T.BookState) × (T.given_of w ≡ v)
  pub reply_for : (a : Book.Answer L.State) → AnswerOfCall L a → (r : T.Reply) × (T.answer_of r ≡ a)
