use Rattle.std.proofs.Common.{refl}
use Rattle.tools.proofs.Laws.Asked.{asked_yes}
use Rattle.tools.proofs.asked.asked_book.Goals as goal

pub returns : goal.returns
returns c =
    asked_yes _ _ c.read_book-book.ensures.values _ c.in_ok-book.was _ _ c.read_book-book.ensures.head _ c.in_ok-head.was _ _ c.read_book-book.ensures.start
    _ c.operative_of.ensures _ refl refl
