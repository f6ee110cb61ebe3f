use Rattle.tools.proofs.Laws.Convert.{known}
use Rattle.tools.proofs.converter.read_accepted.Goals as goal

pub returns : goal.returns
returns c = known c.args.bytes.now _ c.read_book-book.ensures.values _ c.in_ok-values.was _ _ c.read_book-book.ensures.head _ c.in_ok-head.was
