use Rattle.book.proofs.Calls.{begin_short, begin_good}
use Rattle.book.proofs.book.begun.Goals as goal

pub returns-then-buf-n-clause-begun : goal.returns-then-buf-n-clause-begun
returns-then-buf-n-clause-begun c =
    begin_short _ _ _ c.read_head.ensures.head _ _ c.in_ok-n.was _ c.init_node_temps.ensures _ c.in_ok-state.was c.if-buf-n.true

pub returns-clause-begun : goal.returns-clause-begun
returns-clause-begun c =
    begin_good _ _ _ c.read_head.ensures.head _ _ c.in_ok-n.was _ c.init_node_temps.ensures _ c.in_ok-state.was _ c.no_entries.ensures c.if-buf-n.false _ c.put.ensures
