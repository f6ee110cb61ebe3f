use Rattle.book.proofs.Laws.Writing.{entry_written}
use Rattle.book.proofs.entry.EntryLayout.put_entry.Goals as goal

pub returns : goal.returns
returns c = entry_written _ _ _ _ _ _ _ _ _ _ _ _ c.put_front.ensures c.put.ensures c.put-2.ensures c.put_demand.ensures c.put_temperatures.ensures
