use Rattle.book.proofs.Laws.Writing.{entry_compared}
use Rattle.book.proofs.entry.EntryLayout.is_entry.Goals as goal

pub returns : goal.returns
returns c =
    let e = c.args.e.now in
    entry_compared c.args.self.now.zone.now e.version e.conditions.now e.limits.now e.demand e.after.now _ _ _ _ c.requires.1 c.requires.2 c.put_entry.ensures c.starts_with.ensures.value
