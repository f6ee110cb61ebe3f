use Rattle.std.proofs.Common.{ap, ◌∙◌, Err, ◌≡◌, rules, arith}
use Rattle.book.proofs.TakeUp.{entry_alone, entry_long, check_many, check_false, check_right}
use Rattle.book.proofs.entries.check_entries.Goals as goal

pub returns-then-book-ge-MOST_ENTRIES : goal.returns-then-book-ge-MOST_ENTRIES
returns-then-book-ge-MOST_ENTRIES c =
    let l = c.loop-entry in
    check_many _ l.entry-iterator l.invariant.zone l.book _ l.invariant.told c.in-Some.entry c.next.new.self (c.in-Some.ensures {u = tt}).steps c.if-book-ge-MOST_ENTRIES.true

pub check_entry-requires : goal.check_entry-requires
check_entry-requires c =
    let l = c.loop-entry in
    let i = l.invariant in
    let r = c.requires in
    record {
      tested = rw i.of_same.0 r.tested;
      standard = i.of_same.1 ∙ r.standard;
      whole = rw i.of_same.0 (entry_alone _ l.entry-iterator i.zone l.book _ i.told c.in-Some.entry c.next.new.self (c.in-Some.ensures {u = tt}).steps);
    }

pub returns-in_err-checked : goal.returns-in_err-checked
returns-in_err-checked c =
    let l = c.loop-entry in
    let i = l.invariant in
    let e : c.from_residual.result ≡ Err c.in_err-checked.field-0.0 = search rules in
    rw e
    (check_false _ l.entry-iterator i.zone l.book _ i.told c.in-Some.entry c.next.new.self (c.in-Some.ensures {u = tt}).steps
    c.if-book-ge-MOST_ENTRIES.false _ (rw i.of_same.0 at c.check_entry.ensures.checked) _ c.in_err-checked.was)

pub loop-entry-preserved : goal.loop-entry-preserved
loop-entry-preserved c =
    let l = c.loop-entry in
    let i = l.invariant in
    let next = (c.in-Some.ensures {u = tt}).steps in
    let e = c.check_entry.ensures in
    record {
      of_same = (e.of_same.0 ∙ i.of_same.0, e.of_same.1 ∙ i.of_same.1);
      zone = ap (λ x. x.zone.now) next.3 ∙ i.zone;
      used = omega (arith, i.used, entry_long _ l.entry-iterator i.zone l.book _ i.told c.in-Some.entry c.next.new.self next);
      told = check_right _ l.entry-iterator i.zone l.book _ i.told c.in-Some.entry c.next.new.self next
          c.if-book-ge-MOST_ENTRIES.false _ (rw i.of_same.0 at e.checked) _ c.in_ok-checked.was;
    }
