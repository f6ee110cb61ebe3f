use Rattle.std.proofs.Common.{◌≡◌, ◌+◌, length, drop}
use Rattle.book.specs.Model.Calls as Book
use Rattle.book.specs.Year.{carried, no_entry_version, year_interface}
use Rattle.book.specs.Answers.{given_of}
use Rattle.book.proofs.entries.check_entries.Given as goal

-- what is left to check answers what all entries do
abbrev pub invariant-loop-entry : goal.invariant-loop-entry
invariant-loop-entry l =
    let z = l.fn.calculation.zone.now in
    record {
      of_same : (l.calculation.zone ≡ l.fn.calculation.zone) × (l.calculation.coefficients ≡ l.fn.calculation.coefficients);
      zone : l.entry-iterator.layout.zone.now ≡ z;
      used : l.book.used + length l.entry-iterator.rest.now ≡ length l.bytes;
      told : Book.check_entries year_interface z 0 (carried l.fn.start no_entry_version) l.head_length (Book.whole_entries year_interface z (drop l.head_length l.bytes))
          ≡ Book.check_entries year_interface z l.book.count (given_of l.book).state l.book.used (Book.whole_entries year_interface z l.entry-iterator.rest.now);
    }
