-- What `record_in` and `read_record` answer, and what `Records` gives.
use Rattle.std.specs.Prelude.{ℕ, ◌≡◌, List, length, take, drop, MatchOption, None, Some}
use Rattle.std.specs.Prelude as Rust
use Rattle.std.proofs.Math.Option.{Option, none, some}
use Rattle.std.specs.Borrow.{Bor}
use Rattle.book.specs.Year.{entry_length}
use Rattle.book.specs.declared.record.Records.{Records}
use Rattle.book.specs.declared.record.ReadRecord.{ReadRecord}
use Rattle.book.specs.declared.record.ReadRecord.TheVariants.{Hour}

abbrev pub record_length : Rust.Option ℕ → Option ℕ
record_length None = none
record_length (Some n) = some n

-- of a record that is read
abbrev pub length_of : ReadRecord → ℕ
length_of (Hour n) = n

abbrev pub length_read : Rust.Option ReadRecord → Option ℕ
length_read None = none
length_read (Some r) = some (length_of r)

-- the first record of the rest, and the bytes behind it are left; or none, and the rest stays
abbrev pub NextRecord : Records → Rust.Option (Bor (List ℕ)) → Records → Type 0
NextRecord s r t =
    MatchOption r
    ((entry_length s.layout.zone.now s.rest.now ≡ none) × (t ≡ s))
    (λ x. (entry_length s.layout.zone.now s.rest.now ≡ some (length x.now)) × (x.now ≡ take (length x.now) s.rest.now) × (t.rest.now ≡ drop (length x.now) s.rest.now) × (t.layout ≡ s.layout))
