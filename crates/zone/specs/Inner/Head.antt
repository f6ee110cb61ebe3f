-- What `read_head` answers: a head by its structure, before any value is judged. head_as_tested (proofs/Laws/StructuredHead.antt) ties it to `head_of`.
use Rattle.std.specs.Prelude.{ℕ, List, [], Ok, Err}
use Rattle.std.specs.Prelude as Rust
use Rattle.solver.specs.Result.{Result, ok, refused, bind}
use Rattle.zone.specs.Answers.{number_of, index_of}
use Rattle.zone.specs.Format.Decode.{zone_at}
use Rattle.zone.specs.Format.Head.{structure_of, ReadHead}
use Rattle.zone.specs.declared.record.zone_record.Zone.{Zone}
use Rattle.zone.specs.declared.record.refusal.Refusal.{Refusal}

-- a head whose structure is right, before any value is judged
unfoldable pub structured_head : List ℕ → Result (ReadHead Zone)
structured_head bs =
    bind (structure_of bs) λ n.
    ok (record { zone = zone_at bs; length = n })

-- what a zone is that no head was read into: what no bytes are read as
unfoldable pub no_zone : Zone
no_zone = zone_at []

-- the answer of `read_head`, with the zone that it leaves
abbrev pub head_read : Rust.Result ℕ Refusal → Zone → Result (ReadHead Zone)
head_read (Ok n) z = ok (record { zone = z; length = n })
head_read (Err e) z = refused (number_of e) (index_of e)
