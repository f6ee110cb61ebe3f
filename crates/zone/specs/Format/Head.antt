-- What a byte string is as a head, in the order of a head's refusals.
-- Specification, Order in a head; Head.
use Rattle.std.specs.Prelude.{ℕ, suc, zero, ◌+◌, ◌&&◌, List, length, leb, eqb}
use Rattle.solver.specs.Result.{Result, ok, bind, require, require_at}
use Rattle.zone.specs.Record.Numbers.{head_short, head_length, head_version, structure}
use Rattle.zone.specs.Format.Layout.{length_size, length_field, version_of_head, version_in, basis_in, count_in, first_element, shortest_length, longest_length, element_floats}
use Rattle.zone.specs.Format.ElementLayout.{kind_valid_at, size_at}
use Rattle.zone.specs.Format.Decode.{zone_at}
use Rattle.zone.specs.Check.ZoneTest.{count_valid, values_test}
use Rattle.zone.specs.declared.record.zone_record.Zone.{Zone}

-- where the elements end, of which `left` are left from place p on, the first of these with index i + 1; the head ends at `end`
unfoldable pub elements_end : List ℕ → (end left i p : ℕ) → Result ℕ
elements_end bs end zero i p = ok p
elements_end bs end (suc left) i p =
    bind (require (leb (p + element_floats) end) head_length) λ _.
    bind (require_at (kind_valid_at bs p) structure (i + 1)) λ _.
    bind (require (leb (p + size_at bs p) end) head_length) λ _.
    elements_end bs end left (i + 1) (p + size_at bs p)

-- the structure of a head, before any value is judged: where it ends
unfoldable pub structure_of : List ℕ → Result ℕ
structure_of bs =
    let end = length_size + length_field bs in
    bind (require (leb length_size (length bs)) head_short) λ _.
    bind (require (leb shortest_length (length_field bs) && leb (length_field bs) longest_length) head_length) λ _.
    bind (require (leb end (length bs)) head_short) λ _.
    bind (require (eqb (version_in bs) version_of_head) head_version) λ _.
    bind (require (leb (basis_in bs) 1 && count_valid (count_in bs)) structure) λ _.
    bind (elements_end bs end (count_in bs) 0 first_element) λ p.
    bind (require (eqb p end) head_length) λ _.
    ok end

-- what is read of a head: its zone, and how many bytes it has, the 4 of its length field included
pub record ReadHead (Z : Type 0) : Type 0 where
  pub zone : Z
  pub length : ℕ

unfoldable pub head_of : List ℕ → Result (ReadHead Zone)
head_of bs =
    bind (structure_of bs) λ n.
    bind (values_test (zone_at bs)) λ _.
    ok (record { zone = zone_at bs; length = n })
