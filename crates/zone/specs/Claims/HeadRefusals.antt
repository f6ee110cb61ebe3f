-- Which number, and which index (an element's from 1 on, or 0), a refused head, a zone given as a record and an hour's conditions can have.
-- Specification, Order in a head; Order in conditions; A zone as a record; What a refusal is.
use Rattle.std.specs.Prelude.{ℕ, ◌≤◌}
use Rattle.zone.specs.Record.Numbers as Number

pub data HeadRefusal : (number index : ℕ) → Type 0 where
  -- fewer than 4 bytes, or the head's bytes end early
  head_short : HeadRefusal Number.head_short 0
  -- a length outside 176 to 4,157, an element that goes past it, or a part of it left over
  head_length : HeadRefusal Number.head_length 0
  head_version : HeadRefusal Number.head_version 0
  -- a bad basis or element count; of an element a bad kind or treatment count
  head_structure : (i : ℕ) → i ≤ 24 → HeadRefusal Number.structure i
  -- the first value out of range
  head_value : (i : ℕ) → i ≤ 24 → HeadRefusal Number.zone_value i

-- a zone given as a record is tested as its head would be: 4, then 5
pub data ZoneRefusal : (number index : ℕ) → Type 0 where
  zone_structure : (i : ℕ) → i ≤ 24 → ZoneRefusal Number.structure i
  zone_value : (i : ℕ) → i ≤ 24 → ZoneRefusal Number.zone_value i

pub data ConditionsRefusal : (number index : ℕ) → Type 0 where
  -- conditions of wrong size
  conditions_size : ConditionsRefusal Number.conditions_size 0
  -- a bad rate code, which code 0 is in a call's hour, with code 0 a second float that is not 8 zero bytes, or an open bit past the treatments
  conditions_code : ConditionsRefusal Number.conditions_code 0
  -- the first value out of range
  conditions_value : (i : ℕ) → i ≤ 24 → ConditionsRefusal Number.conditions_value i
