-- What is claimed of heads, of zones given as records and of an hour's conditions.
-- Specification, Head; Conditions; A zone as a record; What a refusal is.
use Rattle.std.specs.Prelude.{ℕ, ◌+◌, ◌≤◌, ◌≡◌, List, ◌++◌, length, take}
use Rattle.solver.specs.Result.{ok, bind}
use Rattle.solver.specs.Refusals.{RefusesOnly}
use Rattle.zone.specs.Record.Numbers.{structure}
use Rattle.zone.specs.Format.Bytes.{Bytes}
use Rattle.zone.specs.Format.Layout.{length_size, length_field, basis_in, count_in, conditions_length}
use Rattle.zone.specs.Format.Decode.{zone_at}
use Rattle.zone.specs.Format.Head.{ReadHead, structure_of, head_of}
use Rattle.zone.specs.Format.Conditions.{conditions_of}
use Rattle.zone.specs.Check.ZoneTest.{zone_test}
use Rattle.zone.specs.Claims.Encode.{head_bytes, conditions_bytes}
use Rattle.zone.specs.Claims.RoundTrip.{ZoneFits, zone_as_read, head_length, HeadRead, HourInRange, conditions_as_read}
use Rattle.zone.specs.Claims.HeadRefusals.{HeadRefusal, ZoneRefusal, ConditionsRefusal}
use Rattle.zone.specs.declared.record.zone_record.Zone.{Zone}
use Rattle.zone.specs.declared.format.conditions.Conditions.{Conditions}
use Rattle.zone.specs.declared.format.conditions.FixedRate.{FixedRate}

-- the index of a refused head: 0; or, with 4 or 5 and once basis and count are right, an element's, from 1 to its count
pub data OfHead (bs : List ℕ) : (number index : ℕ) → Type 0 where
  no_element : {number : ℕ} → OfHead bs number 0
  element : {number index : ℕ} → structure ≤ number → basis_in bs ≤ 1 → count_in bs ≤ 24 → 1 ≤ index → index ≤ count_in bs → OfHead bs number index

-- an accepted head
pub record AcceptedHead (bs : List ℕ) (h : ReadHead Zone) : Type 0 where
  pub within : h.length ≤ length bs
  -- 4 bytes of length field, 53 up to the elements, 171 of each with five nodes, 123 + 8t of a Transparent with t treatments
  pub size : h.length ≡ head_length h.zone
  pub tested : zone_test h.zone ≡ ok tt
  -- it is read from its own bytes, whatever follows them
  pub followed : (behind : List ℕ) → head_of (take h.length bs ++ behind) ≡ ok h
  -- which are the bytes of its zone
  pub bytes : Bytes bs → take h.length bs ≡ head_bytes h.length h.zone
  -- whose values the code's types hold, and whose places that no bytes hold are as a reader leaves them
  pub fits : Bytes bs → ZoneFits h.zone
  pub unused : zone_as_read h.zone ≡ h.zone

pub record HeadClaims : Type 0 where
  pub accepted : (bs : List ℕ) (h : ReadHead Zone) → head_of bs ≡ ok h → AcceptedHead bs h
  -- bytes behind the length are not the head's: without them it is accepted or refused alike, with number and index
  pub alike : (a b : List ℕ) (n : ℕ) → n ≡ length_size + length_field a → n ≤ length a → n ≤ length b → take n a ≡ take n b → head_of a ≡ head_of b
  -- once its structure is right, a head is judged as its zone is, given as a record
  pub as_record : (bs : List ℕ) (n : ℕ) → structure_of bs ≡ ok n
      → head_of bs ≡ bind (zone_test (zone_at bs)) λ _. ok (record { zone = zone_at bs; length = n })
  -- each zone that passes has a head that is read as it: none is turned away
  pub read : (z : Zone) → ZoneFits z → zone_test z ≡ ok tt → HeadRead z
  -- no two heads are read as the same zone and length
  pub injective : (a b : List ℕ) (h : ReadHead Zone) → Bytes a → Bytes b → head_of a ≡ ok h → head_of b ≡ ok h → take h.length a ≡ take h.length b
  pub refusals : (bs : List ℕ) → RefusesOnly HeadRefusal (head_of bs)
  pub indices : (bs : List ℕ) → RefusesOnly (OfHead bs) (head_of bs)

pub record ZoneClaims (z : Zone) : Type 0 where
  pub refusals : RefusesOnly ZoneRefusal (zone_test z)
  pub count : zone_test z ≡ ok tt → (1 ≤ z.count) × (z.count ≤ 24)

pub record ConditionsClaims (fixed : FixedRate) (z : Zone) (bs : List ℕ) : Type 0 where
  pub refusals : RefusesOnly ConditionsRefusal (conditions_of fixed z bs)
  -- 113 + 41n bytes
  pub size : (c : Conditions) → conditions_of fixed z bs ≡ ok c → length bs ≡ conditions_length z.count
  -- accepted ones are the bytes of what they are read as,
  pub bytes : (c : Conditions) → Bytes bs → conditions_of fixed z bs ≡ ok c → bs ≡ conditions_bytes z.count c
  -- which is in range, and whose places that no bytes hold are as a reader leaves them,
  pub in_range : ZoneFits z → (c : Conditions) → Bytes bs → conditions_of fixed z bs ≡ ok c → HourInRange fixed z c
  pub unused : (c : Conditions) → conditions_of fixed z bs ≡ ok c → conditions_as_read z.count c ≡ c
  -- so no two are read as the same
  pub injective : (c : Conditions) (other : List ℕ) → Bytes bs → Bytes other → conditions_of fixed z bs ≡ ok c → conditions_of fixed z other ≡ ok c → bs ≡ other
