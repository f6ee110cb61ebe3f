-- The length of an entry, and the version and the body read back from it.
use Rattle.std.proofs.Common.{ℕ, ◌≤◌, ◌<◌, ◌≡◌, ap, ◌∙◌, Bool, true, false, cond, List, [], ◌∷◌, ◌++◌, append_assoc, arith, length, take, get_or, length-append, length-take, take_at, drop_at, get_or-append-add, Float, to_bits}
use Rattle.std.specs.Prelude.{None, Option, Some}
use lib.ListN.{get_or-append}
use lib.Ieee.{binary64}
use Rattle.zone.specs.Record.BuildingElement.{node_count}
use Rattle.zone.specs.Format.Bytes.{bytes_of}
use Rattle.zone.proofs.Promise.{node_count_few, length_bytes_of, length_row}
use Rattle.zone.specs.declared.record.zone_record.Zone.{Zone}
use Rattle.zone.specs.declared.calls.state.State.{State}
use Rattle.zone.specs.declared.calls.state.Demand.{Demand}
use Rattle.zone.specs.Format.Encode.{float_bytes, row_bytes}
use Rattle.zone.specs.Format.Layout.{length_size, version_in}
use Rattle.zone.specs.Format.Limits.{power_limits_size}
use Rattle.zone.specs.Calls.Hour.{has_limits}
use Rattle.book.specs.Layout.{version_size, front_size, limits_length, following_length, whole_length, body_length}
use Rattle.book.specs.Entry.{front_bytes, trigger_bytes, demand_bytes, temperature_bytes, entry_of}
use Rattle.book.specs.Inner.Sizes.{trigger_size, demand_size, longest_entry}
use Rattle.book.specs.Year.{body_in}

-- limits have their 16 bytes or none
pub limits_few : (version : ℕ) → limits_length version ≤ power_limits_size
limits_few version = go (has_limits version)
  where
    go : (b : Bool) → cond b power_limits_size 0 ≤ power_limits_size
    go true = omega arith
    go false = omega arith

module _ (z : Zone) (h : z.count ≤ 24) where
  pub nodes_few : (n : ℕ) → n ≡ node_count z → n ≤ 121
  nodes_few n e = omega (arith, node_count_few z h)

  pub whole_few : (version : ℕ) → whole_length z version ≤ longest_entry
  whole_few version = omega (arith, node_count_few z h, limits_few version)

-- an array of 121 has so many
pub floats_few : (n : ℕ) (l : List Float) → n ≤ 121 → length l ≡ 121 → n ≤ length l
floats_few n l h e = omega arith

pub length_front : (z : Zone) (version : ℕ) → length (front_bytes z version) ≡ front_size
length_front z version =
    omega (arith, length-append (bytes_of length_size (following_length z version)) (bytes_of version_size version), length_bytes_of length_size (following_length z version), length_bytes_of version_size version)

one_byte : (version : ℕ) → version < 256 → get_or (bytes_of version_size version) 0 0 ≡ version
unfolding bytes_of
one_byte version h = omega arith

length_trigger : (t : Option Float) → length (trigger_bytes t) ≡ trigger_size
length_trigger None = omega (arith, length-append (bytes_of 1 0) (bytes_of 8 0), length_bytes_of 1 0, length_bytes_of 8 0)
length_trigger (Some x) = omega (arith, length-append (bytes_of 1 1) (float_bytes x), length_bytes_of 1 1, length_bytes_of 8 (to_bits binary64 x))

pub length_demand : (d : Demand) → length (demand_bytes d) ≡ demand_size
length_demand d =
    let row = d.space_heat_demand ∷ d.space_cool_demand ∷ d.ach_cooling ∷ [] in
    omega (arith, length-append (row_bytes row) (trigger_bytes d.ach_to_trigger_heating), length_row row, length_trigger d.ach_to_trigger_heating)

-- the length stands first
pub length_back : (z : Zone) (version : ℕ) (i : List ℕ) (d : Demand) (s : State) → take length_size (entry_of z version i d s) ≡ bytes_of length_size (following_length z version)
unfolding entry_of
length_back z version i d s =
    let four = bytes_of length_size (following_length z version) in
    let behind = i ++ (demand_bytes d ++ temperature_bytes z s) in
    ap (take length_size) (append_assoc four (bytes_of version_size version) behind) ∙ take_at four (bytes_of version_size version ++ behind) length_size (length_bytes_of length_size (following_length z version))

module _ (z : Zone) (version : ℕ) (i : List ℕ) (d : Demand) (s : State) (l : length i ≡ body_length z version) where
  pub length_entry : node_count z ≤ length s.temps → length (entry_of z version i d s) ≡ whole_length z version
  unfolding entry_of
  length_entry h =
      let T : List ℕ = temperature_bytes z s in
      omega (
        arith,
        length-append (front_bytes z version) (i ++ (demand_bytes d ++ T)),
        length-append i (demand_bytes d ++ T),
        length-append (demand_bytes d) T,
        length_front z version,
        length_demand d,
        length_row (take (node_count z) s.temps),
        length-take (node_count z) s.temps,
      )

  -- the body is read back as it was given
  pub body_back : body_in z version (entry_of z version i d s) ≡ i
  unfolding entry_of
  body_back =
      ap (take (body_length z version)) (drop_at (front_bytes z version) (i ++ (demand_bytes d ++ temperature_bytes z s)) front_size (length_front z version))
      ∙ take_at i (demand_bytes d ++ temperature_bytes z s) (body_length z version) l

  -- and so is the version
  pub version_back : version < 256 → version_in (entry_of z version i d s) ≡ version
  unfolding entry_of
  version_back h =
      let front = bytes_of length_size (following_length z version) in
      let four = length_bytes_of length_size (following_length z version) in
      get_or-append (front_bytes z version) (i ++ (demand_bytes d ++ temperature_bytes z s)) 0 length_size (omega (arith, length_front z version))
      ∙ ap (λ (n : ℕ). get_or (front_bytes z version) n 0) (omega (arith, four))
      ∙ get_or-append-add front (bytes_of version_size version) 0 0
      ∙ one_byte version h
