-- Floats and kinds as they stand in bytes.
-- Specification, Bytes; Kinds and nodes.
use Rattle.std.specs.Prelude.{ℕ, List, [], ◌∷◌, ◌++◌, Float}
use Rattle.std.specs.Float.{binary64}
use Rattle.std.specs.Float.Ieee.{to_bits}
use Rattle.zone.specs.Format.Bytes.{bytes_of, float_size}
use Rattle.zone.specs.declared.record.building_element.Kind.{Kind}
use Rattle.zone.specs.declared.record.building_element.Kind.TheVariants.{Opaque, AdjacentConditionedSpace, AdjacentUnconditionedSpaceSimple, Ground, Transparent, PartyWall}

abbrev pub float_bytes : Float → List ℕ
float_bytes x = bytes_of float_size (to_bits binary64 x)

-- floats one after the other
unfoldable pub row_bytes : List Float → List ℕ
row_bytes [] = []
row_bytes (x ∷ xs) = float_bytes x ++ row_bytes xs

-- a kind's number, 0 to 5, in the order of the original's enum
abbrev pub kind_number : Kind → ℕ
kind_number Opaque = 0
kind_number AdjacentConditionedSpace = 1
kind_number AdjacentUnconditionedSpaceSimple = 2
kind_number Ground = 3
kind_number Transparent = 4
kind_number PartyWall = 5
