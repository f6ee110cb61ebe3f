-- What the book cites beside: the most nodes of a zone, and the lengths of numbers and floats as bytes.
use Rattle.std.proofs.Common.{ℕ, zero, suc, ◌*◌, ◌/◌, ◌≤◌, ◌≡◌, refl, List, [], ◌∷◌, arith, length, take, length-append, length-take, Float, to_bits}
use lib.Ieee.{binary64}
use Rattle.solver.specs.Result.{ok}
use Rattle.zone.specs.Record.BuildingElement.{number_of_nodes, nodes_of, node_count}
use Rattle.zone.specs.Format.Bytes.{bytes_of}
use Rattle.zone.specs.Format.Encode.{float_bytes, row_bytes}
use Rattle.zone.specs.Check.ZoneTest.{zone_test}
use Rattle.zone.specs.declared.record.building_element.Element.{Element}
use Rattle.zone.specs.declared.record.zone_record.Zone.{Zone}
use Rattle.zone.proofs.Laws.Element.{nodes_few}
use Rattle.zone.proofs.Claims.Head.{zone_count}

-- a zone that passes its test has at most 24 elements
pub tested_few : (z : Zone) → zone_test z ≡ ok tt → z.count ≤ 24
tested_few z e = (zone_count z e).1

nodes_most : (es : List Element) → nodes_of es ≤ 5 * length es
unfolding nodes_of
nodes_most [] = omega arith
nodes_most (e ∷ es) = omega (arith, nodes_few e.kind (number_of_nodes e.kind) refl, nodes_most es)

-- 24 elements of five nodes, and the air
pub node_count_few : (z : Zone) → z.count ≤ 24 → node_count z ≤ 121
unfolding node_count
node_count_few z h =
    omega (arith, nodes_most (take z.count z.building_elements), length-take z.count z.building_elements)

pub length_bytes_of : (k n : ℕ) → length (bytes_of k n) ≡ k
unfolding bytes_of
length_bytes_of zero n = refl
length_bytes_of (suc k) n = simp length-append (omega (arith, length_bytes_of k (n / 256)))

pub length_row : (xs : List Float) → length (row_bytes xs) ≡ 8 * length xs
unfolding row_bytes
length_row [] = refl
length_row (x ∷ xs) = omega (arith, length-append (float_bytes x) (row_bytes xs), length_bytes_of 8 (to_bits binary64 x), length_row xs)
