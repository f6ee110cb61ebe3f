-- Where the parts of a head and of an hour's conditions begin, and how long they are.
-- Specification, Head; Conditions.
use Rattle.std.specs.Prelude.{ℕ, ◌+◌, ◌*◌, ◌-◌, List, get_or}
use Rattle.zone.specs.Format.Bytes.{num_at, float_size}

-- a head, as an entry, begins with 4 bytes, the length of what follows, and a version byte, which is 1 in a head
abbrev pub length_size : ℕ
length_size = 4

abbrev pub version_of_head : ℕ
version_of_head = 1

abbrev pub version_at : ℕ
version_at = length_size

-- behind them a head has basis, element count, 2 bytes of start-up limit, six floats, and the elements
abbrev pub basis_at : ℕ
basis_at = version_at + 1

abbrev pub count_at : ℕ
count_at = basis_at + 1

abbrev pub limit_at : ℕ
limit_at = count_at + 1

abbrev pub limit_size : ℕ
limit_size = 2

abbrev pub zone_floats : ℕ
zone_floats = limit_at + limit_size

abbrev pub first_element : ℕ
first_element = zone_floats + float_size * 6

abbrev pub length_field : List ℕ → ℕ
length_field bs = num_at bs 0 length_size

abbrev pub version_in : List ℕ → ℕ
version_in bs = get_or bs version_at 0

abbrev pub basis_in : List ℕ → ℕ
basis_in bs = get_or bs basis_at 0

abbrev pub count_in : List ℕ → ℕ
count_in bs = get_or bs count_at 0

-- an element has kind, treatment count, seven floats, then k_pli, h_pli, `delta_r` and the first hour's element part
abbrev pub element_floats : ℕ
element_floats = 2

abbrev pub element_arrays : ℕ
element_arrays = element_floats + float_size * 7

-- an element's part of an hour: 5 floats and a byte
abbrev pub open_byte : ℕ
open_byte = float_size * 5

abbrev pub element_hour_size : ℕ
element_hour_size = open_byte + 1

-- an element of five nodes, with 5 k_pli and 4 h_pli; a Transparent with no treatments, with 2 and 1
abbrev pub five_nodes_size : ℕ
five_nodes_size = element_arrays + float_size * 5 + float_size * 4 + element_hour_size

abbrev pub transparent_size : ℕ
transparent_size = element_arrays + float_size * 2 + float_size * 1 + element_hour_size

-- 176 to 4,157: the shortest head's length is that of one Transparent with no treatments, the longest one's that of 24 five-node elements
abbrev pub shortest_length : ℕ
shortest_length = first_element - length_size + transparent_size

abbrev pub longest_length : ℕ
longest_length = first_element - length_size + 24 * five_nodes_size

-- conditions: 12 floats, rate code, two floats, and the elements' parts: 113 + 41n bytes
abbrev pub rate_code : ℕ
rate_code = float_size * 12

abbrev pub first_rate : ℕ
first_rate = rate_code + 1

abbrev pub second_rate : ℕ
second_rate = first_rate + float_size

abbrev pub first_element_hour : ℕ
first_element_hour = second_rate + float_size

abbrev pub conditions_length : (n : ℕ) → ℕ
conditions_length n = first_element_hour + element_hour_size * n
