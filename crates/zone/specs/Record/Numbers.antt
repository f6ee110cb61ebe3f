-- The numbers of refusals. 12 and 13 are the solver's, 16 and 17 the book's; 18, an hour step's and the book's, stands here.
-- Specification, Table of refusals; Order of tests.
use Rattle.std.specs.Prelude.{ℕ}

-- fewer than 4 bytes, or the head's bytes end early
abbrev pub head_short : ℕ
head_short = 1

-- a length outside 176 to 4,157, an element that goes past it, or a part of it left over
abbrev pub head_length : ℕ
head_length = 2

-- a head's version that is not 1
abbrev pub head_version : ℕ
head_version = 3

-- a bad basis, element count, kind or treatment count
abbrev pub structure : ℕ
structure = 4

-- of a head or a zone: the first value out of range
abbrev pub zone_value : ℕ
zone_value = 5

-- a state of a wrong node count, or with a temperature not within ±1e6
abbrev pub state_invalid : ℕ
state_invalid = 6

-- conditions of wrong size
abbrev pub conditions_size : ℕ
conditions_size = 7

-- a bad rate code (0 too, but for what still takes it), with code 0 a second float that is not 8 zero bytes, or an open bit past the treatments
abbrev pub conditions_code : ℕ
conditions_code = 8

-- of conditions, and of an update's own: the first value out of range
abbrev pub conditions_value : ℕ
conditions_value = 9

-- cooling below heating setpoint
abbrev pub cooling_below_heating : ℕ
cooling_below_heating = 10

-- ventilation below heating setpoint
abbrev pub ventilation_below_heating : ℕ
ventilation_below_heating = 11

-- loaded and free temperature differ by something close to 0
abbrev pub no_effect : ℕ
no_effect = 14

-- none of the passes that the start-up limit allows settled
abbrev pub not_settled : ℕ
not_settled = 15

-- a false entry; a version that no hour has, or below the last one of a book
abbrev pub false_entry : ℕ
false_entry = 18

-- a limit of version 3 out of range
abbrev pub limit_value : ℕ
limit_value = 19
