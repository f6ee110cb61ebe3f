-- Worked examples of `solve`. Temperatures are stated by their bit patterns, which were computed apart from the definitions.
-- Specification, Elimination of the chains; Dense solve; Back substitution; Refusals of a solve.
use Rattle.std.specs.Prelude.{◌≡◌, true, false, List, [], ◌∷◌, map, ℕ, get_or, set, replicate, Float}
use Rattle.std.specs.Float.{nan, binary64}
use Rattle.std.specs.Float.Ieee.{neg, to_bits}
use Rattle.solver.specs.declared.system.Matrix.{Matrix}
use Rattle.solver.specs.F64.{decimal, zero64}
use Rattle.solver.specs.Result.{Result, ok, refused}
use Rattle.solver.specs.Rows.{set_entry}
use Rattle.solver.specs.FastSolver.{solve}

-- a system; and what is to come of it: 0 and the bit patterns of the temperatures in these slots, or a refusal's number
pub record Example : Type 0 where
  pub matrix : Matrix
  pub sides : List Float
  pub slots : List ℕ
  pub expected : List ℕ

-- one element of two nodes, in slots 3 and 4: the coefficients of its outer surface (own, inner), of its inner surface (outer, own, air)
-- and of the air (inner, own)
unfoldable pub three_nodes : (oo oi io ii ia ai aa : Float) → Matrix
three_nodes oo oi io ii ia ai aa =
    record {
      n = 1;
      two_nodes = true ∷ replicate 23 false;
      diag = set (set (replicate 120 zero64) 3 oo) 4 ii;
      next = set (replicate 120 zero64) 3 oi;
      prev = set (replicate 120 zero64) 4 io;
      dense = set_entry 0 1 ia (set_entry 1 0 ai (set_entry 1 1 aa (replicate 625 zero64)));
    }

-- a right side of the outer surface, the inner surface and the air
unfoldable pub right_side : (o i a : Float) → List Float
right_side o i a = set (set (set (replicate 121 zero64) 3 o) 4 i) 120 a

-- such a system, shown by outer surface, inner surface and air
unfoldable pub of_three : Matrix → List Float → List ℕ → Example
of_three a b expected = record { matrix = a; sides = b; slots = 3 ∷ 4 ∷ 120 ∷ []; expected = expected }

-- three unknowns; the rows of inner surface and air change places
unfoldable pub three : Example
three =
    of_three (three_nodes (decimal 126 1) (neg (decimal 23 1)) (neg (decimal 23 1)) (decimal 74 1) (neg (decimal 25 1)) (neg (decimal 25 0)) (decimal 607 1))
    (right_side (decimal 1103 1) (decimal 359 1) (decimal 6501 1))
    (0 ∷ 0x402696a84900bd5f ∷ 0x402bd52a9b0f2ed2 ∷ 0x403071105d81a688 ∷ [])

-- 1, 2 over -1, 3: of two rows of equal magnitude the first stays the pivot row; with the other one the inner surface would be -0.0
unfoldable pub tie : Example
tie =
    of_three (three_nodes (decimal 1 0) zero64 zero64 (decimal 1 0) (decimal 2 0) (neg (decimal 1 0)) (decimal 3 0))
    (right_side (decimal 1 0) (decimal 4 0) (decimal 6 0))
    (0 ∷ 0x3ff0000000000000 ∷ 0x0000000000000000 ∷ 0x4000000000000000 ∷ [])

-- the outer surface's diagonal is -0.0, a divisor of a chain that is zero
unfoldable pub zero_divisor : Example
zero_divisor =
    of_three (three_nodes (neg zero64) zero64 zero64 (decimal 1 0) zero64 zero64 (decimal 1 0))
    (right_side (decimal 1 0) (decimal 2 0) (decimal 3 0))
    (12 ∷ [])

-- 1, 2 over 2, 4: the pivot of the last column is zero
unfoldable pub zero_pivot : Example
zero_pivot =
    of_three (three_nodes (decimal 1 0) zero64 zero64 (decimal 1 0) (decimal 2 0) (decimal 2 0) (decimal 4 0))
    (right_side (decimal 1 0) (decimal 2 0) (decimal 3 0))
    (12 ∷ [])

-- the outer surface, which is back-substituted, is beyond a million; and a million itself is not
unfoldable pub beyond : Example
beyond =
    of_three (three_nodes (decimal 1 0) zero64 zero64 (decimal 1 0) zero64 zero64 (decimal 1 0))
    (right_side (decimal 1000001 0) (decimal 20 0) (decimal 21 0))
    (13 ∷ [])

unfoldable pub million : Example
million =
    of_three (three_nodes (decimal 1 0) zero64 zero64 (decimal 1 0) zero64 zero64 (decimal 1 0))
    (right_side (decimal 1000000 0) (decimal 20 0) (decimal 21 0))
    (0 ∷ 0x412e848000000000 ∷ 0x4034000000000000 ∷ 0x4035000000000000 ∷ [])

-- a list with these values at these places
unfoldable pub set_all : List Float → List (ℕ × Float) → List Float
set_all l [] = l
set_all l (v ∷ vs) = set_all (set l v.0 v.1) vs

-- an element of five nodes, in slots 0 to 4, and one of two, in slots 8 and 9, with an exchange of rows
unfoldable pub two : Example
two =
    record {
      matrix =
          record {
            n = 2;
            two_nodes = false ∷ true ∷ replicate 22 false;
            diag =
                set_all (replicate 120 zero64)
                ((0, decimal 126 1) ∷ (1, decimal 83 1) ∷ (2, decimal 91 1) ∷ (3, decimal 77 1) ∷ (4, decimal 109 1) ∷ (8, decimal 113 1) ∷ (9, decimal 97 1) ∷ []);
            next =
                set_all (replicate 120 zero64)
                ((0, neg (decimal 23 1)) ∷ (1, neg (decimal 31 1)) ∷ (2, neg (decimal 19 1)) ∷ (3, neg (decimal 27 1)) ∷ (8, neg (decimal 41 1)) ∷ []);
            prev =
                set_all (replicate 120 zero64)
                ((1, neg (decimal 23 1)) ∷ (2, neg (decimal 31 1)) ∷ (3, neg (decimal 19 1)) ∷ (4, neg (decimal 27 1)) ∷ (9, neg (decimal 41 1)) ∷ []);
            dense =
                set_all (replicate 625 zero64)
                ((1, neg (decimal 7 1)) ∷ (2, neg (decimal 25 1)) ∷ (25, neg (decimal 13 1)) ∷ (27, neg (decimal 50 1)) ∷ (50, neg (decimal 250 1)) ∷ (51, neg (decimal 305 1)) ∷ (52, decimal 607 1) ∷ []);
          };
      sides =
          set_all (replicate 121 zero64)
          ((0, decimal 1103 1) ∷ (1, decimal 201 1) ∷ (2, decimal 359 1) ∷ (3, decimal 417 1) ∷ (4, decimal 666 1) ∷ (8, decimal 994 1) ∷ (9, decimal 128 1) ∷ (120, decimal 6501 1) ∷ []);
      slots = 0 ∷ 1 ∷ 2 ∷ 3 ∷ 4 ∷ 8 ∷ 9 ∷ 120 ∷ [];
      expected =
          0
          ∷ 0x4024d29b66eb9512
          ∷ 0x402228b781bcab1a
          ∷ 0x402433db1f8429f4
          ∷ 0x402d579d3c888958
          ∷ 0x40334980254d13e5
          ∷ 0x4033709e5af4bcf8
          ∷ 0x403d559b778fca62
          ∷ 0x4040b259b2cb31ac
          ∷ [];
    }

abbrev pub examples : List Example
examples = three ∷ tie ∷ zero_divisor ∷ zero_pivot ∷ beyond ∷ million ∷ two ∷ []

-- what `solve` gives
abbrev pub shown_in : (slots : List ℕ) → Result (List Float) → List ℕ
shown_in slots (ok temps) = 0 ∷ map (λ s. to_bits binary64 (get_or temps s nan)) slots
shown_in slots (refused number index) = number ∷ []

abbrev pub Worked : Type 0
Worked = map (λ x. shown_in x.slots (solve x.matrix x.sides)) examples ≡ map (λ x. x.expected) examples
