-- Elimination in the part of the flat matrix from the pivot row on is elimination in the whole: the rows above it, xs, stay.
use Rattle.std.proofs.Common.{◌≡◌, refl, sym, ap, ◌∙◌, List, [], ◌++◌, ℕ, zero, suc, ◌+◌, ◌-◌, ◌*◌, ◌<◌, ◌≤◌, arith, Float, length, take, drop, get_or, set, length-take, length-drop, drop_of_length-le, take_all}
use lib.Ieee.{nan}
use borrow.Rule.Slice.PartMut.{put_mid}
use Rattle.std.proofs.lemmas.List.{get_or-append_right, set-append_right, take-append-drop, append-nil}
use Rattle.solver.specs.F64.{◌*ᶠ◌}
use Rattle.solver.specs.Repeat.{repeat_of, repeat}
use Rattle.solver.specs.Rows.{entry, set_entry, eliminate_entry, eliminate_row}

module _ (xs : List Float) (k : ℕ) (long : length xs ≡ 25 * k) where
  entry_below : (i j : ℕ) (m : List Float) → entry (k + i) j (xs ++ m) ≡ entry i j m
  entry_below i j m =
      let e : 25 * (k + i) + j - 25 * k ≡ 25 * i + j = omega arith in
      get_or-append_right xs m (25 * k) (25 * (k + i) + j) nan long (omega arith) ∙ ap (λ (p : ℕ). get_or m p nan) e

  set_below : (i j : ℕ) (x : Float) (m : List Float) → set_entry (k + i) j x (xs ++ m) ≡ xs ++ set_entry i j x m
  set_below i j x m =
      let e : 25 * (k + i) + j - 25 * k ≡ 25 * i + j = omega arith in
      set-append_right xs m (25 * k) (25 * (k + i) + j) x long (omega arith) ∙ ap (λ (p : ℕ). xs ++ set m p x) e

  cells_below : (pivots : List Float) (i : ℕ) (factor : Float) (n j : ℕ) (m : List Float)
      → repeat_of n j (eliminate_entry pivots (k + i) factor) (xs ++ m) ≡ xs ++ repeat_of n j (eliminate_entry pivots i factor) m
  unfolding repeat_of
  cells_below pivots i factor zero j m = refl
  cells_below pivots i factor (suc n) j m = rw (entry_below i j m, set_below i j _ m) (cells_below pivots i factor n (suc j) (eliminate_entry pivots i factor j m))

  row_below : (w c : ℕ) (pivots : List Float) (reciprocal : Float) (i : ℕ) (m : List Float)
      → eliminate_row w c pivots reciprocal (k + i) (xs ++ m) ≡ xs ++ eliminate_row w c pivots reciprocal i m
  unfolding eliminate_row
  row_below w c pivots reciprocal i m =
      rw (entry_below i c m, set_below i c _ m) (cells_below pivots i (entry i c m *ᶠ reciprocal) (w - (c + 1)) (c + 1) (set_entry i c (entry i c m *ᶠ reciprocal) m))

  rows_below : (w c : ℕ) (pivots : List Float) (reciprocal : Float) (n i : ℕ) (m : List Float)
      → repeat_of n (k + i) (eliminate_row w c pivots reciprocal) (xs ++ m) ≡ xs ++ repeat_of n i (eliminate_row w c pivots reciprocal) m
  unfolding repeat_of
  rows_below w c pivots reciprocal zero i m = refl
  rows_below w c pivots reciprocal (suc n) i m =
      let e : suc (k + i) ≡ k + suc i = omega arith in
      rw (row_below w c pivots reciprocal i m, e) (rows_below w c pivots reciprocal n (suc i) (eliminate_row w c pivots reciprocal i m))

-- the whole matrix m, of which the part from row k on is handed over
pub eliminated_below : (m : List Float) (k h w c : ℕ) (pivots : List Float) (reciprocal : Float) → 25 * k ≤ length m → k < h
    → take (25 * k) m ++ repeat 1 (h - k) (eliminate_row w c pivots reciprocal) (drop (25 * k) m) ≡ repeat (k + 1) h (eliminate_row w c pivots reciprocal) m
eliminated_below m k h w c pivots reciprocal long some =
    let long' : length (take (25 * k) m) ≡ 25 * k = simp length-take (omega arith) in
    let e : h - k - 1 ≡ h - (k + 1) = omega arith in
    let f : repeat_of (h - (k + 1)) (k + 1) (eliminate_row w c pivots reciprocal) (take (25 * k) m ++ drop (25 * k) m)
    ≡ take (25 * k) m ++ repeat_of (h - (k + 1)) 1 (eliminate_row w c pivots reciprocal) (drop (25 * k) m) = rows_below (take (25 * k) m) k long' w c pivots reciprocal (h - (k + 1)) 1 (drop (25 * k) m) in
    ap (λ (n : ℕ). take (25 * k) m ++ repeat_of n 1 (eliminate_row w c pivots reciprocal) (drop (25 * k) m)) e
    ∙ sym f
    ∙ ap (λ (l : List Float). repeat_of (h - (k + 1)) (k + 1) (eliminate_row w c pivots reciprocal) l) (take-append-drop (25 * k) m)

-- the matrix after the part is given back
pub put_below : (m part : List Float) (k h w c : ℕ) (pivots : List Float) (reciprocal : Float) → length m ≡ 625 → 25 * k ≤ 625 → k < h
    → part ≡ repeat 1 (h - k) (eliminate_row w c pivots reciprocal) (take (625 - 25 * k) (drop (25 * k) m))
    → put_mid (25 * k) (625 - 25 * k) m part ≡ repeat (k + 1) h (eliminate_row w c pivots reciprocal) m
put_below m part k h w c pivots reciprocal long few some e =
    let n : length (drop (25 * k) m) ≡ 625 - 25 * k = rw (length-drop (25 * k) m, long) refl in
    let all : take (625 - 25 * k) (drop (25 * k) m) ≡ drop (25 * k) m = take_all (625 - 25 * k) (drop (25 * k) m) (omega (arith, n)) in
    let none : drop (625 - 25 * k) (drop (25 * k) m) ≡ [] = drop_of_length-le (drop (25 * k) m) (omega (arith, n)) in
    rw (none, append-nil part, e, all) (eliminated_below m k h w c pivots reciprocal (omega (arith, long)) some)
