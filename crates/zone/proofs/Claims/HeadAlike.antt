-- Accepted or refused, a head depends on its own bytes only.
use Rattle.std.proofs.Common.{ℕ, suc, zero, ◌+◌, ◌≤◌, ◌≡◌, refl, Bool, true, false, List, arith, le-leb, leb-true, leb, take, length}
use Rattle.solver.specs.Result.{Result, ok, refused}
use Rattle.zone.specs.Format.Layout.{length_field, count_in, first_element}
use Rattle.zone.specs.Format.ElementLayout.{size_at}
use Rattle.zone.specs.Format.Head.{elements_end, structure_of, head_of}
use Rattle.zone.proofs.Laws.Structure.{length_valid, length_good, structured}
use Rattle.zone.proofs.Laws.Same.{byte_same, num_same, zone_same}

module _ (a b : List ℕ) (n : ℕ) (s : take n a ≡ take n b) (ha : n ≤ length a) (hb : n ≤ length b) where
  alike_step : (left i p : ℕ) (t : Bool) → leb (p + 2) n ≡ t → ((q : ℕ) → elements_end a n left (i + 1) q ≡ elements_end b n left (i + 1) q)
      → elements_end a n (suc left) i p ≡ elements_end b n (suc left) i p
  unfolding elements_end
  alike_step left i p true h f =
      let r : p + 2 ≤ n = leb-true (p + 2) n h in
      rw (h, byte_same a b n s ha hb p (omega arith), byte_same a b n s ha hb (p + 1) (omega arith), f (p + size_at b p))
  alike_step left i p false h f = rw h

  end_alike : (left i p : ℕ) → elements_end a n left i p ≡ elements_end b n left i p
  unfolding elements_end
  end_alike zero i p = refl
  end_alike (suc left) i p = alike_step left i p (leb (p + 2) n) refl (λ q. end_alike left (i + 1) q)

  module _ (m : n ≡ 4 + length_field a) where
    same_field : length_field a ≡ length_field b
    same_field = num_same a b n s ha hb 0 4 (omega arith)

    structure_alike : (v : Bool) → length_valid (length_field a) ≡ v → structure_of a ≡ structure_of b
    unfolding structure_of
    structure_alike false v = rw (le-leb 4 (length a) (omega arith), le-leb 4 (length b) (omega arith), ← same_field, v)
    structure_alike true v =
        let g = length_good (length_field a) v in
        rw (
          le-leb 4 (length a) (omega arith),
          le-leb 4 (length b) (omega arith),
          ← same_field,
          ← m,
          le-leb n (length a) ha,
          le-leb n (length b) hb,
          byte_same a b n s ha hb 4 (omega (arith, g.0)),
          byte_same a b n s ha hb 5 (omega (arith, g.0)),
          byte_same a b n s ha hb 6 (omega (arith, g.0)),
          end_alike (count_in b) 0 first_element,
        )

    by_structure : (r : Result ℕ) → structure_of a ≡ r → head_of a ≡ head_of b
    unfolding head_of
    by_structure (refused c j) e = rw (← structure_alike _ refl, e)
    by_structure (ok q) e =
        let w = structured a q e in
        let k : q ≡ n = omega (arith, w.ends, m) in
        rw (← structure_alike _ refl, e, zone_same a b n s ha hb (omega (arith, w.low)) (rw (← k) w.elements))

    pub head_alike : head_of a ≡ head_of b
    head_alike = by_structure (structure_of a) refl
