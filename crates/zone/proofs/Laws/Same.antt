-- Two byte strings whose first n bytes are equal: what is read within these is equal.
use Rattle.std.proofs.Common.{ℕ, suc, zero, ◌+◌, ◌*◌, ◌<◌, ◌≤◌, ◌≡◌, refl, sym, ap, ◌∙◌, List, ◌∷◌, arith, take, drop, length, get_or, take-append-drop, length-drop, get_or-take, length-take-le}
use lib.Seq.{take-append-le, drop-append-le}
use lib.Ieee.{binary64, of_bits}
use Rattle.solver.specs.Result.{ok}
use Rattle.zone.specs.Format.Layout.{basis_at, count_at, limit_at, limit_size, zone_floats, count_in, first_element, element_floats, element_arrays, open_byte, element_hour_size}
use Rattle.zone.specs.Format.Bytes.{big_endian, num_at, float_at}
use Rattle.zone.specs.Record.BuildingElement.{number_of_nodes}
use Rattle.zone.specs.Format.ElementLayout.{h_count, kind_of, size_at, kind_at, treatments_at}
use Rattle.zone.specs.Format.Decode.{floats_at, element_hour_at, element_with, element_at, elements_at, zone_at}
use Rattle.zone.specs.Format.Head.{elements_end}
use Rattle.zone.specs.declared.record.building_element.Kind.{Kind}
use Rattle.zone.specs.declared.record.building_element.Element.{Element}
use Rattle.zone.proofs.Laws.ElementLayout.{shaped, treatments_few}
use Rattle.zone.proofs.Laws.Structure.{Whole, whole_of}

-- what is read within the first n bytes is read in these
pub part_front : (a : List ℕ) (n at k : ℕ) → n ≤ length a → at + k ≤ n → take k (drop at a) ≡ take k (drop at (take n a))
part_front a n at k h r =
    let len : length (take n a) ≡ n = length-take-le n a h in
    let room : k ≤ length (drop at (take n a)) = simp length-drop (omega arith) in
    ap (λ (l : List ℕ). take k (drop at l)) (sym (take-append-drop n a))
    ∙ ap (take k) (drop-append-le at (take n a) (drop n a) (omega arith))
    ∙ take-append-le k (drop at (take n a)) (drop n a) room

module _ (a b : List ℕ) (n : ℕ) (e : take n a ≡ take n b) (ha : n ≤ length a) (hb : n ≤ length b) where
  pub byte_same : (i : ℕ) → i < n → get_or a i 0 ≡ get_or b i 0
  byte_same i h = sym (get_or-take n a i 0 h) ∙ ap (λ (l : List ℕ). get_or l i 0) e ∙ get_or-take n b i 0 h

  pub num_same : (at k : ℕ) → at + k ≤ n → num_at a at k ≡ num_at b at k
  num_same at k h = ap big_endian (part_front a n at k ha h ∙ ap (λ (l : List ℕ). take k (drop at l)) e ∙ sym (part_front b n at k hb h))

  float_same : (at : ℕ) → at + 8 ≤ n → float_at a at ≡ float_at b at
  float_same at h = ap (of_bits binary64) (num_same at 8 h)

  floats_same : (at k : ℕ) → at + 8 * k ≤ n → floats_at a at k ≡ floats_at b at k
  unfolding floats_at
  floats_same at zero h = refl
  floats_same at (suc k) h = rw (float_same at (omega arith), floats_same (at + 8) k (omega arith))

  hour_same : (at : ℕ) → at + element_hour_size ≤ n → element_hour_at a at ≡ element_hour_at b at
  hour_same at h =
      rw (
        float_same at (omega arith),
        float_same (at + 8 * 1) (omega arith),
        float_same (at + 8 * 2) (omega arith),
        float_same (at + 8 * 3) (omega arith),
        float_same (at + 8 * 4) (omega arith),
        byte_same (at + open_byte) (omega arith),
      )

  with_same : (p : ℕ) (kind : Kind) (t kc hc : ℕ) → p + (element_arrays + 8 * kc + 8 * hc + 8 * t + element_hour_size) ≤ n → element_with a p kind t kc hc ≡ element_with b p kind t kc hc
  with_same p kind t kc hc h =
      rw (
        float_same (p + element_floats) (omega arith),
        float_same (p + (element_floats + 8 * 1)) (omega arith),
        float_same (p + (element_floats + 8 * 2)) (omega arith),
        float_same (p + (element_floats + 8 * 3)) (omega arith),
        float_same (p + (element_floats + 8 * 4)) (omega arith),
        float_same (p + (element_floats + 8 * 5)) (omega arith),
        float_same (p + (element_floats + 8 * 6)) (omega arith),
        floats_same (p + element_arrays) kc (omega arith),
        floats_same (p + element_arrays + 8 * kc) hc (omega arith),
        floats_same (p + element_arrays + 8 * kc + 8 * hc) t (omega arith),
        hour_same (p + element_arrays + 8 * kc + 8 * hc + 8 * t) (omega arith),
      )

  element_same : (left i p q : ℕ) → Whole a n left i p q → element_at a p ≡ element_at b p
  element_same left i p q w =
      let k = kind_at a p in
      let t = treatments_at a p in
      let f = shaped k t (treatments_few (get_or a p 0) t w.kind_valid_lem) in
      with_same p k t (number_of_nodes k) (h_count k) (omega (arith, f.sized, w.rest))
      ∙ ap (λ (x : ℕ). element_with b p (kind_of x) t (number_of_nodes (kind_of x)) (h_count (kind_of x))) (byte_same p (omega (arith, w.front)))
      ∙ ap (λ (x : ℕ). element_with b p (kind_at b p) x (number_of_nodes (kind_at b p)) (h_count (kind_at b p))) (byte_same (p + 1) (omega (arith, w.front)))

  size_same : (p : ℕ) → p + element_floats ≤ n → size_at a p ≡ size_at b p
  size_same p h = rw (byte_same p (omega arith), byte_same (p + 1) (omega arith))

  pub elements_same : (left i p q : ℕ) → elements_end a n left i p ≡ ok q → elements_at a p left ≡ elements_at b p left
  unfolding elements_at
  elements_same zero i p q h = refl
  elements_same (suc left) i p q h =
      let w = whole_of a n left i p q h in
      rw (← size_same p w.front, elements_same left (i + 1) (p + size_at a p) q w.on) (ap (λ (x : Element). x ∷ elements_at b (p + size_at a p) left) (element_same left i p q w))

  pub zone_same : first_element ≤ n → elements_end a n (count_in a) 0 first_element ≡ ok n → zone_at a ≡ zone_at b
  unfolding zone_at
  zone_same h w =
      rw (
        elements_same (count_in a) 0 first_element n w,
        byte_same basis_at (omega arith),
        byte_same count_at (omega arith),
        num_same limit_at limit_size (omega arith),
        float_same zone_floats (omega arith),
        float_same (zone_floats + 8 * 1) (omega arith),
        float_same (zone_floats + 8 * 2) (omega arith),
        float_same (zone_floats + 8 * 3) (omega arith),
        float_same (zone_floats + 8 * 4) (omega arith),
        float_same (zone_floats + 8 * 5) (omega arith),
      )
