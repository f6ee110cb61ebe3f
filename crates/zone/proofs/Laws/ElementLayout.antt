-- What a good kind and count of treatments say of an element's counts and size.
use Rattle.std.proofs.Common.{ℕ, ◌+◌, ◌*◌, ◌≤◌, ◌≡◌, Bool, true, false, cond, List, arith, leb-true, leb, length, get_or}
use Rattle.solver.proofs.Promise.{and_true}
use Rattle.zone.specs.Format.Bytes.{float_size}
use Rattle.zone.specs.Format.Layout.{element_arrays, element_hour_size, five_nodes_size, transparent_size}
use Rattle.zone.specs.Record.BuildingElement.{is_two_nodes, number_of_nodes}
use Rattle.zone.specs.Format.ElementLayout.{h_count, kind_of, max_treatments, element_size, kind_at, treatments_at, kind_valid_at, size_at}
use Rattle.zone.specs.Inner.Format.{kind_valid}
use Rattle.zone.specs.declared.record.building_element.Kind.{Kind}

pub record Shaped (size t kc hc : ℕ) : Type 0 where
  pub sized : size ≡ element_arrays + 8 * kc + 8 * hc + 8 * t + element_hour_size
  pub few_k : kc ≤ 5
  pub few_h : hc ≤ 4
  pub few_t : t ≤ 4

shaped_by : (b : Bool) (t : ℕ) → t ≤ cond b 4 0 → Shaped (cond b (transparent_size + float_size * t) five_nodes_size) t (cond b 2 5) (cond b 1 4)
shaped_by true t e = record { sized = omega arith; few_k = omega arith; few_h = omega arith; few_t = e }
shaped_by false t e = record { sized = omega arith; few_k = omega arith; few_h = omega arith; few_t = omega arith }

-- of a kind with no more treatments than it has
pub shaped : (k : Kind) (t : ℕ) → t ≤ max_treatments k → Shaped (element_size k t) t (number_of_nodes k) (h_count k)
unfolding number_of_nodes
shaped k t e = shaped_by (is_two_nodes k) t e

pub treatments_few : (k t : ℕ) → kind_valid k t ≡ true → t ≤ max_treatments (kind_of k)
treatments_few k t e = leb-true t (max_treatments (kind_of k)) (and_true (leb k 5) (leb t (max_treatments (kind_of k))) e).1

-- of an element at p that is whole, whose counts are kc, hc and t: the counts are few, and its bytes are there
pub fits : (s : List ℕ) (p : ℕ) {k : Kind} {kc hc : ℕ} → kind_valid_at s p ≡ true → k ≡ kind_at s p → kc ≡ number_of_nodes k → hc ≡ h_count k → p + size_at s p ≤ length s
    → (p + (element_arrays + 8 * kc + 8 * hc + 8 * treatments_at s p + element_hour_size) ≤ length s) × (kc ≤ 5) × (hc ≤ 4) × (treatments_at s p ≤ 4)
fits s p right of_k of_kc of_hc there =
    let f = shaped (kind_at s p) (treatments_at s p) (treatments_few (get_or s p 0) (treatments_at s p) right) in
    rw (of_hc, of_kc, of_k) (omega (arith, f.sized, there), f.few_k, f.few_h, f.few_t)
