-- An accepted head's zone determines its bytes.
-- Specification, Head.
use Rattle.std.proofs.Common.{ℕ, suc, zero, ◌+◌, ◌*◌, ◌-◌, ◌≤◌, ◌≡◌, refl, sym, ap, ◌∙◌, Bool, true, cond, ◌&&◌, List, [], ◌∷◌, ◌++◌, arith, leb-true, leb, length, take, get_or, replicate, take_at, Float}
use Rattle.solver.specs.F64.{zero64}
use Rattle.solver.specs.Result.{ok, require_at}
use Rattle.solver.proofs.Promise.{bind_ok, require_ok, and_true}
use Rattle.zone.specs.Record.Numbers.{zone_value}
use Rattle.zone.specs.Format.Layout.{length_size, version_at, basis_at, count_at, limit_at, limit_size, zone_floats}
use Rattle.zone.specs.Format.Layout.{length_field, basis_in, count_in, first_element, element_floats, element_arrays, element_hour_size}
use Rattle.zone.specs.Format.Bytes.{num_at, Bytes, float_at, bytes_of}
use Rattle.zone.specs.Format.ElementLayout.{h_count, kind_of, kind_at, treatments_at, max_treatments, element_size, size_at, sizes}
use Rattle.zone.specs.Format.Decode.{floats_at, element_hour_at, element_at, elements_at, basis_of, zone_at}
use Rattle.zone.specs.Check.Ranges.{area_range, pitch_range, coefficient_range, h_pli_range, k_pli_range, fraction_range, sky_range}
use Rattle.zone.specs.Check.Ranges.{delta_r_range, temperature_range, heating_setpoint_range, setpoint_range, limit_range, all_in, open_within}
use Rattle.zone.specs.Check.ZoneTest.{element_hour_in_range, element_in_range, front_in_range, all_required, values_test}
use Rattle.zone.specs.Inner.Check.{arrays_in_range}
use Rattle.zone.specs.Record.BuildingElement.{is_two_nodes, number_of_nodes}
use Rattle.zone.specs.Format.Head.{ReadHead, elements_end, head_of}
use Rattle.zone.specs.Format.Encode.{row_bytes, kind_number}
use Rattle.zone.specs.Claims.Encode.{element_hour_bytes, basis_number, element_bytes, elements_bytes, head_bytes}
use Rattle.zone.specs.declared.record.building_element.Kind.{Kind}
use Rattle.zone.specs.declared.record.zone_record.Zone.{Zone}
use Rattle.zone.proofs.Laws.ElementLayout.{shaped, treatments_few}
use Rattle.zone.proofs.Laws.Structure.{Whole, whole_of, Structured, structured}
use Rattle.zone.proofs.Laws.RoundTrip.{Number, Numbers, part, part_add, part_one, number_part, row_part}
use Rattle.zone.proofs.Laws.Numbers.{area_number, pitch_number, coefficient_number, h_pli_number, k_pli_number, fraction_number}
use Rattle.zone.proofs.Laws.Numbers.{sky_number, delta_r_number, temperature_number, heating_setpoint_number, setpoint_number}
use Rattle.zone.proofs.Laws.StructuredHead.{zone_elements}
use Rattle.zone.proofs.Claims.Head.{accepted, end_is}
use Rattle.zone.proofs.Claims.ConditionsBytes.{six, hour_part}

-- float i of the element at p, and of the zone
abbrev element_float : List ℕ → (p i : ℕ) → Float
element_float s p i = float_at s (p + (element_floats + 8 * i))

abbrev zone_float : List ℕ → (i : ℕ) → Float
zone_float s i = float_at s (zone_floats + 8 * i)

-- 171 per five-node element, 123 + 8t per Transparent
pub element_size_lem : (k : Kind) (t : ℕ) → element_size k t ≡ cond (is_two_nodes k) (123 + 8 * t) 171
element_size_lem k t = refl

pub kind_back : (k : ℕ) → k ≤ 5 → kind_number (kind_of k) ≡ k
unfolding kind_of
kind_back zero h = refl
kind_back (suc zero) h = refl
kind_back (suc (suc zero)) h = refl
kind_back (suc (suc (suc zero))) h = refl
kind_back (suc (suc (suc (suc zero)))) h = refl
kind_back (suc (suc (suc (suc (suc zero))))) h = refl
kind_back (suc (suc (suc (suc (suc (suc k)))))) h = absurd (omega arith)

basis_back : (b : ℕ) → b ≤ 1 → basis_number (basis_of b) ≡ b
basis_back zero h = refl
basis_back (suc zero) h = refl
basis_back (suc (suc b)) h = absurd (omega arith)

all_numbers : (range : Float → Bool) → ((x : Float) → range x ≡ true → Number x) → (xs : List Float) → all_in range xs ≡ true → Numbers xs
unfolding all_in Numbers
all_numbers range f [] e = tt
all_numbers range f (x ∷ xs) e = let r = and_true (range x) (all_in range xs) e in (f x r.0, all_numbers range f xs r.1)

length_floats : (s : List ℕ) (p n : ℕ) → length (floats_at s p n) ≡ n
unfolding floats_at
length_floats s p zero = refl
length_floats s p (suc n) = ap suc (length_floats s (p + 8) n)

front_floats : (s : List ℕ) (p n m : ℕ) → take n (floats_at s p n ++ replicate m zero64) ≡ floats_at s p n
front_floats s p n m = take_at (floats_at s p n) (replicate m zero64) n (length_floats s p n)

seven_floats : (s : List ℕ) (p : ℕ)
    → floats_at s (p + element_floats) 7
    ≡ element_float s p 0 ∷ element_float s p 1 ∷ element_float s p 2 ∷ element_float s p 3 ∷ element_float s p 4 ∷ element_float s p 5 ∷ element_float s p 6 ∷ []
unfolding floats_at
seven_floats s p =
    let next : (i : ℕ) → p + (element_floats + 8 * i) + 8 ≡ p + (element_floats + 8 * (i + 1)) = λ i. omega arith in
    rw (next 0, next 1, next 2, next 3, next 4, next 5)

-- what the tests of an element tell of its floats
record Told (s : List ℕ) (p t kc hc : ℕ) : Type 0 where
  seven : Numbers (floats_at s (p + element_floats) 7)
  ks : Numbers (floats_at s (p + element_arrays) kc)
  hs : Numbers (floats_at s (p + element_arrays + 8 * kc) hc)
  ds : Numbers (floats_at s (p + element_arrays + 8 * kc + 8 * hc) t)
  hour : element_hour_in_range (element_hour_at s (p + element_arrays + 8 * kc + 8 * hc + 8 * t)) ≡ true

arrays_told : (s : List ℕ) (t kc hc at ah ad m1 m2 m3 : ℕ)
    → arrays_in_range kc hc t (floats_at s at kc ++ replicate m1 zero64) (floats_at s ah hc ++ replicate m2 zero64) (floats_at s ad t ++ replicate m3 zero64) ≡ true
    → Numbers (floats_at s at kc) × Numbers (floats_at s ah hc) × Numbers (floats_at s ad t)
unfolding arrays_in_range
arrays_told s t kc hc at ah ad m1 m2 m3 e =
    let f : (all_in k_pli_range (floats_at s at kc) && all_in h_pli_range (floats_at s ah hc) && all_in delta_r_range (floats_at s ad t)) ≡ true =
    rw (front_floats s at kc m1, front_floats s ah hc m2, front_floats s ad t m3) at e in
    let a = and_true (all_in k_pli_range (floats_at s at kc) && all_in h_pli_range (floats_at s ah hc)) (all_in delta_r_range (floats_at s ad t)) f in
    let b = and_true (all_in k_pli_range (floats_at s at kc)) (all_in h_pli_range (floats_at s ah hc)) a.0 in (
      all_numbers k_pli_range k_pli_number (floats_at s at kc) b.0,
      all_numbers h_pli_range h_pli_number (floats_at s ah hc) b.1,
      all_numbers delta_r_range delta_r_number (floats_at s ad t) a.1,
    )

told : (s : List ℕ) (p : ℕ) → element_in_range (element_at s p) ≡ true → Told s p (treatments_at s p) (number_of_nodes (kind_at s p)) (h_count (kind_at s p))
unfolding element_in_range arrays_in_range Numbers
told s p e =
    let x = element_float s p in
    let k = kind_at s p in
    let t = treatments_at s p in
    let at = p + element_arrays in
    let ah = p + element_arrays + 8 * number_of_nodes k in
    let ad = p + element_arrays + 8 * number_of_nodes k + 8 * h_count k in
    let hour = element_hour_at s (p + element_arrays + 8 * number_of_nodes k + 8 * h_count k + 8 * t) in
    let arrays = arrays_in_range (number_of_nodes k) (h_count k) t (element_at s p).k_pli (element_at s p).h_pli (element_at s p).delta_r in
    let open_good = open_within t hour.treatments_open in
    let six_good = area_range (x 0) && pitch_range (x 1) && coefficient_range (x 2) && coefficient_range (x 3) && coefficient_range (x 4) && fraction_range (x 5) in
    let a = and_true (six_good && sky_range (x 6)) (arrays && element_hour_in_range hour && open_good) e in
    let b = and_true six_good (sky_range (x 6)) a.0 in
    let r =
    six (area_range (x 0)) (pitch_range (x 1)) (coefficient_range (x 2)) (coefficient_range (x 3)) (coefficient_range (x 4)) (fraction_range (x 5)) b.0 in
    let d = and_true (arrays && element_hour_in_range hour) open_good a.1 in
    let f = and_true arrays (element_hour_in_range hour) d.0 in
    let n = arrays_told s t (number_of_nodes k) (h_count k) at ah ad (5 - number_of_nodes k) (4 - h_count k) (4 - t) f.0 in
    record {
      seven =
          rw (seven_floats s p) (
            area_number (x 0) r.0,
            (
              pitch_number (x 1) r.1,
              (
                coefficient_number (x 2) r.2,
                (
                  coefficient_number (x 3) r.3,
                  (coefficient_number (x 4) r.4, (fraction_number (x 5) r.5, (sky_number (x 6) b.1, tt))),
                ),
              ),
            ),
          );
      ks = n.0;
      hs = n.1;
      ds = n.2;
      hour = f.1;
    }

module _ (s : List ℕ) (b : Bytes s) where
  -- an element's bytes past the first two
  rest_part : (p t kc hc : ℕ) → p + (element_arrays + 8 * kc + 8 * hc + 8 * t + element_hour_size) ≤ length s → Told s p t kc hc
      → row_bytes (floats_at s (p + element_floats) 7)
      ++ (row_bytes (floats_at s (p + element_arrays) kc)
      ++ (row_bytes (floats_at s (p + element_arrays + 8 * kc) hc)
      ++ (row_bytes (floats_at s (p + element_arrays + 8 * kc + 8 * hc) t)
      ++ element_hour_bytes (element_hour_at s (p + element_arrays + 8 * kc + 8 * hc + 8 * t)))))
      ≡ part s (p + element_floats) (8 * 7 + (8 * kc + (8 * hc + (8 * t + element_hour_size))))
  rest_part p t kc hc h w =
      let e : p + element_floats + 8 * 7 ≡ p + element_arrays = omega arith in
      rw (
        part_add s (p + element_floats) (8 * 7) (8 * kc + (8 * hc + (8 * t + element_hour_size))),
        e,
        part_add s (p + element_arrays) (8 * kc) (8 * hc + (8 * t + element_hour_size)),
        part_add s (p + element_arrays + 8 * kc) (8 * hc) (8 * t + element_hour_size),
        part_add s (p + element_arrays + 8 * kc + 8 * hc) (8 * t) element_hour_size,
        row_part s b (p + element_floats) 7 (omega arith) w.seven,
        row_part s b (p + element_arrays) kc (omega arith) w.ks,
        row_part s b (p + element_arrays + 8 * kc) hc (omega arith) w.hs,
        row_part s b (p + element_arrays + 8 * kc + 8 * hc) t (omega arith) w.ds,
        hour_part s b (p + element_arrays + 8 * kc + 8 * hc + 8 * t) (omega arith) w.hour,
      )

  front_part : (p m : ℕ) → p + element_floats ≤ length s → part s p (element_floats + m) ≡ get_or s p 0 ∷ get_or s (p + 1) 0 ∷ part s (p + element_floats) m
  front_part p m h =
      let e : element_floats + m ≡ 1 + (1 + m) = omega arith in
      let f : p + 1 + 1 ≡ p + element_floats = omega arith in
      rw (e, part_add s p 1 (1 + m), part_add s (p + 1) 1 m, part_one s p (omega arith), part_one s (p + 1) (omega arith), f)

  element_part : (end left i p q : ℕ) → end ≤ length s → Whole s end left i p q → element_in_range (element_at s p) ≡ true
      → element_bytes (element_at s p) ≡ part s p (size_at s p)
  unfolding element_bytes
  element_part end left i p q h w e =
      let k = kind_at s p in
      let t = treatments_at s p in
      let f = shaped k t (treatments_few (get_or s p 0) t w.kind_valid_lem) in
      let z : size_at s p ≡ element_floats + (8 * 7 + (8 * number_of_nodes k + (8 * h_count k + (8 * t + element_hour_size)))) = omega (arith, f.sized) in
      let five : get_or s p 0 ≤ 5 = leb-true (get_or s p 0) 5 (and_true (leb (get_or s p 0) 5) (leb t (max_treatments k)) w.kind_valid_lem).0 in
      sym
      (ap (part s p) z
      ∙ front_part p (8 * 7 + (8 * number_of_nodes k + (8 * h_count k + (8 * t + element_hour_size)))) (omega (arith, w.front))
      ∙ ap (λ (l : List ℕ). get_or s p 0 ∷ t ∷ l) (sym (rest_part p t (number_of_nodes k) (h_count k) (omega (arith, f.sized, w.rest)) (told s p e)))
      ∙ sym (rw (
        kind_back (get_or s p 0) five,
        front_floats s (p + element_arrays) (number_of_nodes k) (5 - number_of_nodes k),
        front_floats s (p + element_arrays + 8 * number_of_nodes k) (h_count k) (4 - h_count k),
        front_floats s (p + element_arrays + 8 * number_of_nodes k + 8 * h_count k) t (4 - t),
        seven_floats s p,
      )))

  elements_part : (end left i p q j : ℕ) → end ≤ length s → elements_end s end left i p ≡ ok q
      → all_required element_in_range zone_value (elements_at s p left) j ≡ ok tt
      → elements_bytes (elements_at s p left) ≡ part s p (sizes (elements_at s p left))
  unfolding elements_at elements_bytes sizes all_required
  elements_part end zero i p q j h e v = refl
  elements_part end (suc left) i p q j h e v =
      let w = whole_of s end left i p q e in
      let x = bind_ok (require_at (element_in_range (element_at s p)) zone_value j) _ tt v in
      let good = require_ok (element_in_range (element_at s p)) zone_value j x.0 x.1 in
      ap (λ (l : List ℕ). l ++ elements_bytes (elements_at s (p + size_at s p) left)) (element_part end left i p q h w good)
      ∙ ap (λ (l : List ℕ). part s p (size_at s p) ++ l) (elements_part end left (i + 1) (p + size_at s p) q (j + 1) h w.on x.2)
      ∙ sym (part_add s p (size_at s p) (sizes (elements_at s (p + size_at s p) left)))

  front_numbers : front_in_range (zone_at s) ≡ true → Numbers (floats_at s zone_floats 6)
  unfolding front_in_range zone_at Numbers floats_at
  front_numbers e =
      let x = zone_float s in
      let r =
      six (limit_range (num_at s limit_at limit_size) && area_range (x 0)) (area_range (x 1)) (coefficient_range (x 2)) (temperature_range (x 3))
      (heating_setpoint_range (x 4)) (setpoint_range (x 5)) e in
      let a = and_true (limit_range (num_at s limit_at limit_size)) (area_range (x 0)) r.0 in (
        area_number (x 0) a.1,
        (
          area_number (x 1) r.1,
          (
            coefficient_number (x 2) r.2,
            (temperature_number (x 3) r.3, (heating_setpoint_number (x 4) r.4, (setpoint_number (x 5) r.5, tt))),
          ),
        ),
      )

  six_part : first_element ≤ length s → front_in_range (zone_at s) ≡ true
      → row_bytes (zone_float s 0 ∷ zone_float s 1 ∷ zone_float s 2 ∷ zone_float s 3 ∷ zone_float s 4 ∷ zone_float s 5 ∷ []) ≡ part s zone_floats (8 * 6)
  unfolding floats_at
  six_part h e = row_part s b zone_floats 6 (omega arith) (front_numbers e)

  -- the front, with what follows it
  front_bytes : (n m : ℕ) → Structured s n → front_in_range (zone_at s) ≡ true → n - length_size ≡ length_field s → n ≡ first_element + m
      → bytes_of length_size (n - length_size)
      ++ (1 ∷ basis_number (basis_of (basis_in s)) ∷ count_in s
      ∷ (bytes_of limit_size (num_at s limit_at limit_size)
      ++ (row_bytes (zone_float s 0 ∷ zone_float s 1 ∷ zone_float s 2 ∷ zone_float s 3 ∷ zone_float s 4 ∷ zone_float s 5 ∷ []) ++ part s first_element m)))
      ≡ take n s
  front_bytes n m q good four ends =
      let total : n ≡ length_size + (1 + (1 + (1 + (limit_size + (8 * 6 + m))))) = omega (arith, ends) in
      let room : first_element ≤ length s = omega (arith, q.low, q.there) in
      rw (four, basis_back (basis_in s) q.basis, number_part s b 0 length_size (omega arith), number_part s b limit_at limit_size (omega arith), six_part room good)
      (sym
      (ap (part s 0) total
      ∙ rw (
        part_add s 0 length_size (1 + (1 + (1 + (limit_size + (8 * 6 + m))))),
        part_add s version_at 1 (1 + (1 + (limit_size + (8 * 6 + m)))),
        part_add s basis_at 1 (1 + (limit_size + (8 * 6 + m))),
        part_add s count_at 1 (limit_size + (8 * 6 + m)),
        part_add s limit_at limit_size (8 * 6 + m),
        part_add s zone_floats (8 * 6) m,
        part_one s version_at (omega arith),
        part_one s basis_at (omega arith),
        part_one s count_at (omega arith),
        q.version,
      )))

  head_part : (n : ℕ) → Structured s n → values_test (zone_at s) ≡ ok tt → head_bytes n (zone_at s) ≡ take n s
  unfolding head_bytes values_test zone_at
  head_part n q v =
      let x = bind_ok (require_at (front_in_range (zone_at s)) zone_value 0) _ tt v in
      let good = require_ok (front_in_range (zone_at s)) zone_value 0 x.0 x.1 in
      let es = elements_at s first_element (count_in s) in
      let values : all_required element_in_range zone_value es 1 ≡ ok tt = rw (zone_elements s) at x.2 in
      let ends : n ≡ first_element + sizes es = end_is s n (count_in s) 0 first_element n q.elements in
      let four : n - length_size ≡ length_field s = omega (arith, q.ends) in
      rw (zone_elements s, elements_part n (count_in s) 0 first_element n 1 q.there q.elements values) (front_bytes n (sizes es) q good four ends)

-- an accepted head is the bytes of its zone
pub head_bytes_lem : (bs : List ℕ) (h : ReadHead Zone) → Bytes bs → head_of bs ≡ ok h → take h.length bs ≡ head_bytes h.length h.zone
head_bytes_lem bs h b e =
    let n : ℕ = h.length in
    let a = accepted bs h e in
    let v : values_test (zone_at bs) ≡ ok tt = rw (← a.zone) a.values in
    sym (ap (head_bytes n) a.zone ∙ head_part bs b n (structured bs n a.structure) v)

-- so no two heads of one length hold the same zone
pub head_injective : (a b : List ℕ) (h : ReadHead Zone) → Bytes a → Bytes b → head_of a ≡ ok h → head_of b ≡ ok h → take h.length a ≡ take h.length b
head_injective a b h ba bb ea eb = head_bytes_lem a h ba ea ∙ sym (head_bytes_lem b h bb eb)
