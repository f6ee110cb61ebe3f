-- A zone that passes its test is read from its head, with any bytes behind.
use Rattle.std.proofs.Common.{ℕ, ◌+◌, ◌*◌, ◌-◌, ◌^◌, ◌<◌, ◌≤◌, ◌≡◌, refl, sym, ap, ◌∙◌, ◌&&◌, List, [], ◌∷◌, ◌++◌, map, append_assoc, arith, le-leb, leb-true, leb, eq-eqb, take, drop, length, get_or, replicate, take_at, length-take-le, length-append, Float}
use Rattle.std.proofs.lemmas.List.{length-map}
use lib.Ieee.{nan}
use Rattle.solver.specs.F64.{zero64}
use Rattle.solver.specs.Result.{ok, require, require_at}
use Rattle.solver.proofs.Promise.{and_true, bind_ok, require_ok}
use Rattle.zone.specs.Record.Numbers.{structure, zone_value}
use Rattle.zone.specs.Record.BuildingElement.{number_of_nodes}
use Rattle.zone.specs.Format.Bytes.{Bytes, num_at, float_at, float_size, bytes_of}
use Rattle.zone.specs.Format.Layout.{length_size, length_field, version_at, version_in, basis_at, basis_in, count_at, count_in, limit_at, limit_size, zone_floats, first_element, shortest_length, longest_length}
use Rattle.zone.specs.Format.ElementLayout.{h_count, max_treatments, sizes}
use Rattle.zone.specs.Format.Decode.{elements_at, basis_of, zone_at, no_element}
use Rattle.zone.specs.Format.Encode.{row_bytes}
use Rattle.zone.specs.Format.Head.{structure_of, head_of}
use Rattle.zone.specs.Check.Ranges.{area_range, coefficient_range, temperature_range, heating_setpoint_range, setpoint_range, limit_range}
use Rattle.zone.specs.Check.ZoneTest.{all_required, element_in_range, front_in_range, values_test, count_valid, element_treatments_valid, counts_test, zone_test}
use Rattle.zone.specs.Claims.Encode.{basis_number, elements_bytes, head_bytes}
use Rattle.zone.specs.Claims.RoundTrip.{ElementFits, ZoneFits, element_as_read, zone_as_read, head_length, zone_bytes, HeadRead}
use Rattle.zone.specs.declared.record.building_element.Element.{Element}
use Rattle.zone.specs.declared.record.zone_record.Zone.{Zone}
use Rattle.zone.specs.declared.record.zone_record.ZoneTemperatureControlBasis.{ZoneTemperatureControlBasis}
use Rattle.zone.specs.declared.record.zone_record.ZoneTemperatureControlBasis.TheVariants.{Air, Operative}
use Rattle.zone.proofs.Laws.RoundTrip.{past, byte_there, number_there, in_row}
use Rattle.zone.proofs.Laws.ReadBack.{Each, each_of_first, all_fit}
use Rattle.zone.proofs.Laws.AreBytes.{cons_bytes, append_bytes, number_bytes, floats_bytes}
use Rattle.zone.proofs.Laws.ElementRead.{Sound, length_ks, length_hs, length_ds, length_of_elements, bytes_of_elements, sizes_between, elements_there, end_there}
use Rattle.zone.proofs.Claims.ConditionsBytes.{six}
use Rattle.zone.proofs.Claims.Head.{zone_count}
use Rattle.zone.proofs.Claims.ForBook.{length_bytes_of, length_row}

basis_read : (b : ZoneTemperatureControlBasis) → basis_of (basis_number b) ≡ b
basis_read Air = refl
basis_read Operative = refl

basis_few : (b : ZoneTemperatureControlBasis) → basis_number b ≤ 1
basis_few Air = omega arith
basis_few Operative = omega arith

-- ---- an element is judged as it is read

same_element : (e : Element) → Sound e → element_in_range (element_as_read e) ≡ element_in_range e
unfolding element_in_range
same_element e s =
    let nodes = number_of_nodes e.kind in
    let k = take_at (take nodes e.k_pli) (replicate (5 - nodes) zero64) nodes (length_ks e s) in
    let h = take_at (take (h_count e.kind) e.h_pli) (replicate (4 - h_count e.kind) zero64) (h_count e.kind) (length_hs e s) in
    let d = take_at (take e.treatments e.delta_r) (replicate (4 - e.treatments) zero64) e.treatments (length_ds e s) in
    rw (k, h, d) refl

same_elements : (es : List Element) (i : ℕ) → Each Sound es → all_required element_in_range zone_value (map element_as_read es) i ≡ all_required element_in_range zone_value es i
unfolding all_required Each
same_elements [] i s = refl
same_elements (e ∷ es) i s = rw (same_element e s.0, same_elements es (i + 1) s.1) refl

sound : (es : List Element) (i : ℕ) → Each ElementFits es → all_required element_treatments_valid structure es i ≡ ok tt → Each Sound es
unfolding all_required Each
sound [] i f t = tt
sound (e ∷ es) i f t =
    let x = bind_ok (require_at (element_treatments_valid e) structure i) _ tt t in
    let few = leb-true e.treatments (max_treatments e.kind) (require_ok (element_treatments_valid e) structure i x.0 x.1) in
    (record { fit = f.0; few = few }, sound es (i + 1) f.1 x.2)

module _ (z : Zone) (f : ZoneFits z) (t : zone_test z ≡ ok tt) where
  abbrev es : List Element
  es = take z.count z.building_elements

  abbrev floats : List Float
  floats = z.useful_area ∷ z.volume ∷ z.tb_heat_trans_coeff ∷ z.temp_ext_air_init ∷ z.temp_setpnt_init ∷ z.temp_setpnt_cool_vent_init ∷ []

  few : (1 ≤ z.count) × (z.count ≤ 24)
  few = zone_count z t

  counted : length es ≡ z.count
  counted = length-take-le z.count z.building_elements (omega (arith, few.1, f.places))

  elements_sound : Each Sound es
  unfolding zone_test counts_test
  elements_sound =
      let a = bind_ok (counts_test z) _ tt t in
      let b = bind_ok (require (count_valid z.count) structure) _ a.0 a.1 in
      sound es 1 (each_of_first ElementFits z.count z.building_elements f.elements) b.2

  between : (123 * z.count ≤ sizes es) × (sizes es ≤ 171 * z.count)
  between = let b = sizes_between es elements_sound in (omega (arith, b.0, counted), omega (arith, b.1, counted))

  -- the values

  values : values_test z ≡ ok tt
  unfolding zone_test
  values = (bind_ok (counts_test z) _ tt t).2

  read_elements : take z.count (zone_as_read z).building_elements ≡ map element_as_read es
  read_elements = take_at (map element_as_read es) (replicate (24 - z.count) no_element) z.count (length-map es element_as_read ∙ counted)

  values_read : values_test (zone_as_read z) ≡ ok tt
  unfolding values_test front_in_range
  values_read = rw (read_elements, same_elements es 1 elements_sound) values

  limit_small : z.start_up_limit < 256 ^ limit_size
  unfolding values_test front_in_range
  limit_small =
      let a = bind_ok (require (front_in_range z) zone_value) _ tt values in
      let good = require_ok (front_in_range z) zone_value 0 a.0 a.1 in
      let s =
      six (limit_range z.start_up_limit && area_range z.useful_area) (area_range z.volume) (coefficient_range z.tb_heat_trans_coeff)
      (temperature_range z.temp_ext_air_init) (heating_setpoint_range z.temp_setpnt_init) (setpoint_range z.temp_setpnt_cool_vent_init) good in
      let l = and_true (limit_range z.start_up_limit) (area_range z.useful_area) s.0 in
      omega (arith, leb-true z.start_up_limit 10000 (and_true (leb 1 z.start_up_limit) (leb z.start_up_limit 10000) l.0).1)

  -- the bytes, in order: the length, three bytes, the limit, six floats, the elements

  abbrev field : ℕ
  field = 53 + sizes es

  abbrev from_floats : List ℕ
  from_floats = row_bytes floats ++ elements_bytes es

  abbrev from_limit : List ℕ
  from_limit = bytes_of limit_size z.start_up_limit ++ from_floats

  abbrev from_version : List ℕ
  from_version = 1 ∷ basis_number z.temp_setpnt_basis ∷ z.count ∷ from_limit

  abbrev all : List ℕ
  all = bytes_of length_size field ++ from_version

  is_all : zone_bytes z ≡ all
  unfolding head_bytes
  is_all = let four : head_length z - 4 ≡ field = omega arith in ap (λ (n : ℕ). bytes_of length_size n ++ from_version) four

  length_all : length all ≡ length_size + field
  length_all =
      omega (
        arith,
        length-append (bytes_of length_size field) from_version,
        length-append (bytes_of limit_size z.start_up_limit) from_floats,
        length-append (row_bytes floats) (elements_bytes es),
        length_bytes_of length_size field,
        length_bytes_of limit_size z.start_up_limit,
        length_row floats,
        length_of_elements es elements_sound,
      )

  are_bytes : Bytes all
  are_bytes =
      append_bytes (bytes_of length_size field) from_version (number_bytes length_size field)
      (cons_bytes 1 (basis_number z.temp_setpnt_basis ∷ z.count ∷ from_limit) (omega arith)
      (cons_bytes (basis_number z.temp_setpnt_basis) (z.count ∷ from_limit) (omega (arith, basis_few z.temp_setpnt_basis))
      (cons_bytes z.count from_limit (omega (arith, few.1))
      (append_bytes (bytes_of limit_size z.start_up_limit) from_floats (number_bytes limit_size z.start_up_limit)
      (append_bytes (row_bytes floats) (elements_bytes es) (floats_bytes floats) (bytes_of_elements es elements_sound))))))

  module _ (r bs : List ℕ) (e : bs ≡ all ++ r) where
    room : length_size + field ≤ length bs
    room = omega (arith, ap (length {A = ℕ}) e, length-append all r, length_all)

    start : bs ≡ bytes_of length_size field ++ (from_version ++ r)
    start = e ∙ append_assoc (bytes_of length_size field) from_version r

    version_on : drop version_at bs ≡ from_version ++ r
    version_on = past bs (bytes_of length_size field) (from_version ++ r) 0 length_size version_at refl (length_bytes_of length_size field) start

    limit_on : drop limit_at bs ≡ bytes_of limit_size z.start_up_limit ++ (from_floats ++ r)
    limit_on =
        past bs (1 ∷ basis_number z.temp_setpnt_basis ∷ z.count ∷ []) (from_limit ++ r) version_at 3 limit_at refl refl version_on
        ∙ append_assoc (bytes_of limit_size z.start_up_limit) from_floats r

    floats_on : drop zone_floats bs ≡ row_bytes floats ++ (elements_bytes es ++ r)
    floats_on =
        past bs (bytes_of limit_size z.start_up_limit) (from_floats ++ r) limit_at limit_size zone_floats refl (length_bytes_of limit_size z.start_up_limit) limit_on
        ∙ append_assoc (row_bytes floats) (elements_bytes es) r

    elements_on : drop first_element bs ≡ elements_bytes es ++ r
    elements_on = past bs (row_bytes floats) (elements_bytes es ++ r) zone_floats (8 * 6) first_element refl (length_row floats) floats_on

    field_there : length_field bs ≡ field
    field_there = number_there bs length_size field (from_version ++ r) 0 (omega (arith, between.1, few.1)) start

    version_there : version_in bs ≡ 1
    version_there = byte_there bs 1 (basis_number z.temp_setpnt_basis ∷ z.count ∷ (from_limit ++ r)) version_at version_on

    basis_there : basis_in bs ≡ basis_number z.temp_setpnt_basis
    basis_there =
        byte_there bs (basis_number z.temp_setpnt_basis) (z.count ∷ (from_limit ++ r)) basis_at
        (past bs (1 ∷ []) (basis_number z.temp_setpnt_basis ∷ z.count ∷ (from_limit ++ r)) version_at 1 basis_at refl refl version_on)

    count_there : count_in bs ≡ z.count
    count_there =
        byte_there bs z.count (from_limit ++ r) count_at
        (past bs (1 ∷ basis_number z.temp_setpnt_basis ∷ []) (z.count ∷ (from_limit ++ r)) version_at 2 count_at refl refl version_on)

    limit_there : num_at bs limit_at limit_size ≡ z.start_up_limit
    limit_there = number_there bs limit_size z.start_up_limit (from_floats ++ r) limit_at limit_small limit_on

    float_on : (i : ℕ) → i < 6 → float_at bs (zone_floats + float_size * i) ≡ get_or floats i nan
    float_on i l = in_row bs floats (elements_bytes es ++ r) zone_floats i (zone_floats + float_size * i) refl l (all_fit floats f.floats) floats_on

    zone_there : zone_at bs ≡ zone_as_read z
    unfolding zone_at
    zone_there =
        let x : (i : ℕ) → i < 6 → float_at bs (zone_floats + float_size * i) ≡ get_or floats i nan = float_on in
        let basis : basis_of (basis_in bs) ≡ z.temp_setpnt_basis = ap basis_of basis_there ∙ basis_read z.temp_setpnt_basis in
        let elements : elements_at bs first_element (count_in bs) ≡ map element_as_read es =
        elements_there bs es r first_element (count_in bs) (counted ∙ sym count_there) elements_sound elements_on in
        λ i. record {
          temp_setpnt_basis = basis i;
          count = count_there i;
          start_up_limit = limit_there i;
          useful_area = x 0 (omega arith) i;
          volume = x 1 (omega arith) i;
          tb_heat_trans_coeff = x 2 (omega arith) i;
          temp_ext_air_init = x 3 (omega arith) i;
          temp_setpnt_init = x 4 (omega arith) i;
          temp_setpnt_cool_vent_init = x 5 (omega arith) i;
          building_elements = elements i ++ replicate (24 - count_there i) no_element;
        }

    structure_there : structure_of bs ≡ ok (head_length z)
    unfolding structure_of
    structure_there =
        let ends = end_there bs es r (length_size + field) 0 first_element z.count counted elements_sound elements_on (omega arith) in
        rw (
          le-leb length_size (length bs) (omega (arith, room)),
          field_there,
          le-leb shortest_length field (omega (arith, between.0, few.0)),
          le-leb field longest_length (omega (arith, between.1, few.1)),
          le-leb (length_size + field) (length bs) room,
          version_there,
          basis_there,
          le-leb (basis_number z.temp_setpnt_basis) 1 (basis_few z.temp_setpnt_basis),
          count_there,
          le-leb 1 z.count few.0,
          le-leb z.count 24 few.1,
          ends,
          eq-eqb (first_element + sizes es) (length_size + field) (omega arith),
        ) refl

    head_there : head_of bs ≡ ok (record { zone = zone_as_read z; length = head_length z })
    unfolding head_of
    head_there = rw (structure_there, zone_there, values_read) refl

  pub head_read : HeadRead z
  head_read =
      record {
        bytes = rw is_all are_bytes;
        read = λ behind. head_there behind (zone_bytes z ++ behind) (ap (λ (l : List ℕ). l ++ behind) is_all);
      }
