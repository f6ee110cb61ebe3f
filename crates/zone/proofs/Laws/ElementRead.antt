-- An element is read from its bytes, and elements one after the other from theirs: each as a reader leaves the places that no bytes hold.
use Rattle.std.proofs.Common.{ℕ, ◌+◌, ◌*◌, ◌-◌, ◌<◌, ◌≤◌, ◌≡◌, refl, sym, ap, ◌∙◌, Bool, true, false, cond, ◌&&◌, List, [], ◌∷◌, ◌++◌, map, append_assoc, arith, le-leb, leb, take, drop, length, get_or, replicate, length-take-le, length-append, Float}
use lib.Ieee.{nan}
use Rattle.solver.specs.F64.{zero64}
use Rattle.solver.specs.Result.{ok}
use Rattle.zone.specs.Record.BuildingElement.{is_two_nodes, number_of_nodes}
use Rattle.zone.specs.Format.Bytes.{Bytes, float_at, float_size}
use Rattle.zone.specs.Format.Layout.{element_floats, element_arrays, five_nodes_size, transparent_size}
use Rattle.zone.specs.Format.ElementLayout.{h_count, kind_of, kind_at, treatments_at, max_treatments, kind_valid_at, element_size, size_at, sizes}
use Rattle.zone.specs.Format.Decode.{element_with, element_at, elements_at}
use Rattle.zone.specs.Format.Head.{elements_end}
use Rattle.zone.specs.Format.Encode.{row_bytes, kind_number}
use Rattle.zone.specs.Claims.Encode.{element_hour_bytes, element_bytes, elements_bytes}
use Rattle.zone.specs.Claims.RoundTrip.{ElementFits, element_as_read}
use Rattle.zone.specs.declared.record.building_element.Kind.{Kind}
use Rattle.zone.specs.declared.record.building_element.Kind.TheVariants.{Opaque, AdjacentConditionedSpace, AdjacentUnconditionedSpaceSimple, Ground, Transparent, PartyWall}
use Rattle.zone.specs.declared.record.building_element.Element.{Element}
use Rattle.solver.proofs.Promise.{take_fits}
use Rattle.zone.proofs.Laws.ElementLayout.{Shaped, shaped}
use Rattle.zone.proofs.Laws.RoundTrip.{past, byte_there, row_there, in_row}
use Rattle.zone.proofs.Laws.ReadBack.{Each, all_fit, hour_there, length_hour}
use Rattle.zone.proofs.Laws.AreBytes.{none_bytes, cons_bytes, append_bytes, floats_bytes, hour_bytes}
use Rattle.zone.proofs.Claims.ForBook.{length_row}

pub kind_read : (k : Kind) → kind_of (kind_number k) ≡ k
unfolding kind_of
kind_read Opaque = refl
kind_read AdjacentConditionedSpace = refl
kind_read AdjacentUnconditionedSpaceSimple = refl
kind_read Ground = refl
kind_read Transparent = refl
kind_read PartyWall = refl

kind_few : (k : Kind) → kind_number k ≤ 5
kind_few Opaque = omega arith
kind_few AdjacentConditionedSpace = omega arith
kind_few AdjacentUnconditionedSpaceSimple = omega arith
kind_few Ground = omega arith
kind_few Transparent = omega arith
kind_few PartyWall = omega arith

-- an element of the code's type with no more treatments than its kind has
pub record Sound (e : Element) : Type 0 where
  pub fit : ElementFits e
  pub few : e.treatments ≤ max_treatments e.kind

module _ (e : Element) (s : Sound e) where
  shape : Shaped (element_size e.kind e.treatments) e.treatments (number_of_nodes e.kind) (h_count e.kind)
  shape = shaped e.kind e.treatments s.few

  abbrev floats : List Float
  floats = e.area ∷ e.pitch ∷ e.h_ce ∷ e.h_re ∷ e.h_ri ∷ e.solar_absorption_coeff ∷ e.therm_rad_to_sky ∷ []

  abbrev ks : List Float
  ks = take (number_of_nodes e.kind) e.k_pli

  abbrev hs : List Float
  hs = take (h_count e.kind) e.h_pli

  abbrev ds : List Float
  ds = take e.treatments e.delta_r

  pub length_ks : length ks ≡ number_of_nodes e.kind
  length_ks = length-take-le (number_of_nodes e.kind) e.k_pli (omega (arith, s.fit.k_pli.0, shape.few_k))

  pub length_hs : length hs ≡ h_count e.kind
  length_hs = length-take-le (h_count e.kind) e.h_pli (omega (arith, s.fit.h_pli.0, shape.few_h))

  pub length_ds : length ds ≡ e.treatments
  length_ds = length-take-le e.treatments e.delta_r (omega (arith, s.fit.delta_r.0, shape.few_t))

  abbrev from_d : List ℕ
  from_d = row_bytes ds ++ element_hour_bytes e.first_hour

  abbrev from_h : List ℕ
  from_h = row_bytes hs ++ from_d

  abbrev from_k : List ℕ
  from_k = row_bytes ks ++ from_h

  pub length_element : length (element_bytes e) ≡ element_size e.kind e.treatments
  unfolding element_bytes
  length_element =
      omega (
        arith,
        length-append (row_bytes floats) from_k,
        length-append (row_bytes ks) from_h,
        length-append (row_bytes hs) from_d,
        length-append (row_bytes ds) (element_hour_bytes e.first_hour),
        length_row floats,
        length_row ks,
        length_row hs,
        length_row ds,
        length_hour e.first_hour,
        length_ks,
        length_hs,
        length_ds,
        shape.sized,
      )

  pub bytes_element : Bytes (element_bytes e)
  unfolding element_bytes
  bytes_element =
      cons_bytes (kind_number e.kind) (e.treatments ∷ (row_bytes floats ++ from_k)) (omega (arith, kind_few e.kind))
      (cons_bytes e.treatments (row_bytes floats ++ from_k) (omega (arith, shape.few_t))
      (append_bytes (row_bytes floats) from_k (floats_bytes floats)
      (append_bytes (row_bytes ks) from_h (floats_bytes ks)
      (append_bytes (row_bytes hs) from_d (floats_bytes hs)
      (append_bytes (row_bytes ds) (element_hour_bytes e.first_hour) (floats_bytes ds) (hour_bytes e.first_hour s.fit.first_hour.open_byte))))))

  module _ (bs r : List ℕ) (p : ℕ) (there : drop p bs ≡ element_bytes e ++ r) where
    opened : drop p bs ≡ kind_number e.kind ∷ e.treatments ∷ ((row_bytes floats ++ from_k) ++ r)
    unfolding element_bytes
    opened = there

    kind_byte : get_or bs p 0 ≡ kind_number e.kind
    kind_byte = byte_there bs (kind_number e.kind) _ p opened

    treatments_there : treatments_at bs p ≡ e.treatments
    treatments_there = byte_there bs e.treatments _ (p + 1) (past bs (kind_number e.kind ∷ []) (e.treatments ∷ ((row_bytes floats ++ from_k) ++ r)) p 1 (p + 1) refl refl opened)

    kind_there : kind_at bs p ≡ e.kind
    kind_there = ap kind_of kind_byte ∙ kind_read e.kind

    pub size_there : size_at bs p ≡ element_size e.kind e.treatments
    size_there i = element_size (kind_there i) (treatments_there i)

    pub kind_right : kind_valid_at bs p ≡ true
    kind_right =
        (λ i. leb (kind_byte i) 5 && leb (treatments_there i) (max_treatments (kind_there i)))
        ∙ rw (le-leb (kind_number e.kind) 5 (kind_few e.kind), le-leb e.treatments (max_treatments e.kind) s.few) refl

    -- where its parts begin
    floats_on : drop (p + element_floats) bs ≡ row_bytes floats ++ (from_k ++ r)
    floats_on =
        past bs (kind_number e.kind ∷ e.treatments ∷ []) ((row_bytes floats ++ from_k) ++ r) p element_floats (p + element_floats) refl refl opened
        ∙ append_assoc (row_bytes floats) from_k r

    ks_on : drop (p + element_arrays) bs ≡ row_bytes ks ++ (from_h ++ r)
    ks_on =
        past bs (row_bytes floats) (from_k ++ r) (p + element_floats) (8 * 7) (p + element_arrays) (omega arith) (length_row floats) floats_on
        ∙ append_assoc (row_bytes ks) from_h r

    hs_on : drop (p + element_arrays + float_size * number_of_nodes e.kind) bs ≡ row_bytes hs ++ (from_d ++ r)
    hs_on =
        past bs (row_bytes ks) (from_h ++ r) (p + element_arrays) (float_size * number_of_nodes e.kind) _ refl (length_row ks ∙ ap (λ (n : ℕ). 8 * n) length_ks) ks_on
        ∙ append_assoc (row_bytes hs) from_d r

    ds_on : drop (p + element_arrays + float_size * number_of_nodes e.kind + float_size * h_count e.kind) bs ≡ row_bytes ds ++ (element_hour_bytes e.first_hour ++ r)
    ds_on =
        past bs (row_bytes hs) (from_d ++ r) (p + element_arrays + float_size * number_of_nodes e.kind) (float_size * h_count e.kind) _ refl (length_row hs ∙ ap (λ (n : ℕ). 8 * n) length_hs) hs_on
        ∙ append_assoc (row_bytes ds) (element_hour_bytes e.first_hour) r

    hour_on : drop (p + element_arrays + float_size * number_of_nodes e.kind + float_size * h_count e.kind + float_size * e.treatments) bs ≡ element_hour_bytes e.first_hour ++ r
    hour_on =
        past bs (row_bytes ds) (element_hour_bytes e.first_hour ++ r) (p + element_arrays + float_size * number_of_nodes e.kind + float_size * h_count e.kind)
        (float_size * e.treatments) _ refl (length_row ds ∙ ap (λ (n : ℕ). 8 * n) length_ds) ds_on

    float_on : (i : ℕ) → i < 7 → float_at bs (p + (element_floats + float_size * i)) ≡ get_or floats i nan
    float_on i l = in_row bs floats (from_k ++ r) (p + element_floats) i (p + (element_floats + float_size * i)) (omega arith) l (all_fit floats s.fit.floats) floats_on

    with_its_counts : element_with bs p e.kind e.treatments (number_of_nodes e.kind) (h_count e.kind) ≡ element_as_read e
    with_its_counts =
        let x : (i : ℕ) → i < 7 → float_at bs (p + (element_floats + float_size * i)) ≡ get_or floats i nan = float_on in
        let k = row_there bs ks (from_h ++ r) _ (number_of_nodes e.kind) length_ks (take_fits (number_of_nodes e.kind) e.k_pli (all_fit e.k_pli s.fit.k_pli.1)) ks_on in
        let h = row_there bs hs (from_d ++ r) _ (h_count e.kind) length_hs (take_fits (h_count e.kind) e.h_pli (all_fit e.h_pli s.fit.h_pli.1)) hs_on in
        let d = row_there bs ds (element_hour_bytes e.first_hour ++ r) _ e.treatments length_ds (take_fits e.treatments e.delta_r (all_fit e.delta_r s.fit.delta_r.1)) ds_on in
        let hour = hour_there bs e.first_hour r _ s.fit.first_hour hour_on in
        λ i. record {
          kind = e.kind;
          treatments = e.treatments;
          area = x 0 (omega arith) i;
          pitch = x 1 (omega arith) i;
          h_ce = x 2 (omega arith) i;
          h_re = x 3 (omega arith) i;
          h_ri = x 4 (omega arith) i;
          solar_absorption_coeff = x 5 (omega arith) i;
          therm_rad_to_sky = x 6 (omega arith) i;
          k_pli = k i ++ replicate (5 - number_of_nodes e.kind) zero64;
          h_pli = h i ++ replicate (4 - h_count e.kind) zero64;
          delta_r = d i ++ replicate (4 - e.treatments) zero64;
          first_hour = hour i;
        }

    pub element_there : element_at bs p ≡ element_as_read e
    element_there = (λ i. element_with bs p (kind_there i) (treatments_there i) (number_of_nodes (kind_there i)) (h_count (kind_there i))) ∙ with_its_counts

-- ---- one after the other

pub length_of_elements : (es : List Element) → Each Sound es → length (elements_bytes es) ≡ sizes es
unfolding elements_bytes sizes Each
length_of_elements [] s = refl
length_of_elements (e ∷ es) s = omega (arith, length-append (element_bytes e) (elements_bytes es), length_element e s.0, length_of_elements es s.1)

pub bytes_of_elements : (es : List Element) → Each Sound es → Bytes (elements_bytes es)
unfolding elements_bytes Each
bytes_of_elements [] s = none_bytes
bytes_of_elements (e ∷ es) s = append_bytes (element_bytes e) (elements_bytes es) (bytes_element e s.0) (bytes_of_elements es s.1)

size_by : (b : Bool) (t : ℕ) → t ≤ cond b 4 0
    → (transparent_size ≤ cond b (transparent_size + float_size * t) five_nodes_size) × (cond b (transparent_size + float_size * t) five_nodes_size ≤ five_nodes_size)
size_by true t h = (omega arith, omega arith)
size_by false t h = (omega arith, omega arith)

pub sizes_between : (es : List Element) → Each Sound es → (transparent_size * length es ≤ sizes es) × (sizes es ≤ five_nodes_size * length es)
unfolding sizes Each
sizes_between [] s = (omega arith, omega arith)
sizes_between (e ∷ es) s =
    let one = size_by (is_two_nodes e.kind) e.treatments s.0.few in
    let others = sizes_between es s.1 in
    (omega (arith, one.0, others.0), omega (arith, one.1, others.1))

module _ (bs : List ℕ) where
  module _ (e : Element) (es : List Element) (r : List ℕ) (p : ℕ) (s : Sound e) (there : drop p bs ≡ (element_bytes e ++ elements_bytes es) ++ r) where
    first : drop p bs ≡ element_bytes e ++ (elements_bytes es ++ r)
    first = there ∙ append_assoc (element_bytes e) (elements_bytes es) r

    next : drop (p + size_at bs p) bs ≡ elements_bytes es ++ r
    next =
        past bs (element_bytes e) (elements_bytes es ++ r) p (size_at bs p) (p + size_at bs p) refl
        (length_element e s ∙ sym (size_there e s bs (elements_bytes es ++ r) p first)) first

  pub elements_there : (es : List Element) (r : List ℕ) (p n : ℕ) → length es ≡ n → Each Sound es → drop p bs ≡ elements_bytes es ++ r → elements_at bs p n ≡ map element_as_read es
  unfolding elements_at elements_bytes Each
  elements_there [] r p n l s there = rw (← l) refl
  elements_there (e ∷ es) r p n l s there =
      rw (← l)
      (λ i. element_there e s.0 bs (elements_bytes es ++ r) p (first e es r p s.0 there) i
      ∷ elements_there es r (p + size_at bs p) (length es) refl s.1 (next e es r p s.0 there) i)

  -- and there they end
  pub end_there : (es : List Element) (r : List ℕ) (end i p n : ℕ) → length es ≡ n → Each Sound es → drop p bs ≡ elements_bytes es ++ r → p + sizes es ≤ end
      → elements_end bs end n i p ≡ ok (p + sizes es)
  unfolding elements_end elements_bytes sizes Each
  end_there [] r end i p n l s there room = rw (← l) (ap ok (omega arith))
  end_there (e ∷ es) r end i p n l s there room =
      let f = first e es r p s.0 there in
      let z : size_at bs p ≡ element_size e.kind e.treatments = size_there e s.0 bs (elements_bytes es ++ r) p f in
      let least = size_by (is_two_nodes e.kind) e.treatments s.0.few in
      let on : elements_end bs end (length es) (i + 1) (p + size_at bs p) ≡ ok (p + size_at bs p + sizes es) =
      end_there es r end (i + 1) (p + size_at bs p) (length es) refl s.1 (next e es r p s.0 there) (omega (arith, z, room)) in
      rw (
        ← l,
        le-leb (p + element_floats) end (omega (arith, least.0, room)),
        kind_right e s.0 bs (elements_bytes es ++ r) p f,
        le-leb (p + size_at bs p) end (omega (arith, z, room)),
        on,
      ) (ap ok (omega (arith, z)))
