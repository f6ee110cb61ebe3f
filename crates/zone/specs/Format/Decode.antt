-- The values that stand in a head's bytes.
-- Specification, Head; A zone as a record.
use Rattle.std.specs.Prelude.{ℕ, suc, zero, ◌+◌, ◌*◌, ◌-◌, cond, List, [], ◌∷◌, ◌++◌, get_or, replicate, eqb, Float}
use Rattle.solver.specs.F64.{zero64}
use Rattle.zone.specs.Format.Bytes.{num_at, float_at, float_size}
use Rattle.zone.specs.Format.Layout.{basis_in, count_in, limit_at, limit_size, zone_floats, first_element, element_floats, element_arrays, open_byte}
use Rattle.zone.specs.Record.BuildingElement.{number_of_nodes}
use Rattle.zone.specs.Format.ElementLayout.{h_count, kind_at, treatments_at, size_at}
use Rattle.zone.specs.declared.record.building_element.Kind.{Kind}
use Rattle.zone.specs.declared.record.building_element.ElementHour.{ElementHour}
use Rattle.zone.specs.declared.record.building_element.Element.{Element}
use Rattle.zone.specs.declared.record.zone_record.Zone.{Zone}
use Rattle.zone.specs.declared.record.zone_record.ZoneTemperatureControlBasis.{ZoneTemperatureControlBasis}
use Rattle.zone.specs.declared.record.zone_record.ZoneTemperatureControlBasis.TheVariants.{Air, Operative}

-- `count` floats one behind the other, from at on
unfoldable pub floats_at : List ℕ → (at count : ℕ) → List Float
floats_at bs at zero = []
floats_at bs at (suc n) = float_at bs at ∷ floats_at bs (at + float_size) n

-- an array of that size: the floats first, then zeros
abbrev pub array_at : (size : ℕ) → List ℕ → (at count : ℕ) → List Float
array_at size bs at n = floats_at bs at n ++ replicate (size - n) zero64

-- an hour's part of an element
abbrev pub element_hour_at : List ℕ → (at : ℕ) → ElementHour
element_hour_at bs at =
    let f : ℕ → Float = λ i. float_at bs (at + float_size * i) in
    record { temp_ext = float_at bs at; i_sol_dir = f 1; i_sol_dif = f 2; f_sh_dir = f 3; f_sh_dif = f 4; treatments_open = get_or bs (at + open_byte) 0 }

-- the hour's part in a place past the count: what no bytes are read as, all zeros
unfoldable pub no_element_hour : ElementHour
no_element_hour = element_hour_at [] 0

-- the element at p, of a kind with t treatments, kc of k_pli and hc of h_pli
abbrev pub element_with : List ℕ → (p : ℕ) → Kind → (t kc hc : ℕ) → Element
element_with bs p k t kc hc =
    let f : ℕ → Float = λ i. float_at bs (p + (element_floats + float_size * i)) in
    record {
      kind = k;
      treatments = t;
      area = f 0;
      pitch = f 1;
      h_ce = f 2;
      h_re = f 3;
      h_ri = f 4;
      solar_absorption_coeff = f 5;
      therm_rad_to_sky = f 6;
      k_pli = array_at 5 bs (p + element_arrays) kc;
      h_pli = array_at 4 bs (p + element_arrays + float_size * kc) hc;
      delta_r = array_at 4 bs (p + element_arrays + float_size * kc + float_size * hc) t;
      first_hour = element_hour_at bs (p + element_arrays + float_size * kc + float_size * hc + float_size * t);
    }

abbrev pub element_at : List ℕ → (p : ℕ) → Element
element_at bs p = element_with bs p (kind_at bs p) (treatments_at bs p) (number_of_nodes (kind_at bs p)) (h_count (kind_at bs p))

-- so many elements from p on
unfoldable pub elements_at : List ℕ → (p count : ℕ) → List Element
elements_at bs p zero = []
elements_at bs p (suc n) = element_at bs p ∷ elements_at bs (p + size_at bs p) n

-- the element in a place past the count: what no bytes are read as, an Opaque of zeros with no treatment
unfoldable pub no_element : Element
no_element = element_at [] 0

-- 0 air, 1 operative (as any other, which is refused with 4)
abbrev pub basis_of : ℕ → ZoneTemperatureControlBasis
basis_of b = cond (eqb b 0) Air Operative

-- the zone of a head
unfoldable pub zone_at : List ℕ → Zone
zone_at bs =
    let f : ℕ → Float = λ i. float_at bs (zone_floats + float_size * i) in
    record {
      temp_setpnt_basis = basis_of (basis_in bs);
      count = count_in bs;
      start_up_limit = num_at bs limit_at limit_size;
      useful_area = f 0;
      volume = f 1;
      tb_heat_trans_coeff = f 2;
      temp_ext_air_init = f 3;
      temp_setpnt_init = f 4;
      temp_setpnt_cool_vent_init = f 5;
      building_elements = elements_at bs first_element (count_in bs) ++ replicate (24 - count_in bs) no_element;
    }
