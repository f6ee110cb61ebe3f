-- What is written is read back: each zone that passes its test has a head that is read as it, and each hour in range has conditions that are read as it. So a
-- reader turns away no zone and no hour that the tests let pass.
-- Specification, Head; Conditions; A zone as a record.
use Rattle.std.specs.Prelude.{ℕ, ◌+◌, ◌-◌, ◌<◌, ◌≡◌, Bool, true, false, List, [], ◌∷◌, ◌++◌, map, length, take, replicate, All, T, Float}
use Rattle.std.specs.Float.{binary64}
use Rattle.std.specs.Float.Ieee.{fits}
use Rattle.solver.specs.F64.{zero64}
use Rattle.solver.specs.Result.{ok}
use Rattle.zone.specs.Record.BuildingElement.{number_of_nodes}
use Rattle.zone.specs.Physics.Slots.{element, element_hour}
use Rattle.zone.specs.Format.Bytes.{Bytes}
use Rattle.zone.specs.Format.Layout.{length_size}
use Rattle.zone.specs.Format.ElementLayout.{h_count, sizes}
use Rattle.zone.specs.Format.Decode.{no_element, no_element_hour}
use Rattle.zone.specs.Format.Head.{head_of}
use Rattle.zone.specs.Format.Conditions.{conditions_test, conditions_of}
use Rattle.zone.specs.Check.Ranges.{open_within}
use Rattle.zone.specs.Claims.Encode.{head_bytes, conditions_bytes}
use Rattle.zone.specs.declared.record.building_element.ElementHour.{ElementHour}
use Rattle.zone.specs.declared.record.building_element.Element.{Element}
use Rattle.zone.specs.declared.record.zone_record.Zone.{Zone}
use Rattle.zone.specs.declared.format.conditions.AirChangesPerHourArgument.{AirChangesPerHourArgument}
use Rattle.zone.specs.declared.format.conditions.AirChangesPerHourArgument.TheVariants.{Cooling, TargetAndWindowsOpen}
use Rattle.zone.specs.declared.format.conditions.Conditions.{Conditions}
use Rattle.zone.specs.declared.format.conditions.FixedRate.{FixedRate}
use Rattle.zone.specs.declared.format.conditions.FixedRate.TheVariants.{Retired, StillTaken}

-- ---- values of the code's types: floats that an f64 holds, arrays of their sizes, a byte

abbrev pub IsF64 : Float → Type 0
IsF64 x = T (fits binary64 x)

abbrev pub IsArray : (size : ℕ) → List Float → Type 0
IsArray size xs = (length xs ≡ size) × All IsF64 xs

pub record ElementHourFits (h : ElementHour) : Type 0 where
  pub floats : All IsF64 (h.temp_ext ∷ h.i_sol_dir ∷ h.i_sol_dif ∷ h.f_sh_dir ∷ h.f_sh_dif ∷ [])
  pub open_byte : h.treatments_open < 256

pub record ElementFits (e : Element) : Type 0 where
  pub floats : All IsF64 (e.area ∷ e.pitch ∷ e.h_ce ∷ e.h_re ∷ e.h_ri ∷ e.solar_absorption_coeff ∷ e.therm_rad_to_sky ∷ [])
  pub k_pli : IsArray 5 e.k_pli
  pub h_pli : IsArray 4 e.h_pli
  pub delta_r : IsArray 4 e.delta_r
  pub first_hour : ElementHourFits e.first_hour

pub record ZoneFits (z : Zone) : Type 0 where
  pub floats : All IsF64 (z.useful_area ∷ z.volume ∷ z.tb_heat_trans_coeff ∷ z.temp_ext_air_init ∷ z.temp_setpnt_init ∷ z.temp_setpnt_cool_vent_init ∷ [])
  pub places : length z.building_elements ≡ 24
  pub elements : All ElementFits z.building_elements

abbrev pub RatesFit : AirChangesPerHourArgument → Type 0
RatesFit (Cooling rate) = IsF64 rate
RatesFit (TargetAndWindowsOpen target windows) = IsF64 target × IsF64 windows

pub record ConditionsFit (c : Conditions) : Type 0 where
  pub floats : All IsF64 (
      c.delta_t_h
      ∷ c.temp_ext_air
      ∷ c.gains_internal
      ∷ c.gains_solar
      ∷ c.frac_convective_heat
      ∷ c.frac_convective_cool
      ∷ c.temp_setpnt_heat
      ∷ c.temp_setpnt_cool
      ∷ c.temp_setpnt_cool_vent
      ∷ c.avg_air_supply_temp
      ∷ c.gains_heat_cool_convective
      ∷ c.gains_heat_cool_radiative
      ∷ [])
  pub rates : RatesFit c.ach_args
  pub places : length c.elements ≡ 24
  pub elements : All ElementHourFits c.elements

-- ---- a record as it is read: the same, but for the places of its arrays that no bytes hold. A reader puts zeros there, and no element

abbrev pub array_as_read : (size used : ℕ) → List Float → List Float
array_as_read size used xs = take used xs ++ replicate (size - used) zero64

abbrev pub element_as_read : Element → Element
element_as_read e =
    record e {
      k_pli = array_as_read 5 (number_of_nodes e.kind) e.k_pli;
      h_pli = array_as_read 4 (h_count e.kind) e.h_pli;
      delta_r = array_as_read 4 e.treatments e.delta_r;
    }

abbrev pub zone_as_read : Zone → Zone
zone_as_read z = record z { building_elements = map element_as_read (take z.count z.building_elements) ++ replicate (24 - z.count) no_element }

-- of conditions for n elements
abbrev pub conditions_as_read : (n : ℕ) → Conditions → Conditions
conditions_as_read n c = record c { elements = take n c.elements ++ replicate (24 - n) no_element_hour }

-- ---- what is claimed

-- 4 for the length itself, 53 up to the elements, and the elements'
abbrev pub head_length : Zone → ℕ
head_length z = length_size + (53 + sizes (take z.count z.building_elements))

abbrev pub zone_bytes : Zone → List ℕ
zone_bytes z = head_bytes (head_length z) z

-- a zone's head, with any bytes behind, is read as the zone
pub record HeadRead (z : Zone) : Type 0 where
  pub bytes : Bytes (zone_bytes z)
  pub read : (behind : List ℕ) → head_of (zone_bytes z ++ behind) ≡ ok (record { zone = zone_as_read z; length = head_length z })

-- code 1 is taken, and code 0 where it still is
abbrev pub code_taken : FixedRate → AirChangesPerHourArgument → Bool
code_taken fixed (TargetAndWindowsOpen target windows) = true
code_taken StillTaken (Cooling rate) = true
code_taken Retired (Cooling rate) = false

-- an hour of a zone that is in range: its rate's code is taken, no open bit stands past the treatments of its element, and its values pass
pub record HourInRange (fixed : FixedRate) (z : Zone) (c : Conditions) : Type 0 where
  pub fit : ConditionsFit c
  pub code : code_taken fixed c.ach_args ≡ true
  pub opens : (e : ℕ) → e < z.count → open_within (element z.building_elements e).treatments (element_hour c.elements e).treatments_open ≡ true
  pub values : conditions_test z.count c ≡ ok tt

-- an hour's bytes are read as the hour
pub record HourRead (fixed : FixedRate) (z : Zone) (c : Conditions) : Type 0 where
  pub bytes : Bytes (conditions_bytes z.count c)
  pub read : conditions_of fixed z (conditions_bytes z.count c) ≡ ok (conditions_as_read z.count c)
