-- The bytes of a zone's head and of an hour's conditions: what is accepted is claimed to be just these, so no two heads hold the same zone.
-- Specification, Head; Conditions.
use Rattle.std.specs.Prelude.{ℕ, ◌-◌, List, [], ◌∷◌, ◌++◌, take}
use Rattle.zone.specs.Format.Bytes.{bytes_of}
use Rattle.zone.specs.Format.ElementLayout.{h_count}
use Rattle.zone.specs.Record.BuildingElement.{number_of_nodes}
use Rattle.zone.specs.declared.record.building_element.ElementHour.{ElementHour}
use Rattle.zone.specs.declared.record.building_element.Element.{Element}
use Rattle.zone.specs.declared.record.zone_record.Zone.{Zone}
use Rattle.zone.specs.declared.record.zone_record.ZoneTemperatureControlBasis.{ZoneTemperatureControlBasis}
use Rattle.zone.specs.declared.record.zone_record.ZoneTemperatureControlBasis.TheVariants.{Air, Operative}
use Rattle.zone.specs.declared.format.conditions.AirChangesPerHourArgument.{AirChangesPerHourArgument}
use Rattle.zone.specs.declared.format.conditions.AirChangesPerHourArgument.TheVariants.{Cooling, TargetAndWindowsOpen}
use Rattle.zone.specs.declared.format.conditions.Conditions.{Conditions}
use Rattle.zone.specs.Format.Encode.{float_bytes, row_bytes, kind_number}

abbrev pub element_hour_bytes : ElementHour → List ℕ
element_hour_bytes h =
    row_bytes (h.temp_ext ∷ h.i_sol_dir ∷ h.i_sol_dif ∷ h.f_sh_dir ∷ h.f_sh_dif ∷ [])
    ++ (h.treatments_open ∷ [])

unfoldable pub element_hours_bytes : List ElementHour → List ℕ
element_hours_bytes [] = []
element_hours_bytes (h ∷ hs) = element_hour_bytes h ++ element_hours_bytes hs

-- code 0 fixed, its second float all zero bits; code 1 target and open
abbrev pub ach_args_bytes : AirChangesPerHourArgument → List ℕ
ach_args_bytes (Cooling rate) = 0 ∷ (float_bytes rate ++ bytes_of 8 0)
ach_args_bytes (TargetAndWindowsOpen target windows) = 1 ∷ (float_bytes target ++ float_bytes windows)

-- conditions for n elements
unfoldable pub conditions_bytes : ℕ → Conditions → List ℕ
conditions_bytes n c =
    row_bytes
    (c.delta_t_h
    ∷ c.temp_ext_air
    ∷ c.gains_internal
    ∷ c.gains_solar
    ∷ c.frac_convective_heat
    ∷ c.frac_convective_cool
    ∷ c.temp_setpnt_heat
    ∷ c.temp_setpnt_cool
    ∷ c.temp_setpnt_cool_vent
    ∷ c.avg_air_supply_temp
    ∷ c.gains_heat_cool_convective
    ∷ c.gains_heat_cool_radiative
    ∷ [])
    ++ (ach_args_bytes c.ach_args ++ element_hours_bytes (take n c.elements))

abbrev pub basis_number : ZoneTemperatureControlBasis → ℕ
basis_number Air = 0
basis_number Operative = 1

unfoldable pub element_bytes : Element → List ℕ
element_bytes e =
    kind_number e.kind
    ∷ e.treatments
    ∷ (row_bytes (e.area ∷ e.pitch ∷ e.h_ce ∷ e.h_re ∷ e.h_ri ∷ e.solar_absorption_coeff ∷ e.therm_rad_to_sky ∷ [])
    ++ (row_bytes (take (number_of_nodes e.kind) e.k_pli)
    ++ (row_bytes (take (h_count e.kind) e.h_pli) ++ (row_bytes (take e.treatments e.delta_r) ++ element_hour_bytes e.first_hour))))

unfoldable pub elements_bytes : List Element → List ℕ
elements_bytes [] = []
elements_bytes (e ∷ es) = element_bytes e ++ elements_bytes es

-- a head of n bytes in all
unfoldable pub head_bytes : ℕ → Zone → List ℕ
head_bytes n z =
    bytes_of 4 (n - 4)
    ++ (1
    ∷ basis_number z.temp_setpnt_basis
    ∷ z.count
    ∷ (bytes_of 2 z.start_up_limit
    ++ (row_bytes (z.useful_area ∷ z.volume ∷ z.tb_heat_trans_coeff ∷ z.temp_ext_air_init ∷ z.temp_setpnt_init ∷ z.temp_setpnt_cool_vent_init ∷ [])
    ++ elements_bytes (take z.count z.building_elements))))
