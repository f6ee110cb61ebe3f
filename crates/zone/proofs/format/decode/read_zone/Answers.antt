use Rattle.std.proofs.Common.{◌≡◌, ℕ, ◌-◌, ◌++◌, arith, ap, ◌∙◌, replicate}
use Rattle.zone.specs.Format.Layout.{count_in, first_element}
use Rattle.zone.specs.Format.Decode.{elements_at, no_element, zone_at}
use Rattle.zone.proofs.Laws.Structure.{structured}
use Rattle.zone.proofs.format.decode.read_zone.Goals as goal

pub elements_to-requires : goal.elements_to-requires
elements_to-requires c =
    let q = structured c.args.s.now _ c.requires.1 in
    let n : c.from-zone.result ≡ count_in c.args.s.now = omega arith in
    rw n (q.few, q.there, q.elements)

-- field by field
pub returns : goal.returns
unfolding zone_at
returns c =
    let s = c.args.s.now in
    let n : c.from-zone.result ≡ count_in s = omega arith in
    λ i. record {
      temp_setpnt_basis = c.basis_of-zone.ensures i;
      count = n i;
      start_up_limit = c.read_u16_be.ensures.0 i;
      useful_area = c.read_f64_be-zone.ensures i;
      volume = c.read_f64_be-zone-2.ensures i;
      tb_heat_trans_coeff = c.read_f64_be-zone-3.ensures i;
      temp_ext_air_init = c.read_f64_be-zone-4.ensures i;
      temp_setpnt_init = c.read_f64_be-zone-5.ensures i;
      temp_setpnt_cool_vent_init = c.read_f64_be-zone-6.ensures i;
      building_elements = (c.elements_to.ensures ∙ ap (λ (m : ℕ). elements_at s first_element m ++ replicate (24 - m) no_element) n) i;
    }
