-- Convection by direction: the three sums of an accepted update or hour step, told by the states before and after it.
use Rattle.std.proofs.Common.{◌≡◌, refl, sym, ap, subst, ◌∙◌, Bool, true, false, cond, not, ◌&&◌, ◌||◌, List, ℕ, zero, suc, ◌+◌, ◌-◌, ◌*◌, ◌<◌, ◌≤◌, arith, length, get_or, Float, le-ltb}
use lib.Ieee.{nan, is_nan, lt, le, of_bits}
use Rattle.solver.specs.F64.{◌-ᶠ◌, ◌*ᶠ◌, decimal}
use Rattle.solver.specs.Sums.{sum_from0, terms_of}
use Rattle.solver.specs.Chain.{outer_slot}
use Rattle.solver.specs.FastSolver.{at_most24}
use Rattle.solver.specs.Result.{ok, require}
use Rattle.solver.proofs.Promise.{bind_ok, ok_inj, and_true, clash, le_no_nan, not_below, not_above, lt_trans}
use Rattle.zone.specs.declared.record.building_element.HeatFlowDirection.{HeatFlowDirection}
use Rattle.zone.specs.declared.record.building_element.HeatFlowDirection.TheVariants.{Horizontal, Upwards, Downwards}
use Rattle.zone.specs.declared.record.building_element.Element.{Element}
use Rattle.zone.specs.declared.record.zone_record.Zone.{Zone}
use Rattle.zone.specs.declared.format.conditions.Conditions.{Conditions}
use Rattle.zone.specs.declared.format.conditions.FixedRate.TheVariants.{Retired}
use Rattle.zone.specs.declared.physics.balance.HeatBalance.{HeatBalance}
use Rattle.zone.specs.declared.calls.state.State.{State}
use Rattle.zone.specs.Record.Numbers as Number
use Rattle.zone.specs.Record.BuildingElement.{standard_coefficients, heat_flow_direction, is_direction, h_ci_of, h_ci}
use Rattle.zone.specs.Format.Decode.{no_element}
use Rattle.zone.specs.Check.Ranges.{area_range, pitch_range, coefficient_range, sky_range, gains_range, fraction_range, rate_range}
use Rattle.zone.specs.Check.ZoneTest.{element_in_range, front_in_range, values_test, counts_test, zone_test}
use Rattle.zone.specs.Physics.Slots.{air, inner_surface, element}
use Rattle.zone.specs.Physics.System.{zone_two_nodes, direction_at}
use Rattle.zone.specs.Physics.NodeLayout.{nodes_at, first_node, to_slots, to_nodes}
use Rattle.zone.specs.Physics.CalcTemperatures.{calc_temperatures}
use Rattle.zone.specs.Physics.HeatBalance.{terms_where, convective_loss_at, heat_balance}
use Rattle.zone.specs.Hour.Demand.{delta_t}
use Rattle.zone.specs.Calls.State.{slots_of, state_of}
use Rattle.zone.specs.Calls.Hour.{tested, step, update_temperatures}
use Rattle.zone.specs.Claims.Convection.{Flows, wall, ceiling_upwards, ceiling_downwards, floor_upwards, floor_downwards, surface_of, air_of, Term, Parted, none, horizontally, upwards, downwards, ByDirection, YieldsDirection, UpdateByDirection, HourByDirection}
use Rattle.zone.proofs.Claims.Head.{zone_count}
use Rattle.zone.proofs.Laws.Accepted.{hour_made}
use Rattle.zone.proofs.Laws.Nodes.{slot_le, to_slots_at_lem, to_slots_air, to_nodes_at_lem, to_nodes_air}
use Rattle.zone.proofs.Laws.Required.{required_each}
use Rattle.zone.proofs.Laws.Whole.{elements_there}

-- ---- direction and coefficient

apart : lt (decimal 120 0) (decimal 60 0) ≡ false
unfolding decimal of_bits lt
apart = refl

sixty : is_nan (decimal 60 0) ≡ false
unfolding decimal of_bits is_nan
sixty = refl

hundred_twenty : is_nan (decimal 120 0) ≡ false
unfolding decimal of_bits is_nan
hundred_twenty = refl

module _ (pitch air surface : Float) (number : is_nan pitch ≡ false) where
  -- what the tests of the pitch and of the temperatures tell
  abbrev told : (from to floor ceiling inwards : Bool) → HeatFlowDirection
  told from to floor ceiling inwards = cond (from && to) Horizontal (cond (floor && inwards || ceiling && not inwards) Upwards Downwards)

  flows_told : (from to floor ceiling inwards : Bool)
      → le (decimal 60 0) pitch ≡ from → le pitch (decimal 120 0) ≡ to → lt (decimal 120 0) pitch ≡ floor → lt pitch (decimal 60 0) ≡ ceiling → lt air surface ≡ inwards
      → Flows pitch air surface (told from to floor ceiling inwards) (h_ci_of standard_coefficients (told from to floor ceiling inwards))
  unfolding standard_coefficients
  flows_told true true floor ceiling inwards a b f k i = wall a b
  -- a floor
  flows_told true false floor true inwards a b f k i = clash (lt pitch (decimal 60 0)) k (not_above (decimal 60 0) pitch a)
  flows_told true false false false inwards a b f k i = clash (le pitch (decimal 120 0)) (not_below (decimal 120 0) pitch hundred_twenty number f) b
  flows_told true false true false true a b f k i = floor_upwards f i
  flows_told true false true false false a b f k i = floor_downwards f i
  -- a ceiling
  flows_told false to floor false inwards a b f k i = clash (le (decimal 60 0) pitch) (not_below pitch (decimal 60 0) number sixty k) a
  flows_told false to true true inwards a b f k i = clash (lt (decimal 120 0) (decimal 60 0)) (lt_trans (decimal 120 0) pitch (decimal 60 0) f k) apart
  flows_told false to false true true a b f k i = ceiling_downwards k i
  flows_told false to false true false a b f k i = ceiling_upwards k i

  flows : Flows pitch air surface (heat_flow_direction standard_coefficients pitch air surface) (h_ci_of standard_coefficients (heat_flow_direction standard_coefficients pitch air surface))
  unfolding heat_flow_direction standard_coefficients
  flows =
      flows_told (le (decimal 60 0) pitch) (le pitch (decimal 120 0)) (lt (decimal 120 0) pitch) (lt pitch (decimal 60 0)) (lt air surface) refl refl refl refl refl

pub yields_direction : YieldsDirection
yields_direction pitch air surface number = flows pitch air surface number

-- ---- the temperatures of states, in node order and in slots

module _ (z : Zone) (few : z.count ≤ 24) where
  abbrev two : List Bool
  two = zone_two_nodes z

  all : at_most24 z.count ≡ z.count
  all = rw (le-ltb 24 z.count few) refl

  -- the inner surface stands in the last slot of its element, and is its last node
  last_slot : (e : ℕ) → outer_slot two e + (nodes_at two e - 1) ≡ 5 * e + 4
  last_slot e = omega (arith, slot_le two e)

  last_node : (e : ℕ) → first_node two e + (nodes_at two e - 1) ≡ first_node two (suc e) - 1
  unfolding first_node
  last_node e = omega (arith, slot_le two e)

  module _ (e : ℕ) (counted : e < z.count) where
    counted' : e < at_most24 z.count
    counted' = subst (λ (n : ℕ). e < n) (sym all) counted

    some_node : nodes_at two e - 1 < nodes_at two e
    some_node = omega (arith, slot_le two e)

    surface_before : (s : State) → inner_surface (slots_of z s) e ≡ surface_of z s e
    unfolding slots_of
    surface_before s =
        ap (λ (q : ℕ). get_or (to_slots z.count two s.temps) q nan) (sym (last_slot e))
        ∙ to_slots_at_lem two z.count s.temps e (nodes_at two e - 1) counted' some_node
        ∙ ap (λ (q : ℕ). get_or s.temps q nan) (last_node e)

    surface_after : (t : List Float) → inner_surface t e ≡ surface_of z (state_of z t) e
    unfolding state_of
    surface_after t =
        ap (λ (q : ℕ). get_or t q nan) (sym (last_slot e))
        ∙ sym (to_nodes_at_lem two z.count t e (nodes_at two e - 1) counted' some_node)
        ∙ ap (λ (q : ℕ). get_or (to_nodes z.count two t) q nan) (last_node e)

  air_before : (s : State) → air (slots_of z s) ≡ air_of z s
  unfolding slots_of
  air_before s = to_slots_air two z.count s.temps ∙ ap (λ (n : ℕ). get_or s.temps (first_node two n) nan) all

  air_after : (t : List Float) → air t ≡ air_of z (state_of z t)
  unfolding state_of
  air_after t = sym (to_nodes_air two z.count t) ∙ ap (λ (n : ℕ). get_or (to_nodes z.count two t) (first_node two n) nan) all

-- ---- the terms

in_pitch : (el : Element) → element_in_range el ≡ true → pitch_range el.pitch ≡ true
unfolding element_in_range
in_pitch el good =
    let two = area_range el.area && pitch_range el.pitch in
    let three = two && coefficient_range el.h_ce in
    let four = three && coefficient_range el.h_re in
    let five = four && coefficient_range el.h_ri in
    let six = five && fraction_range el.solar_absorption_coeff in
    let seven = six && sky_range el.therm_rad_to_sky in
    let in_seven : seven ≡ true = (and_true seven _ good).0 in
    let in_five = (and_true five _ (and_true six _ in_seven).0).0 in
    (and_true (area_range el.area) (pitch_range el.pitch) (and_true two _ (and_true three _ (and_true four _ in_five).0).0).0).1

-- the pitch of an element that a tested zone counts is a number
pitch_number : (z : Zone) (u : Unit {0}) → zone_test z ≡ ok u → (e : ℕ) → e < z.count → e < length z.building_elements → is_nan (element z.building_elements e).pitch ≡ false
unfolding zone_test values_test pitch_range
pitch_number z u p e h r =
    let counts = bind_ok (counts_test z) _ u p in
    let front = bind_ok (require (front_in_range z) Number.zone_value) _ u counts.2 in
    let el = element z.building_elements e in
    let good = required_each element_in_range Number.zone_value no_element z.count z.building_elements 1 u front.2 e h r in
    (le_no_nan (decimal 0 0) el.pitch (and_true (le (decimal 0 0) el.pitch) (le el.pitch (decimal 180 0)) (in_pitch el good)).0).1

module _ (z : Zone) (few : z.count ≤ 24) (s : State) (t : List Float) where
  abbrev es : List Element
  es = z.building_elements

  abbrev loss : ℕ → Float
  loss = convective_loss_at standard_coefficients es (slots_of z s) t

  abbrev direction : ℕ → HeatFlowDirection
  direction = direction_at standard_coefficients es (slots_of z s)

  abbrev after : State
  after = state_of z t

  term : (e : ℕ) → e < z.count → is_nan (element es e).pitch ≡ false → Term z s after e (direction e) (loss e)
  unfolding h_ci
  term e counted number =
      record {
        h_ci = h_ci_of standard_coefficients (direction e);
        flows =
            subst (λ (a : Float). Flows (element es e).pitch a (surface_of z s e) (direction e) (h_ci_of standard_coefficients (direction e))) (air_before z few s)
            (subst (λ (i : Float). Flows (element es e).pitch (air (slots_of z s)) i (direction e) (h_ci_of standard_coefficients (direction e))) (surface_before z few e counted s)
            (flows (element es e).pitch (air (slots_of z s)) (inner_surface (slots_of z s) e) number));
        heat = λ i. (element es e).area *ᶠ (h_ci_of standard_coefficients (direction e) *ᶠ (air_after z few t i -ᶠ surface_after z few e counted t i));
      }

  -- the terms of k elements from element e on whose direction is d
  abbrev of : HeatFlowDirection → (k e : ℕ) → List Float
  of d k e = terms_where (λ i. is_direction (direction i) d) loss k e

  -- element e goes to the list of its direction
  put : (k e : ℕ) (d : HeatFlowDirection) → direction e ≡ d → Term z s after e d (loss e)
      → Parted z s after k (suc e) (terms_of k (suc e) loss) (of Horizontal k (suc e)) (of Upwards k (suc e)) (of Downwards k (suc e))
      → Parted z s after (suc k) e (terms_of (suc k) e loss) (of Horizontal (suc k) e) (of Upwards (suc k) e) (of Downwards (suc k) e)
  unfolding terms_of terms_where
  put k e Horizontal p x rest = rw p (horizontally x rest)
  put k e Upwards p x rest = rw p (upwards x rest)
  put k e Downwards p x rest = rw p (downwards x rest)

  parted : (k e : ℕ) → k + e ≤ z.count → ((i : ℕ) → i < z.count → is_nan (element es i).pitch ≡ false)
      → Parted z s after k e (terms_of k e loss) (of Horizontal k e) (of Upwards k e) (of Downwards k e)
  unfolding terms_of terms_where
  parted zero e h numbers = none
  parted (suc k) e h numbers =
      put k e (direction e) refl (term e (omega arith) (numbers e (omega arith))) (parted k (suc e) (omega arith) numbers)

-- ---- the calls

module _ (z : Zone) (s : State) (h : Conditions) (gains fraction ach : Float) where
  -- of a step whose zone is tested
  step_by_direction : (u : Unit {0}) → zone_test z ≡ ok u → (r : State × HeatBalance) → step standard_coefficients z s h gains fraction ach ≡ ok r
      → ByDirection z s r.0 r.1.internal_boundary
  unfolding step heat_balance
  step_by_direction u p r e =
      let c = standard_coefficients in
      let t = bind_ok (calc_temperatures c z (slots_of z s) h (delta_t h) gains fraction ach) _ r e in
      let few = (zone_count z p).1 in
      let there = elements_there c z (slots_of z s) h (delta_t h) gains fraction ach t.0 t.1 in
      let n_all = all z few in
      let numbers : (i : ℕ) → i < z.count → is_nan (element z.building_elements i).pitch ≡ false =
      λ i l. pitch_number z u p i l (omega (arith, n_all)) in
      subst (λ (x : State × HeatBalance). ByDirection z s x.0 x.1.internal_boundary) (ok_inj t.2)
      (record {
        terms = terms_of z.count 0 (loss z few s t.0);
        horizontal = of z few s t.0 Horizontal z.count 0;
        upwards = of z few s t.0 Upwards z.count 0;
        downwards = of z few s t.0 Downwards z.count 0;
        parted = parted z few s t.0 z.count 0 (omega arith) numbers;
        total_is = let from_0 : at_most24 z.count - 0 ≡ z.count = omega (arith, n_all) in ap (λ (k : ℕ). sum_from0 (terms_of k 0 (loss z few s t.0))) from_0;
        horizontal_is = ap (λ (k : ℕ). sum_from0 (of z few s t.0 Horizontal k 0)) n_all;
        upwards_is = ap (λ (k : ℕ). sum_from0 (of z few s t.0 Upwards k 0)) n_all;
        downwards_is = ap (λ (k : ℕ). sum_from0 (of z few s t.0 Downwards k 0)) n_all;
      })

pub update_by_direction : (z : Zone) → UpdateByDirection z
unfolding update_temperatures tested
update_by_direction z s bytes gains fraction ach r e =
    let h = bind_ok (tested Retired z s bytes) _ r e in
    let w = bind_ok (require (gains_range gains && fraction_range fraction && rate_range ach) Number.conditions_value) _ r h.2 in
    let u = bind_ok (zone_test z) _ h.0 h.1 in
    step_by_direction z s h.0 gains fraction ach u.0 u.1 r w.2

pub hour_by_direction : (z : Zone) → HourByDirection z
unfolding tested
hour_by_direction z fixed version l s bytes r e =
    let m = hour_made standard_coefficients z s fixed version l bytes r e in
    let u = bind_ok (zone_test z) _ m.conditions m.tests in
    step_by_direction z s m.conditions m.gains m.fraction r.demand.ach_cooling u.0 u.1 (r.state, r.balance) m.stepped
