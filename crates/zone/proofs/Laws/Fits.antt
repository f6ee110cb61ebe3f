-- The temperatures after an accepted hour step: each is a value that an f64 holds, and behind the zone's nodes stand zeros.
use Rattle.std.proofs.Common.{ℕ, zero, suc, ◌+◌, ◌-◌, ◌*◌, ◌≡◌, sym, ap, subst, Bool, List, ◌++◌, arith, get_or, take, replicate, Float}
use lib.Ieee.{nan, binary64}
use lib.Ieee.Bits.{of_bits-fits}
use lib.Ieee.Fits.{nan-fits, add-fits, sub-fits, mul-fits}
use Rattle.solver.specs.F64.{◌+ᶠ◌, zero64}
use Rattle.solver.specs.Result.{ok}
use Rattle.solver.specs.Repeat.{repeat}
use Rattle.solver.specs.Chain.{outer_slot}
use Rattle.solver.specs.FastSolver.{at_most24}
use Rattle.solver.proofs.Promise.{AllFit, set_fits, zeros_fit, either_fits, repeat_fits, solve_fits}
use Rattle.zone.specs.declared.record.building_element.Coefficients.{Coefficients}
use Rattle.zone.specs.declared.record.building_element.Element.{Element}
use Rattle.zone.specs.declared.record.building_element.ElementHour.{ElementHour}
use Rattle.zone.specs.declared.record.zone_record.Zone.{Zone}
use Rattle.zone.specs.declared.format.conditions.Conditions.{Conditions}
use Rattle.zone.specs.declared.format.conditions.FixedRate.{FixedRate}
use Rattle.zone.specs.declared.format.limits.Limits.{Limits}
use Rattle.zone.specs.declared.calls.state.State.{State}
use Rattle.zone.specs.Record.BuildingElement.{is_two_nodes, node_count}
use Rattle.zone.specs.Physics.Slots.{element_slots, set_slot, set_slots, in_slots, element, element_hour}
use Rattle.zone.specs.Physics.Equations.{right_sides_two, right_sides_five, right_sides_of}
use Rattle.zone.specs.Physics.System.{zone_two_nodes, matrix_a, gains_per_area, right_sides_at, zone_right_side, vector_b}
use Rattle.zone.specs.Physics.Ventilation.{calc_vent_heat_transfer_coeff}
use Rattle.zone.specs.Physics.NodeLayout.{nodes_at, first_node, move, copy_nodes, to_nodes_at, to_nodes}
use Rattle.zone.specs.Physics.CalcTemperatures.{calc_temperatures}
use Rattle.zone.specs.Calls.State.{slots_of, state_of}
use Rattle.zone.specs.Calls.Hour.{HourResult, hour_step}
use Rattle.zone.proofs.Laws.Lists.{tail_same}
use Rattle.zone.proofs.Laws.Nodes.{to_nodes_length, to_nodes_behind}
use Rattle.zone.proofs.Laws.Zones.{node_count_is}
use Rattle.zone.proofs.Laws.Accepted.{StepMade, hour_made, hour_met, count_few}
use Rattle.zone.proofs.Laws.Whole.{elements_there}

-- ---- the right side of the system: sums, products and zeros

slots_fit : (e : ℕ) (r d : List Float) → AllFit r → AllFit d → AllFit (set_slots e r d)
unfolding set_slots
slots_fit e r d h k = repeat_fits (set_slot e r) (λ j l m. set_fits l (5 * e + j) (get_or r j nan) m (h j)) 0 5 d k

in_slots_fit : (n : ℕ) (r : ℕ → List Float) (d : List Float) → ((e : ℕ) → AllFit (r e)) → AllFit d → AllFit (in_slots n r d)
unfolding in_slots
in_slots_fit n r d h k = repeat_fits (λ e. set_slots e (r e)) (λ e l m. slots_fit e (r e) l (h e) m) 0 n d k

module _ (e : Element) (dt : Float) (h : ElementHour) (t : List Float) where
  two_fit : AllFit (right_sides_two e dt h t)
  two_fit zero = of_bits-fits binary64 0
  two_fit (suc zero) = of_bits-fits binary64 0
  two_fit (suc (suc zero)) = of_bits-fits binary64 0
  two_fit (suc (suc (suc zero))) = sub-fits binary64 _ _
  two_fit (suc (suc (suc (suc zero)))) = mul-fits binary64 _ _
  two_fit (suc (suc (suc (suc (suc i))))) = nan-fits binary64

  five_fit : AllFit (right_sides_five e dt h t)
  five_fit zero = sub-fits binary64 _ _
  five_fit (suc zero) = mul-fits binary64 _ _
  five_fit (suc (suc zero)) = mul-fits binary64 _ _
  five_fit (suc (suc (suc zero))) = mul-fits binary64 _ _
  five_fit (suc (suc (suc (suc zero)))) = mul-fits binary64 _ _
  five_fit (suc (suc (suc (suc (suc i))))) = nan-fits binary64

  sides_fit : AllFit (right_sides_of e dt h t)
  unfolding right_sides_of
  sides_fit = either_fits (is_two_nodes e.kind) (right_sides_two e dt h t) (right_sides_five e dt h t) two_fit five_fit

module _ (c : Coefficients) (z : Zone) (t : List Float) (h : Conditions) (dt gains fraction : Float) where
  element_fits : (e : ℕ) → AllFit (right_sides_at c z t h dt gains fraction e)
  element_fits e =
      let el = element z.building_elements e in
      let hour = element_hour h.elements e in
      let b = right_sides_of el dt hour (element_slots t e) in
      set_fits b 4 (get_or b 4 nan +ᶠ gains_per_area c z t h dt gains fraction) (sides_fit el dt hour (element_slots t e)) (add-fits binary64 _ _)

  vector_fits : (v : Float) → AllFit (vector_b c z t h dt gains fraction v)
  unfolding vector_b
  vector_fits v =
      set_fits (in_slots (at_most24 z.count) (right_sides_at c z t h dt gains fraction) (replicate 121 zero64)) 120 (zone_right_side c z t h dt gains fraction v)
      (in_slots_fit (at_most24 z.count) (right_sides_at c z t h dt gains fraction) (replicate 121 zero64) element_fits (zeros_fit 121))
      (add-fits binary64 _ _)

  temperatures_fit : (ach : Float) (after : List Float) → calc_temperatures c z t h dt gains fraction ach ≡ ok after → AllFit after
  unfolding calc_temperatures
  temperatures_fit ach after e =
      let v = calc_vent_heat_transfer_coeff z.volume ach in
      solve_fits (matrix_a c z t h dt v) (vector_b c z t h dt gains fraction v) after (vector_fits v) e

-- ---- the slots in node order

nodes_fit : (count : ℕ) (two_nodes : List Bool) (s : List Float) → AllFit s → AllFit (to_nodes count two_nodes s)
unfolding to_nodes copy_nodes
nodes_fit count two_nodes s h =
    let n = at_most24 count in
    set_fits (repeat 0 n (to_nodes_at two_nodes s) (replicate 121 zero64)) (first_node two_nodes n) (get_or s 120 nan)
    (repeat_fits (to_nodes_at two_nodes s) (λ e l k. block (nodes_at two_nodes e) (outer_slot two_nodes e) (first_node two_nodes e) l k) 0 n (replicate 121 zero64) (zeros_fit 121))
    (h 120)
  where
    block : (k from to : ℕ) (l : List Float) → AllFit l → AllFit (copy_nodes k from to s l)
    block k from to l m = repeat_fits (move from to s) (λ j b p. set_fits b (to + j) (get_or s (from + j) nan) p (h (from + j))) 0 k l m

-- ---- an accepted hour step

module _ (fixed : FixedRate) (c : Coefficients) (z : Zone) (version : ℕ) (l : Limits) (s : State) (bytes : List ℕ) (r : HourResult) (e : hour_step fixed c z version l s bytes ≡ ok r) where
  made : StepMade c z (slots_of z s) (hour_made c z s fixed version l bytes r e).conditions r.state
  made = hour_met c z s fixed version l bytes r e

  -- every temperature after it can be written as an f64 and read back
  pub hour_fits : AllFit r.state.temps
  unfolding state_of
  hour_fits =
      subst (λ (x : State). AllFit x.temps) made.state
      (nodes_fit z.count (zone_two_nodes z) made.temps (temperatures_fit c z (slots_of z s) _ _ _ _ _ made.temps made.solved))

  -- one for each node of the zone
  pub hour_nodes : r.state.nodes ≡ node_count z
  unfolding state_of
  hour_nodes = sym (ap (λ (x : State). x.nodes) made.state)

  -- and zeros in the places behind the air
  pub hour_behind : r.state.temps ≡ take (node_count z) r.state.temps ++ replicate (121 - node_count z) zero64
  unfolding state_of
  hour_behind =
      let two = zone_two_nodes z in
      let there = elements_there c z (slots_of z s) _ _ _ _ _ made.temps made.solved in
      let count = node_count_is z there (count_few c z s fixed version l bytes r e) in
      subst (λ (x : State). x.temps ≡ take (node_count z) x.temps ++ replicate (121 - node_count z) zero64) made.state
      (tail_same (to_nodes z.count two made.temps) (node_count z) 121 zero64 nan (to_nodes_length two z.count made.temps)
      (λ q h k. to_nodes_behind two z.count made.temps q (omega arith) k))
