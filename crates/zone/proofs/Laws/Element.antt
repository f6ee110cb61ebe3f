-- The treatments and the nodes of elements, one by one.
use Rattle.std.proofs.Common.{◌≡◌, sym, ◌∙◌, Bool, true, false, cond, List, ℕ, ◌+◌, ◌≤◌, ◌<◌, ◌/◌, ◌%◌, ◌^◌, arith, length, drop, get_or, drop_of_length-le, eqb, Float}
use Rattle.std.proofs.lemmas.Nat.{and_mask, shr-shr}
use Rattle.std.specs.Int.Bits.{bit_and}
use Rattle.solver.specs.F64.{◌+ᶠ◌}
use Rattle.solver.proofs.Promise.{drop_next}
use Rattle.zone.specs.Record.BuildingElement.{add_closed, is_two_nodes, number_of_nodes, nodes_of}
use Rattle.zone.specs.declared.record.building_element.Kind.{Kind}
use Rattle.zone.specs.declared.record.building_element.Element.{Element}

-- a loop over the treatments' resistances, whose invariant is that those that are left, added to r, give what all of them give
module _ (bits i : ℕ) (r : Float) (l : List Float) (w : Float) (inv : add_closed (bits / 2 ^ i) r (drop i l) ≡ w) where
  pub closed_next : (d r' : Float) → i < length l → r' ≡ cond (eqb (bit_and (bits / 2 ^ i) 1) 0) (r +ᶠ get_or l i d) r → add_closed (bits / 2 ^ (i + 1)) r' (drop (i + 1) l) ≡ w
  unfolding add_closed
  closed_next d r' h e =
      let turn : add_closed (bits / 2 ^ i) r (drop i l) ≡ add_closed (bits / 2 ^ i / 2) (cond (eqb (bits / 2 ^ i % 2) 0) (r +ᶠ get_or l i d) r) (drop (i + 1) l) = rw (drop_next l i d h) in
      rw (← shr-shr bits i 1, e, and_mask (bits / 2 ^ i) 1) (sym turn ∙ inv)

  pub closed_end : length l ≤ i → r ≡ w
  unfolding add_closed
  closed_end h = let turn : add_closed (bits / 2 ^ i) r (drop i l) ≡ r = rw (drop_of_length-le l h) in sym turn ∙ inv

two_or_five : (b : Bool) → cond b 2 5 ≤ 5
two_or_five true = omega arith
two_or_five false = omega arith

pub nodes_few : (k : Kind) (n : ℕ) → n ≡ number_of_nodes k → n ≤ 5
unfolding number_of_nodes
nodes_few k n e = rw e (two_or_five (is_two_nodes k))

one_or_more : (b : Bool) → 1 ≤ cond b 2 5
one_or_more true = omega arith
one_or_more false = omega arith

pub nodes_some : (k : Kind) (n : ℕ) → n ≡ number_of_nodes k → 1 ≤ n
unfolding number_of_nodes
nodes_some k n e = rw e (one_or_more (is_two_nodes k))

-- a loop over elements, whose invariant is that the nodes that are counted, with those of the elements that are left, are all
module _ (es : List Element) (i total w : ℕ) (inv : total + nodes_of (drop i es) ≡ w) where
  pub nodes_next : (d : Element) (k : ℕ) → i < length es → k ≡ number_of_nodes (get_or es i d).kind → total + k + nodes_of (drop (i + 1) es) ≡ w
  unfolding nodes_of
  nodes_next d k h e =
      let turn : nodes_of (drop i es) ≡ number_of_nodes (get_or es i d).kind + nodes_of (drop (i + 1) es) = rw (drop_next es i d h) in
      omega (arith, turn, inv, e)

  pub nodes_end : length es ≤ i → total ≡ w
  unfolding nodes_of
  nodes_end h =
      let none : nodes_of (drop i es) ≡ 0 = rw (drop_of_length-le es h) in
      omega (arith, none, inv)
