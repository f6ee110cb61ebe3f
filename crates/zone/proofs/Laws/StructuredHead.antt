-- A head whose structure is right, before any value is judged: what it says, and that its zone then passes or fails as the head does.
use Rattle.std.proofs.Common.{ℕ, suc, zero, ◌+◌, ◌-◌, ◌≤◌, ◌≡◌, refl, sym, ap, subst, ◌∙◌, List, le-leb, Float, take, length, get_or, replicate, take_at}
use Rattle.solver.specs.Result.{Result, ok, refused, bind}
use Rattle.solver.proofs.Promise.{ok_inj, bind_ok}
use Rattle.zone.specs.Record.Numbers.{structure}
use Rattle.zone.specs.Format.Layout.{count_in, first_element}
use Rattle.zone.specs.Format.ElementLayout.{max_treatments, kind_of, size_at}
use Rattle.zone.specs.Format.Decode.{elements_at, zone_at, no_element}
use Rattle.zone.specs.Check.ZoneTest.{element_treatments_valid, all_required, values_test, counts_test, zone_test}
use Rattle.zone.specs.Format.Head.{ReadHead, elements_end, structure_of, head_of}
use Rattle.zone.specs.Inner.Head.{structured_head}
use Rattle.zone.specs.declared.record.building_element.Coefficients.{Coefficients}
use Rattle.zone.specs.declared.record.zone_record.Zone.{Zone}
use Rattle.zone.specs.declared.format.conditions.FixedRate.{FixedRate}
use Rattle.zone.specs.declared.format.limits.Limits.{Limits}
use Rattle.zone.specs.declared.calls.state.State.{State}
use Rattle.zone.specs.Calls.State.{zone_and_state_test, operative}
use Rattle.zone.specs.Calls.Hour.{tested, tested_step, demand, hour_step, update_temperatures}
use Rattle.zone.specs.Calls.Why.{why}
use Rattle.zone.specs.Calls.StartUp.{init_node_temps}
use Rattle.zone.proofs.Laws.ElementLayout.{treatments_few}
use Rattle.zone.proofs.Laws.Structure.{whole_of, Structured, structured}

-- the elements of the zone are those that the bytes hold
pub length_elements : (bs : List ℕ) (p n : ℕ) → length (elements_at bs p n) ≡ n
unfolding elements_at
length_elements bs p zero = refl
length_elements bs p (suc n) = ap suc (length_elements bs (p + size_at bs p) n)

pub zone_elements : (bs : List ℕ) → take (zone_at bs).count (zone_at bs).building_elements ≡ elements_at bs first_element (count_in bs)
unfolding zone_at
zone_elements bs = take_at (elements_at bs first_element (count_in bs)) (replicate (24 - count_in bs) no_element) (count_in bs) (length_elements bs first_element (count_in bs))

treatments_good : (bs : List ℕ) (end left i p q j : ℕ) → elements_end bs end left i p ≡ ok q → all_required element_treatments_valid structure (elements_at bs p left) j ≡ ok tt
unfolding elements_at all_required
treatments_good bs end zero i p q j e = refl
treatments_good bs end (suc left) i p q j e =
    let w = whole_of bs end left i p q e in
    rw (le-leb (get_or bs (p + 1) 0) (max_treatments (kind_of (get_or bs p 0))) (treatments_few (get_or bs p 0) (get_or bs (p + 1) 0) w.kind_valid_lem))
    (treatments_good bs end left (i + 1) (p + size_at bs p) q (j + 1) w.on)

-- count and treatments are right
pub counts_good : (bs : List ℕ) (n : ℕ) → Structured bs n → counts_test (zone_at bs) ≡ ok tt
unfolding counts_test zone_at
counts_good bs n q =
    rw (le-leb 1 (count_in bs) q.some, le-leb (count_in bs) 24 q.few, zone_elements bs) (treatments_good bs n (count_in bs) 0 first_element n 1 q.elements)

-- what such a head says
pub record IsStructured (bs : List ℕ) (h : ReadHead Zone) : Type 0 where
  pub structure : structure_of bs ≡ ok h.length
  pub zone : h.zone ≡ zone_at bs

is_structured : (bs : List ℕ) (h : ReadHead Zone) → structured_head bs ≡ ok h → IsStructured bs h
unfolding structured_head
is_structured bs h e =
    let a = bind_ok (structure_of bs) _ h e in
    subst (IsStructured bs) (ok_inj a.2) (record { structure = a.1; zone = refl })

pub structured_within : (bs : List ℕ) (h : ReadHead Zone) → structured_head bs ≡ ok h → h.length ≤ length bs
structured_within bs h e = (structured bs h.length (is_structured bs h e).structure).there

pub structured_counts : (bs : List ℕ) (h : ReadHead Zone) → structured_head bs ≡ ok h → counts_test h.zone ≡ ok tt
structured_counts bs h e =
    let q = is_structured bs h e in
    rw q.zone (counts_good bs h.length (structured bs h.length q.structure))

zone_few : (bs : List ℕ) (n : ℕ) → Structured bs n → (zone_at bs).count ≤ 24
unfolding zone_at
zone_few bs n q = q.few

pub structured_few : (bs : List ℕ) (h : ReadHead Zone) → structured_head bs ≡ ok h → h.zone.count ≤ 24
structured_few bs h e =
    let q = is_structured bs h e in
    rw q.zone (zone_few bs h.length (structured bs h.length q.structure))

-- a head by its structure
pub structured_wrong : (bs : List ℕ) (a b : ℕ) → structure_of bs ≡ refused a b → structured_head bs ≡ refused a b
unfolding structured_head
structured_wrong bs a b e = rw e

pub structured_right : (bs : List ℕ) (n : ℕ) → structure_of bs ≡ ok n → structured_head bs ≡ ok (record { zone = zone_at bs; length = n })
unfolding structured_head
structured_right bs n e = rw e

-- to read a head is to read its structure, and then to test its zone
module _ {A : Type 0} (k : ReadHead Zone → Result A) where
  by_values : (h : ReadHead Zone) (v : Result (Unit {0})) → bind (bind v (λ _. ok h)) k ≡ bind v (λ _. k h)
  by_values h (ok _) = refl
  by_values h (refused a b) = refl

  by_structure : (bs : List ℕ) (r : Result ℕ) → structure_of bs ≡ r → bind (head_of bs) k ≡ bind (structured_head bs) (λ h. bind (zone_test h.zone) (λ _. k h))
  unfolding head_of structured_head zone_test
  by_structure bs (refused a b) e = rw e
  by_structure bs (ok n) e = rw (e, counts_good bs n (structured bs n e)) (by_values (record { zone = zone_at bs; length = n }) (values_test (zone_at bs)))

  pub head_then_test : (bs : List ℕ) → bind (head_of bs) k ≡ bind (structured_head bs) (λ h. bind (zone_test h.zone) (λ _. k h))
  head_then_test bs = by_structure bs (structure_of bs) refl

  -- so what refuses each zone that the test refuses needs no more than the structure
  module _ (judges : (h : ReadHead Zone) (a b : ℕ) → zone_test h.zone ≡ refused a b → k h ≡ refused a b) where
    one : (h : ReadHead Zone) (r : Result (Unit {0})) → zone_test h.zone ≡ r → bind r (λ _. k h) ≡ k h
    one h (ok _) e = refl
    one h (refused a b) e = sym (judges h a b e)

    pub head_judged : (bs : List ℕ) → bind (head_of bs) k ≡ bind (structured_head bs) k
    head_judged bs = head_then_test bs ∙ (λ i. bind (structured_head bs) (λ h. one h (zone_test h.zone) refl i))

-- a head by its structure and the test of its zone
bind_same : {A : Type 0} (r : Result A) → bind r ok ≡ r
bind_same (ok a) = refl
bind_same (refused a b) = refl

pub head_as_tested : (bs : List ℕ) → head_of bs ≡ bind (structured_head bs) (λ h. bind (zone_test h.zone) (λ _. ok h))
head_as_tested bs = sym (bind_same (head_of bs)) ∙ head_then_test ok bs

module _ (bs : List ℕ) (h : ReadHead Zone) (e : structured_head bs ≡ ok h) where
  pub head_fails : (a b : ℕ) → zone_test h.zone ≡ refused a b → head_of bs ≡ refused a b
  head_fails a b f = head_as_tested bs ∙ rw (e, f)

  pub head_passes : zone_test h.zone ≡ ok tt → head_of bs ≡ ok h
  head_passes f = head_as_tested bs ∙ rw (e, f)

-- each call refuses each zone that the test refuses
module _ (z : Zone) (a b : ℕ) (e : zone_test z ≡ refused a b) where
  pub operative_judges : (s : State) → operative z s ≡ refused a b
  unfolding operative zone_and_state_test
  operative_judges s = rw e

  module _ (c : Coefficients) where
    pub start_up_judges : init_node_temps c z ≡ refused a b
    unfolding init_node_temps
    start_up_judges = rw e

    module _ (s : State) (bytes : List ℕ) where
      pub demand_judges : (fixed : FixedRate) → demand fixed c z s bytes ≡ refused a b
      unfolding demand tested
      demand_judges fixed = rw e

      pub why_judges : why c z s bytes ≡ refused a b
      unfolding why tested
      why_judges = rw e

      pub hour_judges : (fixed : FixedRate) (version : ℕ) (l : Limits) → hour_step fixed c z version l s bytes ≡ refused a b
      unfolding hour_step tested_step
      hour_judges fixed version l = rw e

      pub update_judges : (gains fraction ach : Float) → update_temperatures c z s bytes gains fraction ach ≡ refused a b
      unfolding update_temperatures tested
      update_judges gains fraction ach = rw e
