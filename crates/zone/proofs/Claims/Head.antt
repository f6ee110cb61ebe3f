-- Heads: an accepted one lies within the bytes and depends on its own bytes only; its zone passes `zone_test`; its length is that of its elements.
-- Specification, Head.
use Rattle.std.proofs.Common.{ℕ, suc, zero, ◌+◌, ◌≤◌, ◌≡◌, refl, sym, subst, ◌∙◌, List, ◌++◌, arith, leb-true, leb, take, length, length-append, take_at, length-take-le}
use Rattle.solver.specs.Result.{ok, bind, require}
use Rattle.solver.proofs.Promise.{ok_inj, bind_ok, require_ok, and_true}
use Rattle.zone.specs.Record.Numbers.{structure}
use Rattle.zone.specs.Format.Layout.{count_in, first_element}
use Rattle.zone.specs.Format.ElementLayout.{size_at, sizes}
use Rattle.zone.specs.Format.Decode.{elements_at, zone_at}
use Rattle.zone.specs.Check.ZoneTest.{count_valid, values_test, counts_test, zone_test}
use Rattle.zone.specs.Format.Head.{ReadHead, elements_end, structure_of, head_of}
use Rattle.zone.specs.declared.record.zone_record.Zone.{Zone}
use Rattle.zone.proofs.Laws.Structure.{whole_of, structured}
use Rattle.zone.proofs.Laws.StructuredHead.{zone_elements, counts_good}
use Rattle.zone.proofs.Claims.HeadAlike.{head_alike}

-- an accepted head
pub record Accepted (bs : List ℕ) (h : ReadHead Zone) : Type 0 where
  pub structure : structure_of bs ≡ ok h.length
  pub values : values_test h.zone ≡ ok tt
  pub zone : h.zone ≡ zone_at bs

pub accepted : (bs : List ℕ) (h : ReadHead Zone) → head_of bs ≡ ok h → Accepted bs h
unfolding head_of
accepted bs h e =
    let a = bind_ok (structure_of bs) _ h e in
    let b = bind_ok (values_test (zone_at bs)) _ h a.2 in
    let p : record { zone = zone_at bs; length = a.0 } ≡ h = ok_inj b.2 in
    subst (Accepted bs) p (record { structure = a.1; values = b.1; zone = refl })

-- it lies within the bytes
pub head_within : (bs : List ℕ) (h : ReadHead Zone) → head_of bs ≡ ok h → h.length ≤ length bs
head_within bs h e = (structured bs h.length (accepted bs h e).structure).there

-- so an accepted head is read from its own bytes, whatever follows them
pub head_then : (bs cs : List ℕ) (h : ReadHead Zone) → head_of bs ≡ ok h → head_of (take h.length bs ++ cs) ≡ ok h
head_then bs cs h e =
    let n : ℕ = h.length in
    let len : length (take n bs) ≡ n = length-take-le n bs (head_within bs h e) in
    let ends = (structured bs n (accepted bs h e).structure).ends in
    sym (head_alike bs (take n bs ++ cs) n (sym (take_at (take n bs) cs n len)) (head_within bs h e) (simp length-append (omega arith)) ends) ∙ e

-- its zone passes the test of a zone given as a record
pub head_tested : (bs : List ℕ) (h : ReadHead Zone) → head_of bs ≡ ok h → zone_test h.zone ≡ ok tt
unfolding zone_test
head_tested bs h e =
    let c = accepted bs h e in
    let good : counts_test h.zone ≡ ok tt = rw c.zone (counts_good bs h.length (structured bs h.length c.structure)) in
    rw good c.values

-- once its structure is right, a head is judged as its zone given as a record is
pub head_as_record : (bs : List ℕ) (n : ℕ) → structure_of bs ≡ ok n
    → head_of bs ≡ bind (zone_test (zone_at bs)) (λ _. ok (record { zone = zone_at bs; length = n }))
unfolding head_of zone_test
head_as_record bs n e = rw (e, counts_good bs n (structured bs n e))

-- a zone that passes it has 1 to 24 elements
pub zone_count : (z : Zone) → zone_test z ≡ ok tt → (1 ≤ z.count) × (z.count ≤ 24)
unfolding zone_test counts_test
zone_count z e =
    let a = bind_ok (counts_test z) _ tt e in
    let b = bind_ok (require (count_valid z.count) structure) _ a.0 a.1 in
    let g = and_true (leb 1 z.count) (leb z.count 24) (require_ok (count_valid z.count) structure 0 b.0 b.1) in
    (leb-true 1 z.count g.0, leb-true z.count 24 g.1)

pub end_is : (bs : List ℕ) (end left i p q : ℕ) → elements_end bs end left i p ≡ ok q → q ≡ p + sizes (elements_at bs p left)
unfolding elements_end elements_at sizes
end_is bs end zero i p q e = let s : p ≡ q = cc in omega arith
end_is bs end (suc left) i p q e =
    let w = whole_of bs end left i p q e in
    let r = end_is bs end left (i + 1) (p + size_at bs p) q w.on in
    omega (arith, r)

-- its length: 4, and 53 and the elements'
pub head_length_lem : (bs : List ℕ) (h : ReadHead Zone) → head_of bs ≡ ok h → h.length ≡ 4 + (53 + sizes (take h.zone.count h.zone.building_elements))
head_length_lem bs h e =
    let n : ℕ = h.length in
    let c = accepted bs h e in
    let q = structured bs n c.structure in
    let r : n ≡ first_element + sizes (elements_at bs first_element (count_in bs)) = end_is bs n (count_in bs) 0 first_element n q.elements in
    rw (c.zone, zone_elements bs) (omega (arith, r))
