-- What is read: its values are those of the code's types, and the places that no bytes hold are as a reader leaves them.
use Rattle.std.proofs.Common.{ℕ, suc, zero, ◌+◌, ◌*◌, ◌-◌, ◌<◌, ◌≤◌, ◌≡◌, refl, sym, ap, ◌∙◌, Bool, true, false, cond, List, [], ◌∷◌, ◌++◌, map, arith, take, length, get_or, replicate, take_at, length-append, eqb, All, Float}
use lib.Ieee.{binary64}
use lib.Ieee.Bits.{of_bits-fits}
use lib.ListN.{length-replicate}
use Rattle.solver.specs.F64.{zero64}
use Rattle.solver.specs.Result.{ok}
use Rattle.zone.specs.Record.BuildingElement.{number_of_nodes}
use Rattle.zone.specs.Format.Bytes.{Bytes, num_at, float_at}
use Rattle.zone.specs.Format.Layout.{rate_code, first_rate, second_rate, count_in, zone_floats, first_element, element_floats, open_byte, element_hour_size, first_element_hour}
use Rattle.zone.specs.Format.ElementLayout.{h_count, max_treatments, kind_of, kind_at, treatments_at, size_at}
use Rattle.zone.specs.Format.Decode.{floats_at, array_at, element_hour_at, no_element_hour, element_at, elements_at, no_element, zone_at}
use Rattle.zone.specs.Format.Conditions.{element_hours_at, conditions_at, fixed_rate_valid, rate_code_valid, open_bits_valid, conditions_of}
use Rattle.zone.specs.Check.Ranges.{open_within}
use Rattle.zone.specs.Physics.Slots.{element, element_hour}
use Rattle.solver.proofs.Promise.{and_true}
use Rattle.zone.specs.Format.Head.{ReadHead, elements_end, head_of}
use Rattle.zone.specs.Claims.RoundTrip.{IsF64, IsArray, ElementHourFits, ElementFits, ZoneFits, RatesFit, ConditionsFit, code_taken, HourInRange, element_as_read, zone_as_read, conditions_as_read}
use Rattle.zone.specs.declared.record.building_element.Element.{Element}
use Rattle.zone.specs.declared.record.building_element.ElementHour.{ElementHour}
use Rattle.zone.specs.declared.record.zone_record.Zone.{Zone}
use Rattle.zone.specs.declared.format.conditions.Conditions.{Conditions}
use Rattle.zone.specs.declared.format.conditions.FixedRate.{FixedRate}
use Rattle.zone.specs.declared.format.conditions.FixedRate.TheVariants.{Retired, StillTaken}
use Rattle.zone.specs.declared.format.conditions.AirChangesPerHourArgument.TheVariants.{Cooling, TargetAndWindowsOpen}
use Rattle.zone.proofs.Laws.AreBytes.{none_bytes}
use Rattle.zone.proofs.Laws.Decoded.{floats_length}
use Rattle.zone.proofs.Laws.ElementLayout.{shaped, treatments_few}
use Rattle.zone.proofs.Laws.ReadBack.{Each, all_of_each, each_append, each_same}
use Rattle.zone.proofs.Laws.Structure.{whole_of, Structured, structured}
use Rattle.zone.proofs.Laws.StructuredHead.{length_elements, zone_elements}
use Rattle.zone.proofs.Claims.ConditionsBytes.{length_hours}
use Rattle.zone.proofs.Claims.Head as Heads
use Rattle.zone.proofs.Claims.Conditions as Hours

-- ---- the places that no bytes hold

array_read : (bs : List ℕ) (size at n : ℕ) → take n (array_at size bs at n) ++ replicate (size - n) zero64 ≡ array_at size bs at n
array_read bs size at n = ap (λ (l : List Float). l ++ replicate (size - n) zero64) (take_at (floats_at bs at n) (replicate (size - n) zero64) n (floats_length bs at n))

element_read : (bs : List ℕ) (p : ℕ) → element_as_read (element_at bs p) ≡ element_at bs p
element_read bs p i =
    let e = element_at bs p in
    let nodes = number_of_nodes (kind_at bs p) in
    record e {
      k_pli = array_read bs 5 (p + 58) nodes i;
      h_pli = array_read bs 4 (p + 58 + 8 * nodes) (h_count (kind_at bs p)) i;
      delta_r = array_read bs 4 (p + 58 + 8 * nodes + 8 * h_count (kind_at bs p)) (treatments_at bs p) i;
    }

elements_read : (bs : List ℕ) (p n : ℕ) → map element_as_read (elements_at bs p n) ≡ elements_at bs p n
unfolding elements_at
elements_read bs p zero = refl
elements_read bs p (suc n) = λ i. element_read bs p i ∷ elements_read bs (p + size_at bs p) n i

zone_read : (bs : List ℕ) → zone_as_read (zone_at bs) ≡ zone_at bs
unfolding zone_at
zone_read bs i = record (zone_at bs) { building_elements = (ap (map element_as_read) (zone_elements bs) ∙ elements_read bs first_element (count_in bs)) i ++ replicate (24 - count_in bs) no_element }

pub head_unused : (bs : List ℕ) (h : ReadHead Zone) → head_of bs ≡ ok h → zone_as_read h.zone ≡ h.zone
head_unused bs h e = let z = (Heads.accepted bs h e).zone in ap zone_as_read z ∙ zone_read bs ∙ sym z

conditions_read : (bs : List ℕ) (n : ℕ) → conditions_as_read n (conditions_at bs n) ≡ conditions_at bs n
unfolding conditions_at
conditions_read bs n i =
    record (conditions_at bs n) {
      elements = take_at (element_hours_at bs first_element_hour n) (replicate (24 - n) no_element_hour) n (length_hours bs first_element_hour n) i ++ replicate (24 - n) no_element_hour;
    }

pub conditions_unused : (fixed : FixedRate) (z : Zone) (bs : List ℕ) (c : Conditions) → conditions_of fixed z bs ≡ ok c → conditions_as_read z.count c ≡ c
conditions_unused fixed z bs c e = let d = (Hours.accepted fixed z bs c e).decoded in ap (conditions_as_read z.count) d ∙ conditions_read bs z.count ∙ sym d

-- ---- the values of the code's types

floats_fit : (bs : List ℕ) (at n : ℕ) → Each IsF64 (floats_at bs at n)
unfolding floats_at Each
floats_fit bs at zero = tt
floats_fit bs at (suc n) = (of_bits-fits binary64 _, floats_fit bs (at + 8) n)

array_fits : (bs : List ℕ) (size at n : ℕ) → n ≤ size → IsArray size (array_at size bs at n)
array_fits bs size at n h = (
  omega (arith, length-append (floats_at bs at n) (replicate (size - n) zero64), floats_length bs at n, length-replicate (size - n) zero64),
  all_of_each IsF64 (array_at size bs at n)
      (each_append IsF64 (floats_at bs at n) (replicate (size - n) zero64) (floats_fit bs at n) (each_same IsF64 (size - n) zero64 (of_bits-fits binary64 0))),
)

-- the floats that stand at these places
read_fits : (bs places : List ℕ) → All IsF64 (map (float_at bs) places)
read_fits bs [] k d h = absurd (omega arith)
read_fits bs (at ∷ places) zero d h = of_bits-fits binary64 (num_at bs at 8)
read_fits bs (at ∷ places) (suc k) d h = read_fits bs places k d (omega arith)

hour_fits : (bs : List ℕ) (at : ℕ) → Bytes bs → ElementHourFits (element_hour_at bs at)
hour_fits bs at b = record { floats = read_fits bs (at ∷ map (λ i. at + 8 * i) (1 ∷ 2 ∷ 3 ∷ 4 ∷ [])); open_byte = b (at + open_byte) }

element_fits : (bs : List ℕ) (p : ℕ) → Bytes bs → treatments_at bs p ≤ max_treatments (kind_at bs p) → ElementFits (element_at bs p)
element_fits bs p b t =
    let s = shaped (kind_at bs p) (treatments_at bs p) t in
    record {
      floats = read_fits bs (map (λ i. p + (element_floats + 8 * i)) (0 ∷ 1 ∷ 2 ∷ 3 ∷ 4 ∷ 5 ∷ 6 ∷ []));
      k_pli = array_fits bs 5 _ (number_of_nodes (kind_at bs p)) s.few_k;
      h_pli = array_fits bs 4 _ (h_count (kind_at bs p)) s.few_h;
      delta_r = array_fits bs 4 _ (treatments_at bs p) s.few_t;
      first_hour = hour_fits bs _ b;
    }

elements_fit : (bs : List ℕ) (end left i p q : ℕ) → Bytes bs → elements_end bs end left i p ≡ ok q → Each ElementFits (elements_at bs p left)
unfolding elements_at Each
elements_fit bs end zero i p q b e = tt
elements_fit bs end (suc left) i p q b e =
    let w = whole_of bs end left i p q e in
    (element_fits bs p b (treatments_few (get_or bs p 0) (treatments_at bs p) w.kind_valid_lem), elements_fit bs end left (i + 1) (p + size_at bs p) q b w.on)

no_element_fits : ElementFits no_element
unfolding no_element kind_of
no_element_fits = element_fits [] 0 none_bytes (omega arith)

zone_fits : (bs : List ℕ) (n : ℕ) → Bytes bs → Structured bs n → ZoneFits (zone_at bs)
unfolding zone_at
zone_fits bs n b q =
    let es = elements_at bs first_element (count_in bs) in
    let none = replicate (24 - count_in bs) no_element in
    record {
      floats = read_fits bs (map (λ i. zone_floats + 8 * i) (0 ∷ 1 ∷ 2 ∷ 3 ∷ 4 ∷ 5 ∷ []));
      places = omega (arith, length-append es none, length_elements bs first_element (count_in bs), length-replicate (24 - count_in bs) no_element, q.few);
      elements =
          all_of_each ElementFits (es ++ none)
          (each_append ElementFits es none (elements_fit bs n (count_in bs) 0 first_element n b q.elements) (each_same ElementFits (24 - count_in bs) no_element no_element_fits));
    }

pub head_fits : (bs : List ℕ) (h : ReadHead Zone) → Bytes bs → head_of bs ≡ ok h → ZoneFits h.zone
head_fits bs h b e =
    let a = Heads.accepted bs h e in
    rw a.zone (zone_fits bs h.length b (structured bs h.length a.structure))

hours_fit : (bs : List ℕ) (at n : ℕ) → Bytes bs → Each ElementHourFits (element_hours_at bs at n)
unfolding element_hours_at Each
hours_fit bs at zero b = tt
hours_fit bs at (suc n) b = (hour_fits bs at b, hours_fit bs (at + element_hour_size) n b)

no_hour_fits : ElementHourFits no_element_hour
unfolding no_element_hour
no_hour_fits = hour_fits [] 0 none_bytes

rates_fit : (bs : List ℕ) (code : Bool) → RatesFit (cond code (Cooling (float_at bs first_rate)) (TargetAndWindowsOpen (float_at bs first_rate) (float_at bs second_rate)))
rates_fit bs true = of_bits-fits binary64 (num_at bs first_rate 8)
rates_fit bs false = (of_bits-fits binary64 (num_at bs first_rate 8), of_bits-fits binary64 (num_at bs second_rate 8))

hour_at_fits : (bs : List ℕ) (n : ℕ) → Bytes bs → n ≤ 24 → ConditionsFit (conditions_at bs n)
unfolding conditions_at
hour_at_fits bs n b few =
    let hs = element_hours_at bs first_element_hour n in
    let none = replicate (24 - n) no_element_hour in
    record {
      floats = read_fits bs (map (λ i. 8 * i) (0 ∷ 1 ∷ 2 ∷ 3 ∷ 4 ∷ 5 ∷ 6 ∷ 7 ∷ 8 ∷ 9 ∷ 10 ∷ 11 ∷ []));
      rates = rates_fit bs (eqb (get_or bs rate_code 0) 0);
      places = omega (arith, length-append hs none, length_hours bs first_element_hour n, length-replicate (24 - n) no_element_hour, few);
      elements =
          all_of_each ElementHourFits (hs ++ none)
          (each_append ElementHourFits hs none (hours_fit bs first_element_hour n b) (each_same ElementHourFits (24 - n) no_element_hour no_hour_fits));
    }

-- ---- accepted conditions are in range

opens_read : (bs : List ℕ) (n : ℕ) (es : List Element) (at : ℕ) (behind : List ElementHour) → open_bits_valid bs (take n (map (λ (e : Element). e.treatments) es)) at ≡ true
    → (e : ℕ) → e < n → e < length es → open_within (element es e).treatments (element_hour (element_hours_at bs at n ++ behind) e).treatments_open ≡ true
unfolding open_bits_valid element_hours_at
opens_read bs zero es at behind o e h k = absurd (omega arith)
opens_read bs (suc n) [] at behind o e h k = absurd (omega arith)
opens_read bs (suc n) (x ∷ es) at behind o zero h k =
    (and_true (open_within x.treatments (get_or bs (at + open_byte) 0)) (open_bits_valid bs (take n (map (λ (e : Element). e.treatments) es)) (at + element_hour_size)) o).0
opens_read bs (suc n) (x ∷ es) at behind o (suc e) h k =
    let both = and_true (open_within x.treatments (get_or bs (at + open_byte) 0)) (open_bits_valid bs (take n (map (λ (e : Element). e.treatments) es)) (at + element_hour_size)) o in
    opens_read bs n es (at + element_hour_size) behind both.1 e (omega arith) (omega arith)

opens_at : (bs : List ℕ) (n : ℕ) (es : List Element) → open_bits_valid bs (take n (map (λ (e : Element). e.treatments) es)) first_element_hour ≡ true
    → (e : ℕ) → e < n → e < length es → open_within (element es e).treatments (element_hour (conditions_at bs n).elements e).treatments_open ≡ true
unfolding conditions_at
opens_at bs n es o = opens_read bs n es first_element_hour (replicate (24 - n) no_element_hour) o

code_by : (fixed : FixedRate) (bs : List ℕ) (code one : Bool) (x y w : Float) → cond code (fixed_rate_valid fixed bs) one ≡ true
    → code_taken fixed (cond code (Cooling x) (TargetAndWindowsOpen y w)) ≡ true
code_by StillTaken bs true one x y w e = refl
code_by Retired bs true one x y w e = e
code_by fixed bs false one x y w e = refl

code_at : (fixed : FixedRate) (bs : List ℕ) (n : ℕ) → rate_code_valid fixed bs ≡ true → code_taken fixed (conditions_at bs n).ach_args ≡ true
unfolding conditions_at
code_at fixed bs n e =
    code_by fixed bs (eqb (get_or bs rate_code 0) 0) (eqb (get_or bs rate_code 0) 1) (float_at bs first_rate) (float_at bs first_rate) (float_at bs second_rate) e

pub conditions_in_range : (fixed : FixedRate) (z : Zone) (bs : List ℕ) → ZoneFits z → (c : Conditions) → Bytes bs → conditions_of fixed z bs ≡ ok c → HourInRange fixed z c
conditions_in_range fixed z bs f c b e =
    let a = Hours.accepted fixed z bs c e in
    let n = z.count in
    let ts = map (λ (x : Element). x.treatments) z.building_elements in
    let both = and_true (rate_code_valid fixed bs) (open_bits_valid bs (take n ts) first_element_hour) a.code in
    let opens = opens_at bs n z.building_elements both.1 in
    record {
      fit = rw a.decoded (hour_at_fits bs n b a.few);
      code = rw a.decoded (code_at fixed bs n both.0);
      opens = λ x h. rw a.decoded (opens x h (omega (arith, f.places, a.few)));
      values = a.values;
    }
