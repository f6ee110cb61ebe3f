-- Conditions: accepted ones have the size that the count of elements gives.
-- Specification, Conditions.
use Rattle.std.proofs.Common.{ℕ, ◌≤◌, ◌≡◌, sym, true, ◌&&◌, List, map, leb-true, eqb-true, leb, eqb, length, take}
use Rattle.solver.specs.Result.{ok, require}
use Rattle.solver.proofs.Promise.{bind_ok, require_ok, ok_inj, and_true}
use Rattle.zone.specs.Format.Conditions.{conditions_at, conditions_test, rate_code_valid, open_bits_valid, conditions_of}
use Rattle.zone.specs.Format.Layout.{conditions_length, first_element_hour}
use Rattle.zone.specs.Record.Numbers.{conditions_size, conditions_code}
use Rattle.zone.specs.declared.record.zone_record.Zone.{Zone}
use Rattle.zone.specs.declared.format.conditions.Conditions.{Conditions}
use Rattle.zone.specs.declared.format.conditions.FixedRate.{FixedRate}

-- accepted conditions
pub record Accepted (fixed : FixedRate) (n : ℕ) (ts bs : List ℕ) (c : Conditions) : Type 0 where
  pub few : n ≤ 24
  pub size : length bs ≡ conditions_length n
  pub code : (rate_code_valid fixed bs && open_bits_valid bs (take n ts) first_element_hour) ≡ true
  pub values : conditions_test n c ≡ ok tt
  pub decoded : c ≡ conditions_at bs n

pub accepted : (fixed : FixedRate) (z : Zone) (bs : List ℕ) (c : Conditions) → conditions_of fixed z bs ≡ ok c → Accepted fixed z.count (map (λ e. e.treatments) z.building_elements) bs c
unfolding conditions_of
accepted fixed z bs c e =
    let n = z.count in
    let ts = map (λ e. e.treatments) z.building_elements in
    let x = bind_ok (require (leb n 24 && eqb (length bs) (conditions_length n)) conditions_size) _ c e in
    let y = and_true (leb n 24) (eqb (length bs) (conditions_length n)) (require_ok (leb n 24 && eqb (length bs) (conditions_length n)) conditions_size 0 x.0 x.1) in
    let v = bind_ok (require (rate_code_valid fixed bs && open_bits_valid bs (take n ts) first_element_hour) conditions_code) _ c x.2 in
    let w = bind_ok (conditions_test n (conditions_at bs n)) _ c v.2 in
    let d = sym (ok_inj w.2) in
    record {
      few = leb-true n 24 y.0;
      size = eqb-true (length bs) (conditions_length n) y.1;
      code = require_ok (rate_code_valid fixed bs && open_bits_valid bs (take n ts) first_element_hour) conditions_code 0 v.0 v.1;
      values = rw d w.1;
      decoded = d;
    }

pub conditions_length_lem : (fixed : FixedRate) (z : Zone) (bs : List ℕ) (c : Conditions) → conditions_of fixed z bs ≡ ok c → length bs ≡ conditions_length z.count
conditions_length_lem fixed z bs c e = (accepted fixed z bs c e).size
