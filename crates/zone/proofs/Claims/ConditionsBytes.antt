-- Accepted conditions determine their bytes.
-- Specification, Conditions.
use Rattle.std.proofs.Common.{ℕ, suc, zero, ◌+◌, ◌*◌, ◌-◌, ◌≤◌, ◌≡◌, refl, sym, ap, ◌∙◌, Bool, true, false, cond, ◌&&◌, true≢false, List, [], ◌∷◌, ◌++◌, map, arith, eqb-true, eqb, length, take, get_or, replicate, take_all, take_at, Float}
use Rattle.solver.specs.Result.{ok, require_at}
use Rattle.solver.proofs.Promise.{bind_ok, require_ok, and_true}
use Rattle.zone.specs.Record.Numbers.{conditions_value}
use Rattle.zone.specs.Format.Layout.{open_byte, element_hour_size, rate_code, first_rate, second_rate, first_element_hour, conditions_length}
use Rattle.zone.specs.Format.Bytes.{Bytes, num_at, float_at, float_size}
use Rattle.zone.specs.Format.Decode.{floats_at, element_hour_at, no_element_hour}
use Rattle.zone.specs.Check.Ranges.{hour_length_range, temperature_range, gains_range, fraction_range}
use Rattle.zone.specs.Check.Ranges.{heating_setpoint_range, setpoint_range, rate_range, irradiance_range}
use Rattle.zone.specs.Check.ZoneTest.{element_hour_in_range, all_required}
use Rattle.zone.specs.Format.Conditions.{ach_args_at, element_hours_at, conditions_at, rate_code_valid, open_bits_valid}
use Rattle.zone.specs.Format.Conditions.{hour_and_gains_in_range, setpoints_in_range, ach_args_in_range, conditions_test, conditions_of}
use Rattle.zone.specs.Format.Encode.{row_bytes}
use Rattle.zone.specs.Claims.Encode.{element_hour_bytes, element_hours_bytes, ach_args_bytes, conditions_bytes}
use Rattle.zone.specs.declared.record.zone_record.Zone.{Zone}
use Rattle.zone.specs.declared.format.conditions.Conditions.{Conditions}
use Rattle.zone.specs.declared.format.conditions.AirChangesPerHourArgument.TheVariants.{Cooling, TargetAndWindowsOpen}
use Rattle.zone.specs.declared.format.conditions.FixedRate.{FixedRate}
use Rattle.zone.specs.declared.format.conditions.FixedRate.TheVariants.{Retired, StillTaken}
use Rattle.zone.proofs.Laws.RoundTrip.{Numbers, part, part_add, part_one, number_part, float_part, row_part}
use Rattle.zone.proofs.Laws.Numbers.{hour_length_number, temperature_number, gains_number, fraction_number}
use Rattle.zone.proofs.Laws.Numbers.{heating_setpoint_number, setpoint_number, rate_number, irradiance_number}
use Rattle.zone.proofs.Claims.Conditions.{accepted}

-- float i of conditions, and of the element part at `at`
abbrev conditions_float : List ℕ → (i : ℕ) → Float
conditions_float s i = float_at s (8 * i)

abbrev hour_float : List ℕ → (at i : ℕ) → Float
hour_float s at i = float_at s (at + 8 * i)

-- 113 + 41n bytes
pub conditions_length_lem : (n : ℕ) → conditions_length n ≡ 113 + 41 * n
conditions_length_lem n = refl

-- five tests in a row
five : (a b c d e : Bool) → (a && b && c && d && e) ≡ true → (a ≡ true) × (b ≡ true) × (c ≡ true) × (d ≡ true) × (e ≡ true)
five a b c d e h =
    let h5 = and_true (a && b && c && d) e h in
    let h4 = and_true (a && b && c) d h5.0 in
    let h3 = and_true (a && b) c h4.0 in
    let h2 = and_true a b h3.0 in
    (h2.0, h2.1, h3.1, h4.1, h5.1)

pub six : (a b c d e f : Bool) → (a && b && c && d && e && f) ≡ true → (a ≡ true) × (b ≡ true) × (c ≡ true) × (d ≡ true) × (e ≡ true) × (f ≡ true)
six a b c d e f h =
    let h6 = and_true (a && b && c && d && e) f h in
    let r = five a b c d e h6.0 in
    (r.0, r.1, r.2, r.3, r.4, h6.1)

hour_floats : (s : List ℕ) (at : ℕ) → floats_at s at 5 ≡ float_at s at ∷ hour_float s at 1 ∷ hour_float s at 2 ∷ hour_float s at 3 ∷ hour_float s at 4 ∷ []
unfolding floats_at
hour_floats s at =
    let next : (i : ℕ) → at + 8 * i + 8 ≡ at + 8 * (i + 1) = λ i. omega arith in
    rw (next 1, next 2, next 3)

hour_numbers : (s : List ℕ) (at : ℕ) → element_hour_in_range (element_hour_at s at) ≡ true → Numbers (floats_at s at 5)
unfolding element_hour_in_range Numbers
hour_numbers s at e =
    let r =
    five (temperature_range (float_at s at)) (irradiance_range (hour_float s at 1)) (irradiance_range (hour_float s at 2))
    (fraction_range (hour_float s at 3)) (fraction_range (hour_float s at 4)) e in
    rw (hour_floats s at) (
      temperature_number (float_at s at) r.0,
      (
        irradiance_number (hour_float s at 1) r.1,
        (
          irradiance_number (hour_float s at 2) r.2,
          (fraction_number (hour_float s at 3) r.3, (fraction_number (hour_float s at 4) r.4, tt)),
        ),
      ),
    )

module _ (s : List ℕ) (b : Bytes s) where
  pub hour_part : (at : ℕ) → at + element_hour_size ≤ length s → element_hour_in_range (element_hour_at s at) ≡ true
      → element_hour_bytes (element_hour_at s at) ≡ part s at element_hour_size
  hour_part at h e =
      rw (part_add s at open_byte 1, ← row_part s b at 5 (omega arith) (hour_numbers s at e), hour_floats s at, part_one s (at + open_byte) (omega arith))

  hours_part : (n at i : ℕ) → at + element_hour_size * n ≤ length s
      → all_required element_hour_in_range conditions_value (element_hours_at s at n) i ≡ ok tt
      → element_hours_bytes (element_hours_at s at n) ≡ part s at (element_hour_size * n)
  unfolding element_hours_at all_required element_hours_bytes
  hours_part zero at i h e = refl
  hours_part (suc n) at i h e =
      let q : element_hour_size * suc n ≡ element_hour_size + element_hour_size * n = omega arith in
      let x = bind_ok (require_at (element_hour_in_range (element_hour_at s at)) conditions_value i) _ tt e in
      let good = require_ok (element_hour_in_range (element_hour_at s at)) conditions_value i x.0 x.1 in
      rw (q, part_add s at element_hour_size (element_hour_size * n), ← hour_part at (omega arith) good, ← hours_part n (at + element_hour_size) (i + 1) (omega arith) x.2)

  rates_by : (c : Bool) → eqb (get_or s rate_code 0) 0 ≡ c → first_element_hour ≤ length s
      → cond c (eqb (num_at s second_rate 8) 0) (eqb (get_or s rate_code 0) 1) ≡ true
      → ach_args_in_range (cond c (Cooling (float_at s first_rate)) (TargetAndWindowsOpen (float_at s first_rate) (float_at s second_rate))) ≡ true
      → ach_args_bytes (cond c (Cooling (float_at s first_rate)) (TargetAndWindowsOpen (float_at s first_rate) (float_at s second_rate)))
      ≡ get_or s rate_code 0 ∷ (part s first_rate 8 ++ part s second_rate 8)
  rates_by true c h g e =
      rw (
        eqb-true (get_or s rate_code 0) 0 c,
        float_part s b first_rate (omega arith) (rate_number (float_at s first_rate) e),
        ← number_part s b second_rate 8 (omega arith),
        eqb-true (num_at s second_rate 8) 0 g,
      )
  rates_by false c h g e =
      let r = and_true (rate_range (float_at s first_rate)) (rate_range (float_at s second_rate)) e in
      rw (
        eqb-true (get_or s rate_code 0) 1 g,
        float_part s b first_rate (omega arith) (rate_number (float_at s first_rate) r.0),
        float_part s b second_rate (omega arith) (rate_number (float_at s second_rate) r.1),
      )

  rates_part : first_element_hour ≤ length s → rate_code_valid StillTaken s ≡ true → ach_args_in_range (ach_args_at s rate_code) ≡ true
      → ach_args_bytes (ach_args_at s rate_code) ≡ part s rate_code (1 + 8 * 2)
  rates_part h g e =
      rates_by (eqb (get_or s rate_code 0) 0) refl h g e
      ∙ sym (part_add s rate_code 1 (8 * 2) ∙ rw (part_one s rate_code (omega arith), part_add s first_rate 8 8))

pub length_hours : (bs : List ℕ) (p n : ℕ) → length (element_hours_at bs p n) ≡ n
unfolding element_hours_at
length_hours bs p zero = refl
length_hours bs p (suc n) = ap suc (length_hours bs (p + element_hour_size) n)

front_numbers : (s : List ℕ) (n : ℕ) → hour_and_gains_in_range (conditions_at s n) ≡ true → setpoints_in_range (conditions_at s n) ≡ true
    → Numbers (floats_at s 0 12)
unfolding conditions_at hour_and_gains_in_range setpoints_in_range Numbers floats_at
front_numbers s n e f =
    let x = conditions_float s in
    let r =
    six (hour_length_range (x 0)) (temperature_range (x 1)) (gains_range (x 2)) (gains_range (x 3)) (fraction_range (x 4)) (fraction_range (x 5)) e in
    let q =
    six (heating_setpoint_range (x 6)) (setpoint_range (x 7)) (setpoint_range (x 8)) (temperature_range (x 9))
    (gains_range (x 10)) (gains_range (x 11)) f in (
      hour_length_number (x 0) r.0,
      (
        temperature_number (x 1) r.1,
        (
          gains_number (x 2) r.2,
          (
            gains_number (x 3) r.3,
            (
              fraction_number (x 4) r.4,
              (
                fraction_number (x 5) r.5,
                (
                  heating_setpoint_number (x 6) q.0,
                  (
                    setpoint_number (x 7) q.1,
                    (
                      setpoint_number (x 8) q.2,
                      (
                        temperature_number (x 9) q.3,
                        (
                          gains_number (x 10) q.4,
                          (
                            gains_number (x 11) q.5,
                            tt,
                          ),
                        ),
                      ),
                    ),
                  ),
                ),
              ),
            ),
          ),
        ),
      ),
    )

row : (s : List ℕ) (n : ℕ) (b : Bytes s) → hour_and_gains_in_range (conditions_at s n) ≡ true → setpoints_in_range (conditions_at s n) ≡ true
    → rate_code ≤ length s
    → row_bytes (conditions_float s 0 ∷ conditions_float s 1 ∷ conditions_float s 2 ∷ conditions_float s 3 ∷ conditions_float s 4 ∷ conditions_float s 5
    ∷ conditions_float s 6 ∷ conditions_float s 7 ∷ conditions_float s 8 ∷ conditions_float s 9 ∷ conditions_float s 10 ∷ conditions_float s 11 ∷ [])
    ≡ part s 0 rate_code
unfolding floats_at
row s n b i p h = row_part s b 0 12 (omega arith) (front_numbers s n i p)

whole : (s : List ℕ) (n : ℕ) → Bytes s → length s ≡ conditions_length n → rate_code_valid StillTaken s ≡ true
    → hour_and_gains_in_range (conditions_at s n) ≡ true → setpoints_in_range (conditions_at s n) ≡ true → ach_args_in_range (conditions_at s n).ach_args ≡ true
    → all_required element_hour_in_range conditions_value (take n (conditions_at s n).elements) 1 ≡ ok tt
    → conditions_bytes n (conditions_at s n) ≡ s
unfolding conditions_bytes conditions_at
whole s n b h g i p r e =
    let front : take n (element_hours_at s first_element_hour n ++ replicate (24 - n) no_element_hour) ≡ element_hours_at s first_element_hour n =
    take_at (element_hours_at s first_element_hour n) (replicate (24 - n) no_element_hour) n (length_hours s first_element_hour n) in
    rw (front, rates_part s b (omega arith) g r, hours_part s b n first_element_hour 1 (omega arith) (rw front at e))
    (ap (λ (l : List ℕ). l ++ (part s rate_code (1 + 8 * 2) ++ part s first_element_hour (element_hour_size * n))) (row s n b i p (omega arith))
    ∙ sym (ap (λ (l : List ℕ). part s 0 rate_code ++ l) (part_add s rate_code (1 + 8 * 2) (element_hour_size * n)))
    ∙ sym (part_add s 0 rate_code (1 + 8 * 2 + element_hour_size * n))
    ∙ take_all (rate_code + (1 + 8 * 2 + element_hour_size * n)) s (omega arith))

bytes_of : (s : List ℕ) (n : ℕ) → Bytes s → length s ≡ conditions_length n → rate_code_valid StillTaken s ≡ true → conditions_test n (conditions_at s n) ≡ ok tt
    → conditions_bytes n (conditions_at s n) ≡ s
unfolding conditions_test
bytes_of s n b h g e =
    let c = conditions_at s n in
    let x = bind_ok (require_at (hour_and_gains_in_range c && setpoints_in_range c && ach_args_in_range c.ach_args) conditions_value 0) _ tt e in
    let t = require_ok (hour_and_gains_in_range c && setpoints_in_range c && ach_args_in_range c.ach_args) conditions_value 0 x.0 x.1 in
    let t3 = and_true (hour_and_gains_in_range c && setpoints_in_range c) (ach_args_in_range c.ach_args) t in
    let t2 = and_true (hour_and_gains_in_range c) (setpoints_in_range c) t3.0 in
    whole s n b h g t2.0 t2.1 t3.1 x.2

-- a code that is good for a call is good for an hour that is judged
still_taken : (fixed : FixedRate) (bs : List ℕ) → rate_code_valid fixed bs ≡ true → rate_code_valid StillTaken bs ≡ true
still_taken StillTaken bs h = h
still_taken Retired bs h = go (eqb (get_or bs rate_code 0) 0) h
  where
    go : (b : Bool) → cond b false (eqb (get_or bs rate_code 0) 1) ≡ true → cond b (eqb (num_at bs second_rate float_size) 0) (eqb (get_or bs rate_code 0) 1) ≡ true
    go true h = absurd (true≢false (sym h))
    go false h = h

-- accepted conditions are the bytes of what they decode to
pub conditions_bytes_lem : (fixed : FixedRate) (z : Zone) (bs : List ℕ) (c : Conditions) → Bytes bs → conditions_of fixed z bs ≡ ok c → bs ≡ conditions_bytes z.count c
conditions_bytes_lem fixed z bs c b e =
    let a = accepted fixed z bs c e in
    let ts = map (λ e. e.treatments) z.building_elements in
    let v : conditions_test z.count (conditions_at bs z.count) ≡ ok tt = rw (← a.decoded) a.values in
    sym (ap (conditions_bytes z.count) a.decoded ∙ bytes_of bs z.count b a.size (still_taken fixed bs (and_true (rate_code_valid fixed bs) (open_bits_valid bs (take z.count ts) first_element_hour) a.code).0) v)

-- so no two byte strings that a zone accepts decode to the same conditions
pub conditions_injective : (fixed : FixedRate) (z : Zone) (a b : List ℕ) (c : Conditions) → Bytes a → Bytes b → conditions_of fixed z a ≡ ok c → conditions_of fixed z b ≡ ok c → a ≡ b
conditions_injective fixed z a b c ba bb ea eb = conditions_bytes_lem fixed z a c ba ea ∙ sym (conditions_bytes_lem fixed z b c bb eb)
