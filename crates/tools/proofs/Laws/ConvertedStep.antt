-- A converted hour is the same hour: its entry differs in the code byte and the second rate only, the state after it is the same, and an append takes it.
use Rattle.std.proofs.Common.{ℕ, ◌≤◌, ◌≡◌, refl, sym, ap, subst, ◌∙◌, Bool, true, false, cond, List, ◌++◌, arith, eqb, length, take, drop, get_or, length-append, take_at, drop_at, length-take-le}
use lib.Seq.{get_or-append_seam}
use Rattle.zone.specs.Promise.{ok}
use Rattle.zone.proofs.Promise.{fixed_append, twice_append}
use Rattle.zone.proofs.Claims.FixedRate.{retired_claims}
use Rattle.zone.specs.Format.Layout.{rate_code, first_element_hour}
use Rattle.zone.specs.Format.FixedRate.{is_fixed, rate_bytes, rate_twice}
use Rattle.zone.specs.Record.BuildingElement.{standard_coefficients}
use Rattle.zone.specs.Calls.Hour.{hour_step}
use Rattle.zone.specs.declared.record.zone_record.Zone.{Zone}
use Rattle.zone.specs.declared.calls.state.State.{State}
use Rattle.zone.specs.declared.calls.state.Demand.{Demand}
use Rattle.zone.specs.declared.format.conditions.FixedRate.TheVariants.{Retired, StillTaken}
use Rattle.book.specs.Layout.{front_size}
use Rattle.book.specs.Entry.{front_bytes, demand_bytes, temperature_bytes, entry_of}
use Rattle.book.specs.Model.Interface.{Written}
use Rattle.book.specs.Year.{Item, hour, body_conditions, body_limits, Carried, carried, hour_entry}
use Rattle.book.proofs.Laws.Entry.{length_front}
use Rattle.book.proofs.Laws.Interface.{HourEntered, step_hour, step_length, year_laws}
use Rattle.book.proofs.Laws.Twice.{conditions, behind, parts, long, stepped_twice}
use Rattle.tools.specs.Convert.{converted_body, converted_item, has_fixed_rate}
use Rattle.tools.specs.Inner.Convert.{converted_entry, least_entry}

module _ (z : Zone) (k : ℕ) (s : Carried) (version : ℕ) (body : List ℕ) (e : Written Carried) (p : hour_entry StillTaken z k s (hour version body) ≡ ok e) where
  abbrev made : HourEntered StillTaken z s version body e
  made = step_hour StillTaken z k s version body e p

  -- the conditions, and the limits' bytes behind them
  abbrev front : List ℕ
  front = conditions z k s version body e p

  abbrev rest : List ℕ
  rest = behind z k s version body e p

  conditions_fixed : (b : Bool) → is_fixed body ≡ b → is_fixed front ≡ b
  conditions_fixed b h = sym (fixed_append front rest (long z k s version body e p)) ∙ ap is_fixed (sym (parts z k s version body e p)) ∙ h

  -- the hour step of a call, which refuses a fixed rate, takes the converted hour
  stepped_anew : (b : Bool) → is_fixed body ≡ b
      → hour_step Retired standard_coefficients z version (body_limits version (cond b (rate_twice body) body)) s.state (body_conditions version (cond b (rate_twice body) body)) ≡ ok made.result
  stepped_anew true h = stepped_twice z k s version body e p (conditions_fixed true h)
  stepped_anew false h =
      ((retired_claims z front).other_hours standard_coefficients s.state (conditions_fixed false h)).hour_steps version (body_limits version body)
      ∙ made.stepped

  entry_anew : hour_entry Retired z k s (hour version (converted_body body))
      ≡ ok (record { bytes = entry_of z version (converted_body body) made.result.demand made.result.state; after = carried made.result.state version })
  unfolding hour_entry
  entry_anew = rw (made.follows, stepped_anew (is_fixed body) refl) refl

  body_long : first_element_hour ≤ length body
  body_long = omega (arith, long z k s version body e p, length-append front rest, ap length (parts z k s version body e p))

-- ---- the bytes

module _ (body behind : List ℕ) (long : first_element_hour ≤ length body) where
  body_converted : converted_body (body ++ behind) ≡ converted_body body ++ behind
  body_converted = go (is_fixed body) refl
    where
      go : (b : Bool) → is_fixed body ≡ b → converted_body (body ++ behind) ≡ converted_body body ++ behind
      go true t = rw (fixed_append body behind long, t) (twice_append body behind long)
      go false t = rw (fixed_append body behind long, t) refl

module _ (z : Zone) (version : ℕ) (body : List ℕ) (d : Demand) (s : State) (long : first_element_hour ≤ length body) where
  entry_converted : converted_entry (entry_of z version body d s) ≡ entry_of z version (converted_body body) d s
  unfolding entry_of
  entry_converted =
      let front = front_bytes z version in
      let behind = demand_bytes d ++ temperature_bytes z s in
      (λ t. take_at front (body ++ behind) front_size (length_front z version) t ++ converted_body (drop_at front (body ++ behind) front_size (length_front z version) t))
      ∙ ap (λ l. front ++ l) (body_converted body behind long)

-- ---- an item

-- its entry has all that stands before its elements' parts
pub entry_long : (z : Zone) (k : ℕ) (s : Carried) (i : Item) (e : Written Carried) → hour_entry StillTaken z k s i ≡ ok e → least_entry ≤ length e.bytes
entry_long z k s (hour version body) e p = let l = step_length StillTaken z k s version body e p in omega (arith, l)

-- an append takes the converted hour, and writes its entry as converted
pub step_anew : (z : Zone) (k : ℕ) (s : Carried) (i : Item) (e : Written Carried) → hour_entry StillTaken z k s i ≡ ok e
    → hour_entry Retired z k s (converted_item i) ≡ ok (record { bytes = converted_entry e.bytes; after = e.after })
step_anew z k s (hour version body) e p =
    entry_anew z k s version body e p ∙ (λ u. ok (record { bytes = sym bytes_are u; after = ap (λ x. x.after) a.gives u }))
  where
    a : HourEntered StillTaken z s version body e
    a = made z k s version body e p

    bytes_are : converted_entry e.bytes ≡ entry_of z version (converted_body body) a.result.demand a.result.state
    bytes_are = ap (λ x. converted_entry x.bytes) (sym a.gives) ∙ entry_converted z version body a.result.demand a.result.state (body_long z k s version body e p)

pub step_converted : (z : Zone) (k : ℕ) (s : Carried) (i : Item) (e : Written Carried) → hour_entry StillTaken z k s i ≡ ok e
    → hour_entry StillTaken z k s (converted_item i) ≡ ok (record { bytes = converted_entry e.bytes; after = e.after })
step_converted z k s i e p = year_laws.append_step_lem z k s (converted_item i) _ (step_anew z k s i e p)

-- and it has no fixed rate any more
pub fixed_gone : (z : Zone) (k : ℕ) (s : Carried) (i : Item) (e : Written Carried) → hour_entry StillTaken z k s i ≡ ok e → has_fixed_rate (converted_item i) ≡ false
fixed_gone z k s (hour version body) e p = go (is_fixed body) refl
  where
    front_long : length (take rate_code body) ≡ rate_code
    front_long = length-take-le rate_code body (let l = body_long z k s version body e p in omega (arith, l))

    code_is : get_or (rate_twice body) rate_code 0 ≡ 1
    code_is = subst (λ n. get_or (rate_twice body) n 0 ≡ 1) front_long (get_or-append_seam (take rate_code body) 1 (rate_bytes body ++ (rate_bytes body ++ drop first_element_hour body)) 0)

    go : (b : Bool) → is_fixed body ≡ b → is_fixed (cond b (rate_twice body) body) ≡ false
    go true h = ap (λ c. eqb c 0) code_is
    go false h = h
