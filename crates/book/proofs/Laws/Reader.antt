-- What is read of a book is what the plain book has: entry by entry the state after it.
use Rattle.std.proofs.Common.{ℕ, ◌+◌, ◌-◌, ◌*◌, ◌≤◌, ◌<◌, ◌≡◌, refl, sym, ap, subst, ◌∙◌, List, [], ◌∷◌, ◌++◌, map, append-nil, append_assoc, arith, length, take, drop, replicate, length-append, length-drop, drop_at, length-take-le, Float, le-leb}
use lib.Seq.{take-length}
use borrow.Author.Tests.{lt-leb}
use Rattle.zone.specs.Promise.{ok, zero64}
use Rattle.zone.specs.Record.BuildingElement.{node_count, standard_coefficients}
use Rattle.zone.specs.Format.Bytes.{float_size}
use Rattle.zone.specs.Format.Decode.{floats_at}
use Rattle.zone.specs.Format.Encode.{row_bytes}
use Rattle.zone.specs.Inner.Temperatures.{most_nodes, temperatures_from}
use Rattle.zone.specs.Calls.Hour.{HourResult}
use Rattle.zone.specs.declared.record.zone_record.Zone.{Zone}
use Rattle.zone.specs.declared.format.conditions.FixedRate.{FixedRate}
use Rattle.zone.specs.declared.format.conditions.FixedRate.TheVariants.{StillTaken}
use Rattle.zone.proofs.Promise.{ok_inj, drop_replicate, hour_fits, hour_behind, hour_nodes, row_back, take_fits, temps_length, count_few, node_count_few, length_row}
use Rattle.book.specs.Model.Interface.{Written}
use Rattle.book.specs.Model.Plain.{entries_of}
use Rattle.book.specs.Entry.{front_bytes, demand_bytes, entry_of}
use Rattle.book.specs.Year.{Item, hour, body_conditions, body_limits, Carried, hour_entry, year_interface}
use Rattle.book.specs.Inner.Reader.{temperatures_of, read_temperatures, state_in}
use Rattle.book.proofs.Model.Laws.Entries.{Entries, bytes_of, entries_cons}
use Rattle.book.proofs.Laws.Interface.{HourEntered, step_hour}

-- ---- the temperatures of an entry, as the code cuts them out

module _ (z : Zone) (entry : List ℕ) (temps : List Float) (n : ℕ) (n_is : n ≡ node_count z) where
  pub read_short : length entry < 8 * n → replicate most_nodes zero64 ≡ read_temperatures z entry temps
  unfolding read_temperatures
  read_short h = rw (← n_is, lt-leb (8 * n) (length entry) h) refl

  pub read_long : n ≤ most_nodes → 8 * n ≤ length entry → (out : List Float) → out ≡ temperatures_from (take (length entry - (length entry - 8 * n)) (drop (length entry - 8 * n) entry)) n temps
      → out ≡ read_temperatures z entry temps
  unfolding read_temperatures temperatures_from
  read_long few long out e =
      let at = length entry - 8 * n in
      let whole : take (length entry - at) (drop at entry) ≡ drop at entry = ap (λ (m : ℕ). take m (drop at entry)) (sym (length-drop at entry)) ∙ take-length (drop at entry) in
      let size : 8 * n ≤ length (drop at entry) = omega (arith, length-drop at entry) in
      rw (← n_is, le-leb (8 * n) (length entry) long) (e ∙ rw (whole, le-leb n most_nodes few, le-leb (8 * n) (length (drop at entry)) size) refl)

-- ---- the state after an entry

no_temperatures : (z : Zone) → drop (node_count z) (replicate most_nodes zero64) ≡ replicate (most_nodes - node_count z) zero64
no_temperatures z = drop_replicate (node_count z) most_nodes zero64

-- an entry holds the state after its hour: every temperature is one that eight bytes spell
module _ (fixed : FixedRate) (z : Zone) (k : ℕ) (s : Carried) (version : ℕ) (i : List ℕ) (e : Written Carried) (p : hour_entry fixed z k s (hour version i) ≡ ok e) where
  abbrev made : HourEntered fixed z s version i e
  made = step_hour fixed z k s version i e p

  abbrev N : ℕ
  N = node_count z

  abbrev r : HourResult
  r = made.result

  abbrev kept : List Float
  kept = take N r.state.temps

  few : N ≤ most_nodes
  few = node_count_few z (count_few standard_coefficients z s.state fixed version (body_limits version i) (body_conditions version i) r made.stepped)

  long : length kept ≡ N
  long = length-take-le N r.state.temps (omega (arith, few, temps_length standard_coefficients z s.state fixed version (body_limits version i) (body_conditions version i) r made.stepped))

  -- the bytes before the temperatures
  abbrev front : List ℕ
  front = front_bytes z version ++ (i ++ demand_bytes r.demand)

  entry_is : entry_of z version i r.demand r.state ≡ front ++ row_bytes kept
  unfolding entry_of
  entry_is =
      ap (λ (x : List ℕ). front_bytes z version ++ x) (sym (append_assoc i (demand_bytes r.demand) (row_bytes kept)))
      ∙ sym (append_assoc (front_bytes z version) (i ++ demand_bytes r.demand) (row_bytes kept))

  size : length (row_bytes kept) ≡ float_size * N
  size = length_row kept ∙ ap (λ (n : ℕ). 8 * n) long

  reads : temperatures_of z (front ++ row_bytes kept) ≡ kept
  reads =
      let l = length-append front (row_bytes kept) in
      let at : length (front ++ row_bytes kept) - float_size * N ≡ length front = omega (arith, l, size) in
      ap (λ (n : ℕ). floats_at (drop n (front ++ row_bytes kept)) 0 N) at
      ∙ ap (λ (bs : List ℕ). floats_at bs 0 N) (drop_at front (row_bytes kept) (length front) refl ∙ sym (append-nil (row_bytes kept)))
      ∙ ap (λ (n : ℕ). floats_at (row_bytes kept ++ []) 0 n) (sym long)
      ∙ row_back [] kept [] 0 refl (take_fits N r.state.temps (hour_fits fixed standard_coefficients z version (body_limits version i) s.state (body_conditions version i) r made.stepped))

  whole_state : state_in z (front ++ row_bytes kept) ≡ r.state
  unfolding read_temperatures
  whole_state =
      let l = length-append front (row_bytes kept) in
      let behind = hour_behind fixed standard_coefficients z version (body_limits version i) s.state (body_conditions version i) r made.stepped in
      rw (le-leb (float_size * N) (length (front ++ row_bytes kept)) (omega (arith, l, size)), reads, no_temperatures z)
      (λ t. record { nodes = sym (hour_nodes fixed standard_coefficients z version (body_limits version i) s.state (body_conditions version i) r made.stepped) t; temps = sym behind t })

  pub step_state : state_in z e.bytes ≡ e.after.state
  step_state =
      sym (ap (λ x. state_in z x.bytes) made.gives) ∙ ap (state_in z) entry_is ∙ whole_state ∙ ap (λ x. x.after.state) made.gives

entry_state : (z : Zone) (k : ℕ) (s : Carried) (i : Item) (e : Written Carried) → hour_entry StillTaken z k s i ≡ ok e → state_in z e.bytes ≡ e.after.state
entry_state z k s (hour version body) e p = step_state StillTaken z k s version body e p

-- of all entries of a plain book
pub states_read : (z : Zone) (k : ℕ) (s : Carried) (is : List Item) (es : Entries year_interface) → entries_of year_interface z k s is ≡ ok es
    → map (λ c. (state_in z c).temps) (bytes_of es) ≡ map (λ x. x.after.state.temps) es
unfolding entries_of
states_read z k s [] es h = rw (sym (ok_inj h)) refl
states_read z k s (i ∷ is) es h =
    let a = entries_cons year_interface z k s i is es h in
    subst (λ x. map (λ c. (state_in z c).temps) (bytes_of x) ≡ map (λ y. y.after.state.temps) x) a.joined
    (λ t. (entry_state z k s i a.e a.stepped t).temps ∷ states_read z (k + 1) a.e.after is a.others a.rest t)
