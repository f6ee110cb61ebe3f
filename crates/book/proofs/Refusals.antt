-- Which numbers and indices begin, append and take-up are refused with.
use Rattle.std.proofs.Common.{ℕ, ◌≡◌, false, List, leb}
use Rattle.zone.specs.Promise.{RefusesOnly, accepts}
use Rattle.zone.proofs.Promise.{and_true, because, bind_refuses, refuses_also}
use Rattle.zone.specs.Calls.Hour.{hour_version}
use Rattle.zone.specs.Claims.Refusals.{KnownHourRefusal, StartUpRefusal}
use Rattle.zone.specs.Record.BuildingElement.{standard_coefficients}
use Rattle.zone.specs.declared.record.zone_record.Zone.{Zone}
use Rattle.zone.specs.declared.format.conditions.FixedRate.{FixedRate}
use Rattle.zone.specs.declared.format.conditions.FixedRate.TheVariants.{Retired}
use Rattle.zone.proofs.Claims.HeadRefusals.{head_refusals, zone_refusals}
use Rattle.zone.proofs.Claims.Refusals.{known_step_refusals, start_up_refusals}
use Rattle.book.specs.Numbers.{false_entry}
use Rattle.book.specs.Model.Calls.{BookState, begin_res, append_res, take_up_res}
use Rattle.book.proofs.Model.Laws.Refusals.{begin_refuses_by, append_refuses_by, take_up_refuses_by}
use Rattle.book.specs.Year.{Item, hour, version_of, body_conditions, body_limits, Carried, may_follow, start_up, hour_entry, year_interface}
use Rattle.book.specs.Refusals.{
  BeginRefusal,
  begin_head,
  begin_start_up,
  begin_buffer_short,
  AppendRefusal,
  append_zone,
  append_book_full,
  append_false_entry,
  append_hour,
  append_buffer_short,
  TakeUpRefusal,
  take_up_head,
  take_up_start_up,
  take_up_book_full,
  take_up_false_entry,
  BookRefusals,
}
use Rattle.book.proofs.RetiredAppends.{retired_appends}

start_refuses : {P : ℕ → ℕ → Type 0} → ((n i : ℕ) → StartUpRefusal n i → P n i) → (z : Zone) → RefusesOnly P (start_up z)
start_refuses also z = bind_refuses _ (refuses_also also (start_up_refusals standard_coefficients z)) λ s _. accepts _

pub begin_refusals : (head buf : List ℕ) → RefusesOnly BeginRefusal (begin_res year_interface head buf)
begin_refusals head buf =
    begin_refuses_by year_interface
    (λ bs. refuses_also (λ n i p. begin_head p) (head_refusals bs))
    (start_refuses λ n i p. begin_start_up p)
    begin_buffer_short head buf

-- the entry of an hour: 18 for its version, or the hour step's
pub hour_refuses_by : {P : ℕ → ℕ → Type 0} (fixed : FixedRate) (z : Zone) (k : ℕ) (s : Carried) (i : Item) → (may_follow s.last_version (version_of i) ≡ false → P false_entry k)
    → ((n i : ℕ) → KnownHourRefusal n i → P n i) → RefusesOnly P (hour_entry fixed z k s i)
unfolding hour_entry
hour_refuses_by fixed z k s (hour version body) false_entry_lem also =
    because (may_follow s.last_version version) false_entry k _ false_entry_lem λ follows.
    let known = (and_true (hour_version version) (leb s.last_version version) follows).0 in
    bind_refuses _ (refuses_also also (known_step_refusals standard_coefficients z fixed s.state (body_conditions version body) version (body_limits version body) known)) λ r _.
    accepts _

pub append_refusals : (z : Zone) (given : BookState Carried) (i : Item) (buf : List ℕ) → RefusesOnly (AppendRefusal given.count) (append_res year_interface z given i buf)
append_refusals z given i buf =
    append_refuses_by year_interface z given i buf
    (refuses_also (λ n i p. append_zone p) (zone_refusals z))
    (λ _ few. hour_refuses_by Retired z given.count given.state i (λ _. append_false_entry few) (λ n i p. append_hour p))
    append_buffer_short append_book_full

pub take_up_refusals : (bytes : List ℕ) → RefusesOnly TakeUpRefusal (take_up_res year_interface bytes)
take_up_refusals bytes =
    take_up_refuses_by year_interface
    (λ bs. refuses_also (λ n i p. take_up_head p) (head_refusals bs))
    (start_refuses λ n i p. take_up_start_up p)
    take_up_book_full take_up_false_entry bytes

pub book_refusals : BookRefusals
book_refusals = record { begins = begin_refusals; appends = append_refusals; take_ups = take_up_refusals; fixed_rates = retired_appends }
