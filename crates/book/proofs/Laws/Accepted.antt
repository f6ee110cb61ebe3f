-- What is known of an accepted hour.
use Rattle.std.proofs.Common.{ℕ, ◌-◌, ◌≤◌, ◌≡◌, List, arith, length, length-take}
use Rattle.zone.specs.Promise.{ok}
use Rattle.zone.specs.Record.BuildingElement.{standard_coefficients, node_count}
use Rattle.zone.specs.declared.record.zone_record.Zone.{Zone}
use Rattle.zone.specs.declared.format.conditions.FixedRate.{FixedRate}
use Rattle.zone.proofs.Promise.{node_count_few, conditions_length_lem, count_few, temps_length}
use Rattle.zone.specs.Calls.Hour.{HourResult, hour_step}
use Rattle.zone.specs.declared.calls.state.State.{State}
use Rattle.book.specs.Layout.{limits_length, whole_length, body_length}
use Rattle.book.specs.Entry.{entry_of}
use Rattle.book.specs.Year.{body_conditions, body_limits}
use Rattle.book.proofs.Laws.Entry.{length_entry}

module _ (fixed : FixedRate) (z : Zone) (version : ℕ) (s : State) (i : List ℕ) (r : HourResult) (e : hour_step fixed standard_coefficients z version (body_limits version i) s (body_conditions version i) ≡ ok r) where
  -- the conditions have some bytes, so the limits' stand behind them
  pub hour_body : length i ≡ body_length z version
  hour_body =
      omega (
        arith,
        length-take (length i - limits_length version) i,
        conditions_length_lem standard_coefficients z s fixed version (body_limits version i) (body_conditions version i) r e,
      )

  hour_few : z.count ≤ 24
  hour_few = count_few standard_coefficients z s fixed version (body_limits version i) (body_conditions version i) r e

  hour_temps : node_count z ≤ length r.state.temps
  hour_temps = omega (arith, temps_length standard_coefficients z s fixed version (body_limits version i) (body_conditions version i) r e, node_count_few z hour_few)

  pub hour_entry_lem : length (entry_of z version i r.demand r.state) ≡ whole_length z version
  hour_entry_lem = length_entry z version i r.demand r.state hour_body hour_temps
