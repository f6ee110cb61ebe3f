-- The contracts of the fifteen functions, tied to their definitions. A contract speaks of references: a has the arguments as they were given, e what
-- was lent as the call left it, each by its name, in its place among the parameters; `now` is what stands behind a reference.
use Rattle.std.proofs.Common.{rules}
use contract.Lifetimes.{Lfts}
use Rattle.hem_zone.specs.Zone.{hem_head_outcome, hem_start_up_outcome, hem_operative_outcome, hem_demand_outcome, hem_update_outcome, hem_hour_step_outcome}
use Rattle.hem_zone.specs.Why.{hem_why_outcome}
use Rattle.hem_zone.specs.Book.{hem_begin_outcome, hem_append_outcome, hem_take_up_outcome}
use Rattle.hem_zone.specs.Questions.{hem_first_above_outcome, hem_hours_within_outcome, hem_nearest_hour_outcome}
use Rattle.hem_zone.specs.Convert.{hem_convert_outcome}
use Rattle.hem_zone.specs.Weather.{hem_weather_outcome}
use Rattle.hem_zone.specs.Ties.{Tied}
use Rattle.hem_zone.proofs.BookParameters.{begin_given, begin_left, append_given, append_left, take_up_given, take_up_left}
use Rattle.hem_zone.proofs.head.hem_head.Reads as head_reads
use Rattle.hem_zone.proofs.step.hem_start_up.Reads as start_up_reads
use Rattle.hem_zone.proofs.step.hem_operative.Reads as operative_reads
use Rattle.hem_zone.proofs.step.hem_demand.Reads as demand_reads
use Rattle.hem_zone.proofs.why.hem_why.Reads as why_reads
use Rattle.hem_zone.proofs.step.hem_update.Reads as update_reads
use Rattle.hem_zone.proofs.step.hem_hour_step.Reads as hour_step_reads
use Rattle.hem_zone.proofs.book_calls.hem_begin.Reads as begin_reads
use Rattle.hem_zone.proofs.book_calls.hem_append.Reads as append_reads
use Rattle.hem_zone.proofs.book_calls.hem_take_up.Reads as take_up_reads
use Rattle.hem_zone.proofs.questions.hem_first_above.Reads as first_above_reads
use Rattle.hem_zone.proofs.questions.hem_hours_within.Reads as hours_within_reads
use Rattle.hem_zone.proofs.questions.hem_nearest_hour.Reads as nearest_hour_reads
use Rattle.hem_zone.proofs.convert.hem_convert.Reads as convert_reads
use Rattle.hem_zone.proofs.weather_file.hem_weather.Reads as weather_reads

-- each for the lifetimes κs of its references. The record stands in proofs/, since specs/ cannot name a function's contract; its form is in specs/Ties.antt
pub record Ties : Type 0 where
  -- fn hem_head(head)
  pub hem_head : (κs : Lfts 1) → Tied (head_reads.Pre κs) (head_reads.Post κs) (λ r _. r) (λ (head, _). hem_head_outcome head.now)
  -- fn hem_start_up(head, temps, nodes)
  pub hem_start_up :
      (κs : Lfts 3) → Tied (start_up_reads.Pre κs) (start_up_reads.Post κs)
      (λ r (_, (temps, (nodes, _))). (r, (temps.now, nodes.now)))
      (λ (head, (temps, (nodes, _))). hem_start_up_outcome head.now temps.now nodes.now)
  -- fn hem_operative(head, temps, nodes, operative)
  pub hem_operative :
      (κs : Lfts 3) → Tied (operative_reads.Pre κs) (operative_reads.Post κs)
      (λ r (_, (_, (_, (operative, _)))). (r, operative.now))
      (λ (head, (temps, (nodes, (operative, _)))). hem_operative_outcome head.now temps.now nodes operative.now)
  -- fn hem_demand(head, temps, nodes, conditions, out)
  pub hem_demand :
      (κs : Lfts 4) → Tied (demand_reads.Pre κs) (demand_reads.Post κs)
      (λ r (_, (_, (_, (_, (out, _))))). (r, out.now))
      (λ (head, (temps, (nodes, (conditions, (out, _))))). hem_demand_outcome head.now temps.now nodes conditions.now out.now)
  -- fn hem_why(head, temps, nodes, conditions, reason, load)
  pub hem_why :
      (κs : Lfts 5) → Tied (why_reads.Pre κs) (why_reads.Post κs)
      (λ r (_, (_, (_, (_, (reason, (load, _)))))). (r, (reason.now, load.now)))
      (λ (head, (temps, (nodes, (conditions, (reason, (load, _)))))). hem_why_outcome head.now temps.now nodes conditions.now reason.now load.now)
  -- fn hem_update(head, temps, nodes, conditions, gains, fraction, rate, balance)
  pub hem_update :
      (κs : Lfts 4) → Tied (update_reads.Pre κs) (update_reads.Post κs)
      (λ r (_, (temps, (_, (_, (_, (_, (_, (balance, _)))))))). (r, (temps.now, balance.now)))
      (λ (head, (temps, (nodes, (conditions, (gains, (fraction, (rate, (balance, _)))))))). hem_update_outcome head.now temps.now nodes conditions.now gains fraction rate balance.now)
  -- fn hem_hour_step(head, temps, nodes, conditions, version, heating_limit, cooling_limit, out, balance)
  pub hem_hour_step :
      (κs : Lfts 5) → Tied (hour_step_reads.Pre κs) (hour_step_reads.Post κs)
      (λ r (_, (temps, (_, (_, (_, (_, (_, (out, (balance, _))))))))). (r, (temps.now, out.now, balance.now)))
      (λ (head, (temps, (nodes, (conditions, (version, (heating_limit, (cooling_limit, (out, (balance, _))))))))). hem_hour_step_outcome head.now temps.now nodes conditions.now version heating_limit cooling_limit out.now balance.now)
  -- fn hem_begin(head, buf, temps, nodes, count, used, last_version)
  pub hem_begin :
      (κs : Lfts 7) → Tied (begin_reads.Pre κs) (begin_reads.Post κs)
      (λ r e. (r, begin_left κs e))
      (λ a. hem_begin_outcome (begin_given κs a).head (begin_given κs a).buf (begin_given κs a).held)
  -- fn hem_append(head, buf, temps, nodes, count, used, last_version, conditions, version, heating_limit, cooling_limit)
  pub hem_append :
      (κs : Lfts 8) → Tied (append_reads.Pre κs) (append_reads.Post κs)
      (λ r e. (r, append_left κs e))
      (λ a. let g = append_given κs a in hem_append_outcome g.head g.buf g.held g.conditions g.version g.heating_limit g.cooling_limit)
  -- fn hem_take_up(bytes, temps, nodes, count, used, last_version)
  pub hem_take_up :
      (κs : Lfts 6) → Tied (take_up_reads.Pre κs) (take_up_reads.Post κs)
      (λ r e. (r, take_up_left κs e))
      (λ a. hem_take_up_outcome (take_up_given κs a).bytes (take_up_given κs a).held)
  -- fn hem_first_above(bytes, value, hour)
  pub hem_first_above :
      (κs : Lfts 2) → Tied (first_above_reads.Pre κs) (first_above_reads.Post κs)
      (λ r (_, (_, (hour, _))). (r, hour.now))
      (λ (bytes, (value, (hour, _))). hem_first_above_outcome bytes.now value hour.now)
  -- fn hem_hours_within(bytes, lower, upper, hours)
  pub hem_hours_within :
      (κs : Lfts 2) → Tied (hours_within_reads.Pre κs) (hours_within_reads.Post κs)
      (λ r (_, (_, (_, (hours, _)))). (r, hours.now))
      (λ (bytes, (lower, (upper, (hours, _)))). hem_hours_within_outcome bytes.now lower upper hours.now)
  -- fn hem_nearest_hour(bytes, value, hour)
  pub hem_nearest_hour :
      (κs : Lfts 2) → Tied (nearest_hour_reads.Pre κs) (nearest_hour_reads.Post κs)
      (λ r (_, (_, (hour, _))). (r, hour.now))
      (λ (bytes, (value, (hour, _))). hem_nearest_hour_outcome bytes.now value hour.now)
  -- fn hem_convert(bytes, out, count, used)
  pub hem_convert :
      (κs : Lfts 4) → Tied (convert_reads.Pre κs) (convert_reads.Post κs)
      (λ r (_, (out, (count, (used, _)))). (r, (out.now, (count.now, used.now))))
      (λ (bytes, (out, (count, (used, _)))). hem_convert_outcome bytes.now out.now count.now used.now)
  -- fn hem_weather(file, line, weather)
  pub hem_weather :
      (κs : Lfts 2) → Tied (weather_reads.Pre κs) (weather_reads.Post κs)
      (λ r (_, (_, (weather, _))). (r, weather.now))
      (λ (file, (line, (weather, _))). hem_weather_outcome file.now line weather.now)

pub ties : Ties
ties =
    record {
      hem_head = λ κs. record { asks_nothing = λ a. search rules; is_definition = λ a r e p. p };
      hem_start_up = λ κs. record { asks_nothing = λ a. search rules; is_definition = λ a r e p. p };
      hem_operative = λ κs. record { asks_nothing = λ a. search rules; is_definition = λ a r e p. p };
      hem_demand = λ κs. record { asks_nothing = λ a. search rules; is_definition = λ a r e p. p };
      hem_why = λ κs. record { asks_nothing = λ a. search rules; is_definition = λ a r e p. p };
      hem_update = λ κs. record { asks_nothing = λ a. search rules; is_definition = λ a r e p. p };
      hem_hour_step = λ κs. record { asks_nothing = λ a. search rules; is_definition = λ a r e p. p };
      hem_begin = λ κs. record { asks_nothing = λ a. search rules; is_definition = λ a r e p. p };
      hem_append = λ κs. record { asks_nothing = λ a. search rules; is_definition = λ a r e p. p };
      hem_take_up = λ κs. record { asks_nothing = λ a. search rules; is_definition = λ a r e p. p };
      hem_first_above = λ κs. record { asks_nothing = λ a. search rules; is_definition = λ a r e p. p };
      hem_hours_within = λ κs. record { asks_nothing = λ a. search rules; is_definition = λ a r e p. p };
      hem_nearest_hour = λ κs. record { asks_nothing = λ a. search rules; is_definition = λ a r e p. p };
      hem_convert = λ κs. record { asks_nothing = λ a. search rules; is_definition = λ a r e p. p };
      hem_weather = λ κs. record { asks_nothing = λ a. search rules; is_definition = λ a r e p. p };
    }
