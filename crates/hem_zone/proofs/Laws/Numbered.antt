-- Every refusal has a number from 1 to the last and an index of at most 8,783: family by family.
use Rattle.std.proofs.Common.{ℕ, ◌≤◌, rules}
use Rattle.zone.specs.Promise.{SolveRefusal, solve_divisor, solve_temperature}
use Rattle.zone.specs.Claims.HeadRefusals as Head
use Rattle.zone.specs.Claims.Refusals as Zone
use Rattle.book.specs.Refusals as Book
use Rattle.tools.specs.Refusals.{QuestionRefusal, question_take_up, question_invalid, ConvertRefusal, convert_take_up, convert_version_1, convert_buffer_short}
use Rattle.weather.specs.Refusals.{WeatherRefusal, weather_absent, weather_invalid, weather_missing}
use Rattle.hem_zone.specs.Claims.{AfterHead, of_head, of_call, last_number}

-- a refusal (Specification, Table of refusals)
pub record Numbered (number index : ℕ) : Type 0 where
  pub from_1 : 1 ≤ number
  pub to_last : number ≤ last_number
  pub few : index ≤ 8783

solve_numbered : (n i : ℕ) → SolveRefusal n i → Numbered n i
solve_numbered n i solve_divisor = search rules
solve_numbered n i solve_temperature = search rules

pub head_numbered : (n i : ℕ) → Head.HeadRefusal n i → Numbered n i
head_numbered n i Head.head_short = search rules
head_numbered n i Head.head_length = search rules
head_numbered n i Head.head_version = search rules
head_numbered n i (Head.head_structure j h) = search rules
head_numbered n i (Head.head_value j h) = search rules

zone_numbered : (n i : ℕ) → Head.ZoneRefusal n i → Numbered n i
zone_numbered n i (Head.zone_structure j h) = search rules
zone_numbered n i (Head.zone_value j h) = search rules

conditions_numbered : (n i : ℕ) → Head.ConditionsRefusal n i → Numbered n i
conditions_numbered n i Head.conditions_size = search rules
conditions_numbered n i Head.conditions_code = search rules
conditions_numbered n i (Head.conditions_value j h) = search rules

pub operative_numbered : (n i : ℕ) → Zone.OperativeRefusal n i → Numbered n i
operative_numbered n i (Zone.operative_zone p) = zone_numbered n i p
operative_numbered n i Zone.operative_state_invalid = search rules

pub demand_numbered : (n i : ℕ) → Zone.DemandRefusal n i → Numbered n i
demand_numbered n i (Zone.demand_zone p) = zone_numbered n i p
demand_numbered n i Zone.demand_state_invalid = search rules
demand_numbered n i (Zone.demand_conditions p) = conditions_numbered n i p
demand_numbered n i Zone.demand_cooling_below_heating = search rules
demand_numbered n i Zone.demand_ventilation_below_heating = search rules
demand_numbered n i (Zone.demand_solve p) = solve_numbered n i p
demand_numbered n i Zone.demand_no_effect = search rules

known_numbered : (n i : ℕ) → Zone.KnownHourRefusal n i → Numbered n i
known_numbered n i (Zone.hour_demand p) = demand_numbered n i p
known_numbered n i Zone.hour_limit_value = search rules

pub hour_numbered : (n i : ℕ) → Zone.HourRefusal n i → Numbered n i
hour_numbered n i (Zone.hour_known p) = known_numbered n i p
hour_numbered n i Zone.hour_false_entry = search rules

pub update_numbered : (n i : ℕ) → Zone.UpdateRefusal n i → Numbered n i
update_numbered n i (Zone.update_zone p) = zone_numbered n i p
update_numbered n i Zone.update_state_invalid = search rules
update_numbered n i (Zone.update_conditions p) = conditions_numbered n i p
update_numbered n i Zone.update_conditions_value = search rules
update_numbered n i (Zone.update_solve p) = solve_numbered n i p

pub start_up_numbered : (n i : ℕ) → Zone.StartUpRefusal n i → Numbered n i
start_up_numbered n i (Zone.start_up_zone p) = zone_numbered n i p
start_up_numbered n i Zone.start_up_ventilation_below_heating = search rules
start_up_numbered n i (Zone.start_up_solve p) = solve_numbered n i p
start_up_numbered n i Zone.start_up_no_effect = search rules
start_up_numbered n i Zone.start_up_not_settled = search rules

pub begin_numbered : (n i : ℕ) → Book.BeginRefusal n i → Numbered n i
begin_numbered n i (Book.begin_head p) = head_numbered n i p
begin_numbered n i (Book.begin_start_up p) = start_up_numbered n i p
begin_numbered n i Book.begin_buffer_short = search rules

pub append_numbered : (count n i : ℕ) → Book.AppendRefusal count n i → Numbered n i
append_numbered count n i (Book.append_zone p) = zone_numbered n i p
append_numbered count n i Book.append_book_full = search rules
append_numbered count n i (Book.append_false_entry h) = search rules
append_numbered count n i (Book.append_hour p) = known_numbered n i p
append_numbered count n i Book.append_buffer_short = search rules

pub take_up_numbered : (n i : ℕ) → Book.TakeUpRefusal n i → Numbered n i
take_up_numbered n i (Book.take_up_head p) = head_numbered n i p
take_up_numbered n i (Book.take_up_start_up p) = start_up_numbered n i p
take_up_numbered n i Book.take_up_book_full = search rules
take_up_numbered n i (Book.take_up_false_entry entry h) = search rules

pub question_numbered : (n i : ℕ) → QuestionRefusal n i → Numbered n i
question_numbered n i (question_take_up p) = take_up_numbered n i p
question_numbered n i question_invalid = search rules

pub convert_numbered : (n i : ℕ) → ConvertRefusal n i → Numbered n i
convert_numbered n i (convert_take_up p) = take_up_numbered n i p
convert_numbered n i convert_version_1 = search rules
convert_numbered n i convert_buffer_short = search rules

pub weather_numbered : (n i : ℕ) → WeatherRefusal n i → Numbered n i
weather_numbered n i weather_absent = search rules
weather_numbered n i weather_invalid = search rules
weather_numbered n i weather_missing = search rules

pub after_head_numbered : {P : ℕ → ℕ → Type 0} → ((n i : ℕ) → P n i → Numbered n i) → (n i : ℕ) → AfterHead P n i → Numbered n i
after_head_numbered numbered n i (of_head p) = head_numbered n i p
after_head_numbered numbered n i (of_call p) = numbered n i p
