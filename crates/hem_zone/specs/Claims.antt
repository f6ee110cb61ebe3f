-- What a caller learns from what a call returned: 0 exactly where it is accepted, else the refusal, of which nothing is cut off; one claim for each
-- function.
-- Specification, Answers in C; What a refusal is; Of every call.
use Rattle.std.specs.Prelude.{ℕ, ◌+◌, ◌*◌, ◌%◌, ◌/◌, ◌≤◌, ◌<◌, ◌≡◌, ◌↔◌, List, Float}
use Rattle.zone.specs.Promise.{Result, ok, refused}
use Rattle.zone.specs.Record.BuildingElement.{standard_coefficients}
use Rattle.zone.specs.Format.Head.{head_of}
use Rattle.zone.specs.Claims.HeadRefusals.{HeadRefusal}
use Rattle.zone.specs.Calls.State.{operative}
use Rattle.zone.specs.Calls.Hour.{demand, update_temperatures, hour_step}
use Rattle.zone.specs.Calls.StartUp.{init_node_temps}
use Rattle.zone.specs.Calls.Why.{why}
use Rattle.zone.specs.Claims.Refusals.{OperativeRefusal, DemandRefusal, HourRefusal, UpdateRefusal, StartUpRefusal}
use Rattle.zone.specs.declared.format.conditions.FixedRate.TheVariants.{Retired}
use Rattle.book.specs.Model.Calls as Book
use Rattle.book.specs.Year.{hour_item, year_interface}
use Rattle.book.specs.Refusals.{BeginRefusal, AppendRefusal, TakeUpRefusal}
use Rattle.hem_zone.specs.Code.{refusal_code}
use Rattle.hem_zone.specs.Arrays.{state_in, demand_out, limits_of}
use Rattle.hem_zone.specs.Zone.{with_zone, hem_head_outcome, start_up_out, hem_start_up_outcome, hem_operative_outcome, hem_demand_outcome, update_out, hem_update_outcome, hour_out, hem_hour_step_outcome}
use Rattle.hem_zone.specs.Why.{why_out, hem_why_outcome}
use Rattle.tools.specs.Questions.{first_above_in, hours_within_in, nearest_hour_in}
use Rattle.tools.specs.Refusals.{QuestionRefusal, ConvertRefusal}
use Rattle.tools.specs.Convert.{convert_in}
use Rattle.hem_zone.specs.Convert.{converted_out, hem_convert_outcome}
use Rattle.hem_zone.specs.Questions.{hour_or_none, hem_first_above_outcome, hem_hours_within_outcome, hem_nearest_hour_outcome}
use Rattle.weather.specs.Weather.{weather_of}
use Rattle.weather.specs.Refusals.{WeatherRefusal}
use Rattle.hem_zone.specs.Weather.{weather_out, hem_weather_outcome}
use Rattle.hem_zone.specs.Book.{CBookState, book_state_of, c_book_state_of, book_out, hem_begin_outcome, hem_append_outcome, hem_take_up_outcome}

-- the head is read first, 1 to 5; then what the call is refused with
pub data AfterHead (P : (number index : ℕ) → Type 0) : (number index : ℕ) → Type 0 where
  of_head : {number index : ℕ} → HeadRefusal number index → AfterHead P number index
  of_call : {number index : ℕ} → P number index → AfterHead P number index

-- the last number of a refusal
abbrev pub last_number : ℕ
last_number = 24

-- a refusal's number (Specification, Table of refusals), and an index for which the 32 bits of an answer have room beside it
pub record InAnswer (number index : ℕ) : Type 0 where
  pub from_1 : 1 ≤ number
  pub to_last : number ≤ last_number
  pub room : index < 16777216

-- Replies are told apart: no refusal is returned as acceptance is, and two that are returned as one number are one refusal
pub record ToldApart : Type 0 where
  pub from_accepted : (number index : ℕ) → InAnswer number index → refusal_code number index ≡ 0 → ⊥
  pub from_others : (number index number' index' : ℕ) → InAnswer number index → InAnswer number' index'
      → refusal_code number index ≡ refusal_code number' index' → (number ≡ number') × (index ≡ index')

-- a returned number that stands for a refusal, which is one that P allows: HEM_NUMBER and HEM_INDEX of the C header read number and index back
pub record Refusal (P : (number index : ℕ) → Type 0) {A : Type 0} (r : Result A) (code : ℕ) : Type 0 where
  pub number : ℕ
  pub index : ℕ
  pub is_refused : r ≡ refused number index
  pub allowed : P number index
  pub in_answer : InAnswer number index
  pub exact : code ≡ number + 256 * index
  pub HEM_NUMBER : code % 256 ≡ number
  pub HEM_INDEX : code / 256 ≡ index

-- what the number that a call returned tells of its result r
pub record ReturnCodeSpec (P : (number index : ℕ) → Type 0) {A : Type 0} (r : Result A) (code : ℕ) : Type 0 where
  pub accepted : (code ≡ 0) ↔ ((a : A) × (r ≡ ok a))
  pub not_accepted : (code ≡ 0 → ⊥) → Refusal P r code

-- and what it tells of the lent arrays, which stand behind it
pub record Answered (P : (number index : ℕ) → Type 0) {A B : Type 0} (written : A → B) (before : B) (r : Result A) (answer : ℕ × B) : Type 0 where
  pub returned : ReturnCodeSpec P r answer.0
  pub writes : (a : A) → r ≡ ok a → answer.1 ≡ written a
  pub keeps : (answer.0 ≡ 0 → ⊥) → answer.1 ≡ before

-- for every input of each function
pub record Claims : Type 0 where
  pub hem_head : (head : List ℕ) → ReturnCodeSpec HeadRefusal (head_of head) (hem_head_outcome head)
  pub hem_start_up :
      (head : List ℕ) (temps : List Float) (nodes : ℕ)
      → Answered (AfterHead StartUpRefusal) start_up_out (temps, nodes) (with_zone head (init_node_temps standard_coefficients)) (hem_start_up_outcome head temps nodes)
  pub hem_operative :
      (head : List ℕ) (temps : List Float) (nodes : ℕ) (before : Float)
      → Answered (AfterHead OperativeRefusal) (λ t. t) before (with_zone head λ z. operative z (state_in temps nodes)) (hem_operative_outcome head temps nodes before)
  pub hem_demand :
      (head : List ℕ) (temps : List Float) (nodes : ℕ) (conditions : List ℕ) (out : List Float)
      → Answered (AfterHead DemandRefusal) demand_out out (with_zone head λ z. demand Retired standard_coefficients z (state_in temps nodes) conditions)
      (hem_demand_outcome head temps nodes conditions out)
  pub hem_why :
      (head : List ℕ) (temps : List Float) (nodes : ℕ) (conditions : List ℕ) (reason load : ℕ)
      → Answered (AfterHead DemandRefusal) why_out (reason, load) (with_zone head λ z. why standard_coefficients z (state_in temps nodes) conditions)
      (hem_why_outcome head temps nodes conditions reason load)
  pub hem_update :
      (head : List ℕ) (temps : List Float) (nodes : ℕ) (conditions : List ℕ) (gains fraction rate : Float) (balance : List Float)
      → Answered (AfterHead UpdateRefusal) update_out (temps, balance)
      (with_zone head λ z. update_temperatures standard_coefficients z (state_in temps nodes) conditions gains fraction rate)
      (hem_update_outcome head temps nodes conditions gains fraction rate balance)
  pub hem_hour_step :
      (head : List ℕ) (temps : List Float) (nodes : ℕ) (conditions : List ℕ) (version : ℕ) (heating_limit cooling_limit : Float) (out balance : List Float)
      → Answered (AfterHead HourRefusal) hour_out (temps, out, balance)
      (with_zone head λ z. hour_step Retired standard_coefficients z version (limits_of heating_limit cooling_limit) (state_in temps nodes) conditions)
      (hem_hour_step_outcome head temps nodes conditions version heating_limit cooling_limit out balance)
  pub hem_begin :
      (head buf : List ℕ) (held : CBookState) → Answered BeginRefusal book_out (buf, held) (Book.begin_res year_interface head buf) (hem_begin_outcome head buf held)
  pub hem_append :
      (head buf : List ℕ) (held : CBookState) (conditions : List ℕ) (version : ℕ) (heating_limit cooling_limit : Float)
      → Answered (AfterHead (AppendRefusal held.count)) book_out (buf, held)
      (with_zone head λ z. Book.append_res year_interface z (book_state_of held) (hour_item version conditions (limits_of heating_limit cooling_limit)) buf)
      (hem_append_outcome head buf held conditions version heating_limit cooling_limit)
  pub hem_take_up : (bytes : List ℕ) (held : CBookState) → Answered TakeUpRefusal c_book_state_of held (Book.take_up_res year_interface bytes) (hem_take_up_outcome bytes held)
  pub hem_first_above :
      (bytes : List ℕ) (value : Float) (hour : ℕ) → Answered QuestionRefusal hour_or_none hour (first_above_in bytes value) (hem_first_above_outcome bytes value hour)
  pub hem_hours_within :
      (bytes : List ℕ) (lower upper : Float) (hours : ℕ) → Answered QuestionRefusal (λ n. n) hours (hours_within_in bytes lower upper) (hem_hours_within_outcome bytes lower upper hours)
  pub hem_nearest_hour :
      (bytes : List ℕ) (value : Float) (hour : ℕ) → Answered QuestionRefusal hour_or_none hour (nearest_hour_in bytes value) (hem_nearest_hour_outcome bytes value hour)
  pub hem_convert :
      (bytes out : List ℕ) (count used : ℕ) → Answered ConvertRefusal (converted_out out) (out, (count, used)) (convert_in bytes out) (hem_convert_outcome bytes out count used)
  pub hem_weather :
      (file : List ℕ) (line : ℕ) (weather : List Float) → Answered WeatherRefusal weather_out weather (weather_of file line) (hem_weather_outcome file line weather)
