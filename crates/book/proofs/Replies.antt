-- Every answer that begin, append and take-up give is some reply's, since every refusal is one of the errors that their replies have: family by family.
use Rattle.std.proofs.Common.{ℕ, ◌≡◌, refl, List}
use Rattle.std.specs.Prelude.{Ok, Err}
use Rattle.zone.specs.Promise.{Result, RefusesOnly, accepts, refuses, Divisor, Temperature, SolveRefusal, solve_divisor, solve_temperature}
use Rattle.zone.specs.Claims.HeadRefusals as Head
use Rattle.zone.specs.Claims.Refusals as Zone
use Rattle.zone.specs.declared.record.refusal.Refusal.{Refusal}
use Rattle.book.specs.Refusals as Refusals
use Rattle.book.specs.Model.Calls as Book
use Rattle.book.specs.Year.{Carried, year_interface}
use Rattle.book.specs.Answers.{number_of, index_of, answer_of, rust_types}
use Rattle.book.specs.declared.book_error.BookError.{BookError}
use Rattle.book.specs.declared.book.BookState.{BookState}
use Rattle.book.specs.declared.book.Reply.{Reply}
use Rattle.book.proofs.Refusals.{begin_refusals, append_refusals, take_up_refusals}
use Rattle.book.proofs.Model.CodeLaws.{AnswerOfCall, of_begin, of_append, of_take_up, CodeLaws}

-- an error of this number and index
record Known (number index : ℕ) : Type 0 where
  pub error : BookError
  pub number_is : number_of error ≡ number
  pub index_is : index_of error ≡ index

known : (e : BookError) → Known (number_of e) (index_of e)
known e = record { error = e; number_is = refl; index_is = refl }

zone : (e : Refusal) → Known (number_of (BookError.Zone e)) (index_of (BookError.Zone e))
zone e = known (BookError.Zone e)

solve_known : (n i : ℕ) → SolveRefusal n i → Known n i
solve_known n i solve_divisor = zone (Refusal.Solve Divisor)
solve_known n i solve_temperature = zone (Refusal.Solve Temperature)

head_known : (n i : ℕ) → Head.HeadRefusal n i → Known n i
head_known n i Head.head_short = zone Refusal.HeadShort
head_known n i Head.head_length = zone Refusal.HeadLength
head_known n i Head.head_version = zone Refusal.HeadVersion
head_known n i (Head.head_structure j h) = zone (Refusal.Structure j)
head_known n i (Head.head_value j h) = zone (Refusal.ZoneValue j)

zone_known : (n i : ℕ) → Head.ZoneRefusal n i → Known n i
zone_known n i (Head.zone_structure j h) = zone (Refusal.Structure j)
zone_known n i (Head.zone_value j h) = zone (Refusal.ZoneValue j)

conditions_known : (n i : ℕ) → Head.ConditionsRefusal n i → Known n i
conditions_known n i Head.conditions_size = zone Refusal.ConditionsSize
conditions_known n i Head.conditions_code = zone Refusal.ConditionsCode
conditions_known n i (Head.conditions_value j h) = zone (Refusal.ConditionsValue j)

demand_known : (n i : ℕ) → Zone.DemandRefusal n i → Known n i
demand_known n i (Zone.demand_zone p) = zone_known n i p
demand_known n i Zone.demand_state_invalid = zone Refusal.StateInvalid
demand_known n i (Zone.demand_conditions p) = conditions_known n i p
demand_known n i Zone.demand_cooling_below_heating = zone Refusal.CoolingBelowHeating
demand_known n i Zone.demand_ventilation_below_heating = zone Refusal.VentilationBelowHeating
demand_known n i (Zone.demand_solve p) = solve_known n i p
demand_known n i Zone.demand_no_effect = zone Refusal.NoEffect

hour_known : (n i : ℕ) → Zone.KnownHourRefusal n i → Known n i
hour_known n i (Zone.hour_demand p) = demand_known n i p
hour_known n i Zone.hour_limit_value = zone Refusal.LimitValue

start_up_known : (n i : ℕ) → Zone.StartUpRefusal n i → Known n i
start_up_known n i (Zone.start_up_zone p) = zone_known n i p
start_up_known n i Zone.start_up_ventilation_below_heating = zone Refusal.VentilationBelowHeating
start_up_known n i (Zone.start_up_solve p) = solve_known n i p
start_up_known n i Zone.start_up_no_effect = zone Refusal.NoEffect
start_up_known n i Zone.start_up_not_settled = zone Refusal.NotSettled

begin_known : (n i : ℕ) → Refusals.BeginRefusal n i → Known n i
begin_known n i (Refusals.begin_head p) = head_known n i p
begin_known n i (Refusals.begin_start_up p) = start_up_known n i p
begin_known n i Refusals.begin_buffer_short = known BookError.BufferShort

append_known : (count n i : ℕ) → Refusals.AppendRefusal count n i → Known n i
append_known count n i (Refusals.append_zone p) = zone_known n i p
append_known count n i Refusals.append_book_full = known BookError.BookFull
append_known count n i (Refusals.append_false_entry h) = zone (Refusal.FalseEntry count)
append_known count n i (Refusals.append_hour p) = hour_known n i p
append_known count n i Refusals.append_buffer_short = known BookError.BufferShort

take_up_known : (n i : ℕ) → Refusals.TakeUpRefusal n i → Known n i
take_up_known n i (Refusals.take_up_head p) = head_known n i p
take_up_known n i (Refusals.take_up_start_up p) = start_up_known n i p
take_up_known n i Refusals.take_up_book_full = known BookError.BookFull
take_up_known n i (Refusals.take_up_false_entry entry h) = zone (Refusal.FalseEntry entry)

-- ---- the replies

-- the values of the functions that stand for these
abbrev book_state_in : Book.BookState Carried → BookState
book_state_in v = record { state = v.state.state; count = v.count; used = v.used; last_version = v.state.last_version }

-- a reply of this answer
abbrev ReplyFor : Book.Answer Carried → Type 0
ReplyFor a = (r : Reply) × (answer_of r ≡ a)

accepts_by : (v : Book.BookState Carried) → ReplyFor (Book.accepted v)
accepts_by v = (record { answer = Ok tt; values = book_state_in v }, refl)

refuses_by : (n i : ℕ) → Known n i → (v : Book.BookState Carried) → ReplyFor (Book.refused_with n i v)
refuses_by n i k v = (record { answer = Err k.error; values = book_state_in v }, λ t. Book.refused_with (k.number_is t) (k.index_is t) v)

module _ {P : ℕ → ℕ → Type 0} (known : (n i : ℕ) → P n i → Known n i) (g : Book.BookState Carried) where
  taken_up_by : {d : Result (Book.BookState Carried)} → RefusesOnly P d → ReplyFor (Book.answer_from g d)
  taken_up_by (accepts a) = accepts_by a
  taken_up_by (refuses {number = n} {index = i} p) = refuses_by n i (known n i p) g

  written_by : (buf : List ℕ) {d : Result (Book.BookState Carried × List ℕ)} → RefusesOnly P d → ReplyFor (Book.outcome_of g buf d).answer
  written_by buf (accepts a) = accepts_by a.0
  written_by buf (refuses {number = n} {index = i} p) = refuses_by n i (known n i p) g

reply_for : (a : Book.Answer Carried) → AnswerOfCall year_interface a → ReplyFor a
unfolding Book.begin Book.append Book.take_up
reply_for a (of_begin head g buf) = written_by begin_known g buf (begin_refusals head buf)
reply_for a (of_append z g i buf) = written_by (append_known g.count) g buf (append_refusals z g i buf)
reply_for a (of_take_up g bytes) = taken_up_by take_up_known g (take_up_refusals bytes)

pub rust_laws : CodeLaws year_interface rust_types
rust_laws = record { given_back = λ v. (book_state_in v, refl); reply_for = reply_for }
