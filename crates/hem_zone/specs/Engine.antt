-- What is claimed of the engine as a whole: of the fifteen functions that C calls, and of the layers that they call. A call returns and leaves what its
-- function's definition says (specs/Zone.antt, specs/Book.antt and those beside them): that is the contract's, which the check proves, as it proves that the
-- call ends, and `Ties` (proofs/Ties.antt, since specs/ cannot name a function's contract) says it of each contract. So the rest is stated of the definitions.
-- Each line is a type that is proved elsewhere; the contract of `promises` (src/promised.rt) names the whole, `Engine`, which stands at the end.
-- Specification, What is promised.
use Rattle.std.specs.Prelude.{◌≡◌, Bool, true, List, ◌++◌, take, ℕ, ◌+◌, ◌*◌, cond, length, Float}
use Rattle.solver.specs.Claims.Worked.{Worked}
use Rattle.solver.specs.Refusals as OfSolves
use Rattle.zone.specs.declared.format.limits.Limits.{Limits}
use Rattle.zone.specs.declared.record.building_element.Kind.{Kind}
use Rattle.zone.specs.declared.record.zone_record.Zone.{Zone}
use Rattle.zone.specs.Promise.{ok}
use Rattle.zone.specs.Record.BuildingElement.{is_two_nodes}
use Rattle.zone.specs.Format.Layout.{shortest_length, longest_length, conditions_length}
use Rattle.zone.specs.Format.ElementLayout.{element_size}
use Rattle.zone.specs.Format.Head.{ReadHead, head_of}
use Rattle.zone.specs.Claims.EachZone.{EachZone}
use Rattle.zone.specs.Claims.Errors as OfZones
use Rattle.zone.specs.Claims.Why.{WhyNumbers}
use Rattle.zone.specs.Claims.FirstFault.{FirstFaults}
use Rattle.zone.specs.Claims.NodeOrder.{NodeOrder}
use Rattle.zone.specs.Claims.HouseP.{HousePClaims, hour_of_p, all_hold, table}
use Rattle.book.specs.Model.Plain.{empty, book, WellFormed}
use Rattle.book.specs.Model.Calls as Calls
use Rattle.book.specs.Model.Session.{CodeTypes, CallSpec}
use Rattle.book.specs.Model.Claims as Book
use Rattle.book.specs.Answers.{rust_types}
use Rattle.book.specs.HouseP.{BeginOfP, BooksOfP}
use Rattle.book.specs.Refusals as OfBooks
use Rattle.book.specs.VersionOrder as Order
use Rattle.book.specs.Rests.{RestClaims}
use Rattle.book.specs.PlantLimits.{PlantClaims, LimitsApart}
use Rattle.book.specs.Year.{Carried, hour_item, year_interface}
use Rattle.tools.specs.Claims.{QuestionClaims}
use Rattle.tools.specs.Refusals as OfQuestions
use Rattle.tools.specs.ConvertClaims.{ConvertClaims}
use Rattle.weather.specs.Claims.{WeatherClaims}
use Rattle.weather.specs.Refusals as OfWeather
use Rattle.hem_zone.specs.Arrays.{limits_of}
use Rattle.hem_zone.specs.Claims.{Claims, ToldApart}
use Rattle.hem_zone.specs.Book.{CBookState, book_state_of, hem_begin_outcome, hem_append_outcome, hem_take_up_outcome}
use Rattle.hem_zone.specs.BookTypes.{answer_of, reply_in, c_types}

-- ---- every call

-- in each layer number and index name one of its own errors
pub record OneErrorEach : Type 0 where
  pub solver : OfSolves.OneError
  pub zone : OfZones.OneError
  pub book : OfBooks.OneError
  pub questions : OfQuestions.OneError
  pub weather : OfWeather.OneError

-- A refusal has its number, changes no lent byte, and hands back the temperatures that were given.
pub record EveryCallTells : Type 0 where
  -- 0 is returned exactly where a call is accepted; else the number and index of one of this call's refusals, and then nothing is written.
  pub refusals : Claims
  -- No two refusals are returned as one number,
  pub told_apart : ToldApart
  -- nor are two errors within the engine.
  pub one_error : OneErrorEach
  -- A refusal tells of the first test, in their order, that does not pass, and of the first element of which it does not;
  pub first_faults : FirstFaults
  -- of calls on a book, of the questions, of the converter and of the weather of a line it is one of these.
  pub books : OfBooks.BookRefusals
  pub questions : OfQuestions.QuestionRefusals
  pub conversion : OfQuestions.ConvertRefusals
  pub weather : OfWeather.WeatherRefusals

-- ---- values

-- sizes in bytes as numbers
pub record Sizes : Type 0 where
  pub shortest_head : shortest_length ≡ 176
  pub longest_head : longest_length ≡ 4157
  pub element : (k : Kind) (treatments : ℕ) → element_size k treatments ≡ cond (is_two_nodes k) (123 + 8 * treatments) 171
  pub conditions : (n : ℕ) → conditions_length n ≡ 113 + 41 * n

-- House P: its head, start-up and hour, and its rows
pub record HouseP : Type 0 where
  pub claims : HousePClaims
  pub hour_size : length hour_of_p ≡ 154
  pub rows : all_hold table ≡ true

-- What an accepted call writes is the value of `init_node_temps`, `operative`, `demand`, `why`, `update_temperatures`, `hour_step` (`writes` in Claims.antt),
-- which are the equations of BS EN ISO 52016-1, each operation rounded once. What else is claimed of them:
pub record ValuesAreTheEquations : Type 0 where
  -- systems that were solved apart from the definitions
  pub worked : Worked
  pub each_zone : (z : Zone) → EachZone z
  -- node order and the solver's slots, there and back
  pub node_order : (two_nodes : List Bool) (count : ℕ) → NodeOrder two_nodes count
  -- the numbers that C has for reasons and loads
  pub why_numbers : WhyNumbers
  pub sizes : Sizes
  pub house_p : HouseP
  -- the weather of a line: a file that is written by the rules is read so
  pub weather : WeatherClaims

-- ---- books

-- Of every list of calls on a year book each answer, the used bytes, count, temperatures and last version are those of the plain book, for whatever the functions
-- returned and left in what they were lent.
pub record ListsOfCalls (T : CodeTypes year_interface) (values : T.Reply → T.BookState) : Type 0 where
  pub whole_lists : Book.WholeLists year_interface T
  -- The lists that this speaks of are all those whose calls may be made, starting with no book or with any that is held;
  pub every_list : Book.SessionFrom year_interface T empty
  pub from_any_book : (head : List ℕ) (is : List year_interface.Item) → WellFormed year_interface head is → Book.SessionFrom year_interface T (book head is)
  -- and what a call left is what the next call on the book is given.
  pub handed_on : Book.HandedOn year_interface T values

-- What the definitions of `hem_begin`, `hem_append` and `hem_take_up` leave is what such a list has of their calls. Of the functions' own contracts the same is
-- the contract of `begin_in_session`, `append_in_session` and `take_up_in_session` (src/session.rt).
pub record CallsInLists : Type 0 where
  pub begin_meets : (head buf : List ℕ) (held : CBookState) (c : ℕ) (out : List ℕ) (after : CBookState) → (c, (out, after)) ≡ hem_begin_outcome head buf held
      → CallSpec year_interface c_types (c, after) out (Calls.begin year_interface head (book_state_of held) buf)
  pub append_meets : (used behind buf : List ℕ) (h : ReadHead Zone) (held : CBookState) (conditions : List ℕ) (version : ℕ) (heating_limit cooling_limit : Float)
      (c : ℕ) (out : List ℕ) (after : CBookState) → head_of used ≡ ok h
      → (c, (out, after)) ≡ hem_append_outcome (take h.length used ++ behind) buf held conditions version heating_limit cooling_limit
      → CallSpec year_interface c_types (c, after) out (Calls.append year_interface h.zone (book_state_of held) (hour_item version conditions (limits_of heating_limit cooling_limit)) buf)
  pub take_up_is : (bytes : List ℕ) (held : CBookState) → hem_take_up_outcome bytes held ≡ reply_in (Calls.take_up year_interface (book_state_of held) bytes)
  pub take_up_meets : (bytes : List ℕ) (held : CBookState) → answer_of (hem_take_up_outcome bytes held) ≡ Calls.take_up year_interface (book_state_of held) bytes

pub record BooksArePlainBooks : Type 0 where
  -- lists of calls of `hem_begin`, `hem_append` and `hem_take_up`, of which a reply has `temps`, `nodes`, `count`, `used` and `last_version`;
  pub c_calls : ListsOfCalls c_types (λ r. r.1)
  pub c_calls_meet : CallsInLists
  -- and of the functions of the book that these call
  pub book_calls : ListsOfCalls rust_types (λ r. r.values)
  -- What else is claimed of books: when two are equal, what a cut leaves, which bytes are taken up.
  pub books : Book.Claims year_interface
  -- Versions never fall, and 18 comes where one would; which rest of the bytes a take-up drops; an append is the hour step with the limits that it names, and ends
  -- as version 2's where its power is within them; and books tell limits apart. That an hour with the fixed rate is appended no more is one of `BookRefusals`.
  pub versions : Order.VersionClaims
  pub rests : (head : List ℕ) (is : List year_interface.Item) (S : WellFormed year_interface head is) → RestClaims head is S
  pub limits : (z : Zone) (given : Calls.BookState Carried) (conditions buf : List ℕ) (l : Limits) → PlantClaims z given conditions buf l
  pub limits_apart : LimitsApart
  -- House P's book: its begin, entry and cuts
  pub begin_of_p : BeginOfP
  pub books_of_p : BooksOfP
  -- The questions over an accepted book are answered of its plain book; the converter writes the plain book of the converted hours, to the bit.
  pub questions : QuestionClaims
  pub conversion : ConvertClaims

-- ---- all of it

pub record Engine : Type 0 where
  pub every_call_tells : EveryCallTells
  pub values_are_the_equations : ValuesAreTheEquations
  pub books_are_plain_books : BooksArePlainBooks
