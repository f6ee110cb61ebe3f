-- What is claimed of the engine as a whole (specs/Engine.antt), from the theorems that prove it.
use Rattle.book.specs.Answers.{rust_types}
use Rattle.hem_zone.specs.BookTypes.{c_types}
use Rattle.solver.proofs.Worked.{worked}
use Rattle.zone.proofs.Claims.ConditionsBytes.{conditions_length_lem}
use Rattle.zone.proofs.Claims.EachZone.{each_zone}
use Rattle.zone.proofs.Claims.FirstFault.{first_faults}
use Rattle.zone.proofs.Claims.HeadBytes.{element_size_lem}
use Rattle.zone.proofs.Claims.HeadRefusals.{shortest_length_lem, longest_length_lem}
use Rattle.zone.proofs.Claims.NodeOrder.{node_order}
use Rattle.zone.proofs.Claims.HouseP.{house_p_lem, hour_of_p_length, claim}
use Rattle.book.proofs.WholeLists as Book
use Rattle.book.proofs.Errors as BookErrors
use Rattle.solver.proofs.Errors as SolverErrors
use Rattle.zone.proofs.Claims.Errors as ZoneErrors
use Rattle.zone.proofs.Claims.Why.{why_numbers}
use Rattle.weather.proofs.Errors as WeatherErrors
use Rattle.book.proofs.Rests.{rest_claims}
use Rattle.book.proofs.PlantLimits.{plant_claims, limits_apart}
use Rattle.book.proofs.HouseP.{begin_of_p, books_of_p}
use Rattle.book.proofs.Refusals.{book_refusals}
use Rattle.book.proofs.VersionOrder as Order
use Rattle.tools.proofs.Claims.{question_claims}
use Rattle.tools.proofs.Errors as QuestionErrors
use Rattle.tools.proofs.Refusals.{question_refusals, convert_refusals}
use Rattle.tools.proofs.ConvertClaims.{convert_claims}
use Rattle.weather.proofs.Claims.{weather_claims}
use Rattle.weather.proofs.Refusals.{weather_refusals}
use Rattle.hem_zone.specs.Engine.{EveryCallTells, ValuesAreTheEquations, ListsOfCalls, BooksArePlainBooks, Engine}
use Rattle.hem_zone.proofs.Claims.{claims}
use Rattle.hem_zone.proofs.ToldApart.{told_apart}
use Rattle.hem_zone.proofs.BookTypes.{handed_on}
use Rattle.hem_zone.proofs.InSession.{begin_meets, append_meets, take_up_is, take_up_meets}
use Rattle.hem_zone.proofs.WholeLists as C

every_call : EveryCallTells
every_call =
    record {
      refusals = claims;
      told_apart = told_apart;
      one_error = record { solver = SolverErrors.one_error; zone = ZoneErrors.one_error; book = BookErrors.one_error; questions = QuestionErrors.one_error; weather = WeatherErrors.one_error };
      first_faults = first_faults;
      books = book_refusals;
      questions = question_refusals;
      conversion = convert_refusals;
      weather = weather_refusals;
    }

values : ValuesAreTheEquations
values =
    record {
      worked = worked;
      each_zone = each_zone;
      node_order = node_order;
      why_numbers = why_numbers;
      sizes = record { shortest_head = shortest_length_lem; longest_head = longest_length_lem; element = element_size_lem; conditions = conditions_length_lem };
      house_p = record { claims = house_p_lem; hour_size = hour_of_p_length; rows = claim };
      weather = weather_claims;
    }

c_calls : ListsOfCalls c_types (λ r. r.1)
c_calls = record { whole_lists = C.whole_lists; every_list = C.session_exactly; from_any_book = C.session_from; handed_on = handed_on }

book_calls : ListsOfCalls rust_types (λ r. r.values)
book_calls = record { whole_lists = Book.whole_lists; every_list = Book.session_exactly; from_any_book = Book.session_from; handed_on = Book.handed_on }

books : BooksArePlainBooks
books =
    record {
      c_calls = c_calls;
      c_calls_meet = record { begin_meets = begin_meets; append_meets = append_meets; take_up_is = take_up_is; take_up_meets = take_up_meets };
      book_calls = book_calls;
      books = Book.year_claims;
      versions = Order.version_claims;
      rests = rest_claims;
      limits = plant_claims;
      limits_apart = limits_apart;
      begin_of_p = begin_of_p;
      books_of_p = books_of_p;
      questions = question_claims;
      conversion = convert_claims;
    }

pub engine : Engine
engine = record { every_call_tells = every_call; values_are_the_equations = values; books_are_plain_books = books }
