-- Whole lists of calls of hem_begin, hem_append and hem_take_up.
use Rattle.std.proofs.Common.{List, ℕ}
use Rattle.book.specs.Model.Plain.{empty, book, WellFormed}
use Rattle.book.specs.Model.Claims.{WholeLists, SessionFrom}
use Rattle.book.specs.Year.{year_interface}
use Rattle.book.proofs.WholeLists.{whole_lists_at, session_exactly_at, session_from_at}
use Rattle.hem_zone.specs.BookTypes.{c_types}
use Rattle.hem_zone.proofs.BookTypes.{c_laws}

-- For every list of calls that starts with no book, of begins, appends, cuts and take-ups with whatever arguments, and for whatever `hem_begin`, `hem_append`
-- and `hem_take_up` returned and left in what they were lent, of which a session holds what their contracts ensure and nothing else (src/session.rt): what
-- each returned number stands for, each `temps`, `nodes`, `count`, `used` and `last_version`, each buffer, byte for byte, and the book held after each call
-- are those of the plain book, which is fed the calls' arguments only.
pub whole_lists : WholeLists year_interface c_types
whole_lists = whole_lists_at c_types c_laws

-- The lists of calls that have a session are those whose calls may all be made, and the contracts of `hem_begin`, `hem_append` and `hem_take_up` leave
-- each of these one list of events, the plain book's.
pub session_exactly : SessionFrom year_interface c_types empty
session_exactly = session_exactly_at c_types c_laws

-- The same from any book that is held, be it by a list of calls or by any accepted bytes.
pub session_from : (head : List ℕ) (is : List year_interface.Item) → WellFormed year_interface head is → SessionFrom year_interface c_types (book head is)
session_from = session_from_at c_types c_laws
