-- No book, or a well-formed one.
use Rattle.book.specs.Model.Interface.{Interface}
use Rattle.book.specs.Model.Plain.{Plain, empty, book, WellFormed}

abbrev pub PlainFormed : (L : Interface) → Plain L.Item → Type 0
PlainFormed L empty = Unit {0}
PlainFormed L (book head is) = WellFormed L head is
