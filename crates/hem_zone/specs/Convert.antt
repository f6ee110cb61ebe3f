-- The converter (tools specs/Convert.antt). The definition gives the returned number, then what stands in `out`, `count` and `used` after the call.
-- Specification, Conversion; Answers in C.
use Rattle.std.specs.Prelude.{ℕ, List, length}
use Rattle.tools.specs.Convert.{ConvertedBook, output, convert_in}
use Rattle.hem_zone.specs.Code.{answered}

abbrev pub converted_out : (out : List ℕ) → ConvertedBook → List ℕ × (ℕ × ℕ)
converted_out out b = (output b out, (b.count, length b.bytes))

unfoldable pub hem_convert_outcome : (bytes out : List ℕ) → (count used : ℕ) → ℕ × (List ℕ × (ℕ × ℕ))
hem_convert_outcome bytes out count used = answered (converted_out out) (out, (count, used)) (convert_in bytes out)
