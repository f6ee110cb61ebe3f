-- Which numbers and indices the questions and the converter can be refused with: those of the take-up, then their own.
-- Specification, Order of tests; Table of refusals.
use Rattle.std.specs.Prelude.{ℕ, ◌≡◌, List, Float}
use Rattle.zone.specs.Promise.{RefusesOnly}
use Rattle.book.specs.Refusals.{TakeUpRefusal}
use Rattle.book.specs.Numbers.{buffer_short}
use Rattle.tools.specs.Numbers.{question_value, version_1_entry}
use Rattle.tools.specs.Convert.{convert_in}
use Rattle.tools.specs.Questions.{first_above_in, hours_within_in, nearest_hour_in}
use Rattle.tools.specs.Answers.{number_of, index_of}
use Rattle.tools.specs.declared.question_error.QuestionError.{QuestionError}

pub data QuestionRefusal : (number index : ℕ) → Type 0 where
  question_take_up : {number index : ℕ} → TakeUpRefusal number index → QuestionRefusal number index
  question_invalid : QuestionRefusal question_value 0

-- The take-up's; 24, an entry of version 1; 16, the output shorter than the used length.
pub data ConvertRefusal : (number index : ℕ) → Type 0 where
  convert_take_up : {number index : ℕ} → TakeUpRefusal number index → ConvertRefusal number index
  convert_version_1 : ConvertRefusal version_1_entry 0
  convert_buffer_short : ConvertRefusal buffer_short 0

-- for every input
pub record QuestionRefusals : Type 0 where
  pub first_above : (bytes : List ℕ) (value : Float) → RefusesOnly QuestionRefusal (first_above_in bytes value)
  pub hours_within_lem : (bytes : List ℕ) (lower upper : Float) → RefusesOnly QuestionRefusal (hours_within_in bytes lower upper)
  pub nearest_hour_lem : (bytes : List ℕ) (value : Float) → RefusesOnly QuestionRefusal (nearest_hour_in bytes value)

abbrev pub ConvertRefusals : Type 0
ConvertRefusals = (bytes out : List ℕ) → RefusesOnly ConvertRefusal (convert_in bytes out)

-- no two errors of a question have the same number and index
abbrev pub OneError : Type 0
OneError = (e e' : QuestionError) → number_of e ≡ number_of e' → index_of e ≡ index_of e' → e ≡ e'
