-- Number and index name one refusal.
-- Specification, What a refusal is.
use Rattle.std.specs.Prelude.{◌≡◌}
use Rattle.zone.specs.declared.record.refusal.Refusal.{Refusal}
use Rattle.zone.specs.Answers.{number_of, index_of}

-- no two refusals have the same, those of a solve included
abbrev pub OneError : Type 0
OneError = (e e' : Refusal) → number_of e ≡ number_of e' → index_of e ≡ index_of e' → e ≡ e'
