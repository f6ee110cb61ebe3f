-- What the answer on a head tells of the definition that it meets.
use Rattle.std.proofs.Common.{ℕ, ◌≡◌, sym, ap, ◌∙◌}
use Rattle.std.specs.Prelude.{Ok, Err}
use Rattle.std.specs.Prelude as Rust
use Rattle.solver.specs.Result.{Result, ok, refused}
use Rattle.zone.specs.Answers.{number_of, index_of}
use Rattle.zone.specs.Format.Head.{ReadHead}
use Rattle.zone.specs.Inner.Head.{head_read}
use Rattle.zone.specs.declared.record.refusal.Refusal.{Refusal}
use Rattle.zone.specs.declared.record.zone_record.Zone.{Zone}

module _ (d : Result (ReadHead Zone)) (x : Rust.Result ℕ Refusal) (z : Zone) (e : head_read x z ≡ d) where
  pub head_no : (r : Refusal) → x ≡ Err r → d ≡ refused (number_of r) (index_of r)
  head_no r f = sym e ∙ ap (λ y. head_read y z) f

  pub head_yes : (n : ℕ) → x ≡ Ok n → d ≡ ok (record { zone = z; length = n })
  head_yes n f = sym e ∙ ap (λ y. head_read y z) f
