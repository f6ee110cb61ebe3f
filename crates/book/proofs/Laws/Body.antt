-- The two parts of an hour's body: its conditions, and its limits behind them.
use Rattle.std.proofs.Common.{ℕ, ◌-◌, ◌≡◌, refl, sym, ap, ◌∙◌, Bool, true, false, cond, List, [], ◌++◌, arith, T, length, take, drop, length-append, take_at, drop_at}
use lib.Seq.{take-length}
use lib.Ieee.{binary64, fits}
use Rattle.zone.specs.Calls.Hour.{has_limits, hour_step}
use Rattle.zone.specs.Record.BuildingElement.{standard_coefficients}
use Rattle.zone.specs.Format.Limits.{power_limits_size, limits_bytes, limits_in}
use Rattle.zone.specs.declared.record.zone_record.Zone.{Zone}
use Rattle.zone.specs.declared.format.conditions.FixedRate.{FixedRate}
use Rattle.zone.specs.declared.format.limits.Limits.{Limits}
use Rattle.zone.specs.declared.calls.state.State.{State}
use Rattle.zone.proofs.Promise.{limits_back, limits_length_lem, same_limits}
use Rattle.book.specs.Layout.{limits_length}
use Rattle.book.specs.Year.{limits_part, body_conditions, body_limits}

module _ (version : ℕ) (i j : List ℕ) (l : length j ≡ limits_length version) where
  front : length (i ++ j) - limits_length version ≡ length i
  front = omega (arith, l, length-append i j)

  pub conditions_are : body_conditions version (i ++ j) ≡ i
  conditions_are = ap (λ (n : ℕ). take n (i ++ j)) front ∙ take_at i j (length i) refl

  pub limits_are : body_limits version (i ++ j) ≡ limits_in j
  limits_are = ap (λ (n : ℕ). limits_in (drop n (i ++ j))) front ∙ ap limits_in (drop_at i j (length i) refl)

  -- an hour of the body is one of its parts, with the limits that j holds where the version has any
  pub by_parts : (fixed : FixedRate) (z : Zone) (s : State) (l : Limits) → (has_limits version ≡ true → limits_in j ≡ l)
      → hour_step fixed standard_coefficients z version (body_limits version (i ++ j)) s (body_conditions version (i ++ j)) ≡ hour_step fixed standard_coefficients z version l s i
  by_parts fixed z s l holds =
      (λ t. hour_step fixed standard_coefficients z version (limits_are t) s (conditions_are t)) ∙ same_limits fixed standard_coefficients z version (limits_in j) l s i holds

-- those of a call
pub part_length : (version : ℕ) (l : Limits) → length (limits_part version l) ≡ limits_length version
part_length version l = go (has_limits version)
  where
    go : (b : Bool) → length (cond b (limits_bytes l) []) ≡ cond b power_limits_size 0
    go true = limits_length_lem l
    go false = refl

-- and as the code cuts them out of their 16 bytes
pub part_cut : (version : ℕ) (l : Limits) (b : List ℕ) (n : ℕ) → b ≡ limits_bytes l → n ≡ limits_length version → take n b ≡ limits_part version l
part_cut version l b n b_is n_is = (λ t. take (n_is t) (b_is t)) ∙ go (has_limits version)
  where
    go : (b : Bool) → take (cond b power_limits_size 0) (limits_bytes l) ≡ cond b (limits_bytes l) []
    go true = ap (λ (k : ℕ). take k (limits_bytes l)) (sym (limits_length_lem l)) ∙ take-length (limits_bytes l)
    go false = refl

pub part_back : (version : ℕ) (l : Limits) → T (fits binary64 l.heating) → T (fits binary64 l.cooling) → has_limits version ≡ true → limits_in (limits_part version l) ≡ l
part_back version l h c e = rw e (limits_back l h c)
