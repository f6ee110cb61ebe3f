-- The first record of a rest: by its size and its version byte.
use Rattle.std.proofs.Common.{ℕ, ◌≤◌, ◌<◌, ◌≡◌, refl, sym, ap, subst, ◌∙◌, Bool, true, false, List, arith, leb, length, take, length-take-le, get_or-take, leb-true, leb-false, le-leb}
use Rattle.std.specs.Prelude.{Some}
use Rattle.std.specs.Prelude as Rust
use mathlib.Core.Option.{none, some}
use lib.Seq.{take-length}
use borrow.Author.Tests.{lt-leb}
use Rattle.zone.specs.Calls.Hour.{hour_version}
use Rattle.zone.specs.Format.Layout.{version_at, version_in}
use Rattle.zone.specs.declared.record.zone_record.Zone.{Zone}
use Rattle.book.specs.Layout.{front_size, whole_length}
use Rattle.book.specs.Year.{entry_length}
use Rattle.book.specs.Inner.Record.{record_length}
use Rattle.book.proofs.Model.Laws.Bytes.{none_not_some, some_inj}

module _ (z : Zone) (rest : List ℕ) where
  -- under 5 bytes
  pub rest_under : length rest < front_size → entry_length z rest ≡ none
  unfolding entry_length
  rest_under h = rw (lt-leb front_size (length rest) h) refl

  module _ (five : front_size ≤ length rest) where
    -- shorter than its version byte calls for
    pub rest_short : hour_version (version_in rest) ≡ true → length rest < whole_length z (version_in rest) → entry_length z rest ≡ none
    unfolding entry_length
    rest_short k h = rw (le-leb front_size (length rest) five, k, lt-leb (whole_length z (version_in rest)) (length rest) h) refl

    pub rest_whole : hour_version (version_in rest) ≡ true → whole_length z (version_in rest) ≤ length rest → entry_length z rest ≡ some (whole_length z (version_in rest))
    unfolding entry_length
    rest_whole k h = rw (le-leb front_size (length rest) five, k, le-leb (whole_length z (version_in rest)) (length rest) h) refl

    -- an unknown version byte
    pub rest_unknown : hour_version (version_in rest) ≡ false → entry_length z rest ≡ some (length rest)
    unfolding entry_length
    rest_unknown k = rw (le-leb front_size (length rest) five, k) refl

-- the same, by the version and the length that the code holds
module _ (z : Zone) (rest : List ℕ) (five : front_size ≤ length rest) (version : ℕ) (v : version ≡ version_in rest) (known : Bool) (k : known ≡ hour_version version) where
  is_known : hour_version (version_in rest) ≡ known
  is_known = ap hour_version (sym v) ∙ sym k

  pub record_unknown : known ≡ false → some (length rest) ≡ entry_length z rest
  record_unknown f = sym (rest_unknown z rest five (is_known ∙ f))

  module _ (t : known ≡ true) (n : ℕ) (n_is : n ≡ whole_length z version) where
    whole_is : n ≡ whole_length z (version_in rest)
    whole_is = n_is ∙ ap (whole_length z) v

    pub record_short : length rest < n → none ≡ entry_length z rest
    record_short h = sym (rest_short z rest five (is_known ∙ t) (subst (λ (m : ℕ). length rest < m) whole_is h))

    pub record_whole : n ≤ length rest → some n ≡ entry_length z rest
    record_whole h = ap some whole_is ∙ sym (rest_whole z rest five (is_known ∙ t) (subst (λ (m : ℕ). m ≤ length rest) whole_is h))

-- what a rest that begins with a whole record is
pub data Begins (z : Zone) (rest : List ℕ) : (n : ℕ) → Type 0 where
  entire : front_size ≤ length rest → hour_version (version_in rest) ≡ true → whole_length z (version_in rest) ≤ length rest → Begins z rest (whole_length z (version_in rest))
  unknown : front_size ≤ length rest → hour_version (version_in rest) ≡ false → Begins z rest (length rest)

module _ (z : Zone) (rest : List ℕ) (n : ℕ) (e : entry_length z rest ≡ some n) where
  pub begins : Begins z rest n
  begins = by_size (leb front_size (length rest)) refl
    where
      by_length : front_size ≤ length rest → hour_version (version_in rest) ≡ true → (b : Bool) → leb (whole_length z (version_in rest)) (length rest) ≡ b → Begins z rest n
      by_length five k true t =
          let h = leb-true (whole_length z (version_in rest)) (length rest) t in
          rw (← some_inj (sym (rest_whole z rest five k h) ∙ e)) (entire five k h)
      by_length five k false t = none_not_some n (sym (rest_short z rest five k (leb-false (whole_length z (version_in rest)) (length rest) t)) ∙ e)

      by_version : front_size ≤ length rest → (b : Bool) → hour_version (version_in rest) ≡ b → Begins z rest n
      by_version five true k = by_length five k (leb (whole_length z (version_in rest)) (length rest)) refl
      by_version five false k = rw (← some_inj (sym (rest_unknown z rest five k) ∙ e)) (unknown five k)

      by_size : (b : Bool) → leb front_size (length rest) ≡ b → Begins z rest n
      by_size true t = by_version (leb-true front_size (length rest) t) (hour_version (version_in rest)) refl
      by_size false t = none_not_some n (sym (rest_under z rest (leb-false front_size (length rest) t)) ∙ e)

-- it has its front, and lies within the rest
pub begins_within : (z : Zone) (rest : List ℕ) (n : ℕ) → Begins z rest n → (front_size ≤ n) × (n ≤ length rest)
begins_within z rest n (entire five k h) = (omega arith, h)
begins_within z rest n (unknown five k) = (five, omega arith)

pub record_bounds : (z : Zone) (rest : List ℕ) (r : Rust.Option ℕ) → record_length r ≡ entry_length z rest → (n : ℕ) → r ≡ Some n → (front_size ≤ n) × (n ≤ length rest)
record_bounds z rest r e n f = begins_within z rest n (begins z rest n (sym e ∙ ap record_length f))

-- of a version that hours have it has that version's length
pub begins_known : (z : Zone) (rest : List ℕ) (n : ℕ) → Begins z rest n → hour_version (version_in rest) ≡ true → n ≡ whole_length z (version_in rest)
begins_known z rest n (entire five k h) e = refl
begins_known z rest n (unknown five k) e = absurd (let x : ◌≡◌ {A = ℕ} 0 1 = cc in omega arith)

-- the record alone is whole too
pub record_alone : (z : Zone) (rest : List ℕ) (n : ℕ) → Begins z rest n → entry_length z (take n rest) ≡ some (length (take n rest))
record_alone z rest n (entire five k h) =
    let m = whole_length z (version_in rest) in
    let long : length (take m rest) ≡ m = length-take-le m rest h in
    let same : version_in (take m rest) ≡ version_in rest = get_or-take m rest version_at 0 (omega arith) in
    rest_whole z (take m rest) (omega (arith, long)) (rw same k) (rw same (omega (arith, long))) ∙ rw same (ap some (sym long))
record_alone z rest n (unknown five k) = rw (take-length rest) (rest_unknown z rest five k)
