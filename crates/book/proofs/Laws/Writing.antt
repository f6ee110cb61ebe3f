-- An entry part by part: what the writers leave in the buffer, one behind the other.
use Rattle.std.proofs.Common.{ℕ, ◌+◌, ◌%◌, ◌≡◌, refl, sym, ap, ◌∙◌, Bool, List, [], ◌∷◌, ◌++◌, append_assoc, arith, length, take, replicate, length-append, Float}
use Rattle.std.specs.Prelude.{None, Option, Some}
use Rattle.std.specs.Prelude.{nat_eq}
use Rattle.std.specs.List.{starts_with}
use Rattle.std.specs.Int.{w32, to_be_bytes}
use Rattle.book.proofs.Laws.Loops.{four_bytes, compared}
use Rattle.zone.specs.Format.Bytes.{bytes_of}
use Rattle.zone.proofs.Promise.{length_row, limits_length_lem}
use Rattle.zone.specs.Format.Limits.{power_limits_size, limits_bytes}
use Rattle.zone.specs.declared.format.limits.Limits.{Limits}
use Rattle.zone.specs.declared.record.zone_record.Zone.{Zone}
use Rattle.zone.specs.declared.calls.state.State.{State}
use Rattle.zone.specs.declared.calls.state.Demand.{Demand}
use Rattle.book.specs.Model.Bytes.{equal_bytes}
use Rattle.zone.specs.Format.Encode.{float_bytes, row_bytes}
use Rattle.book.specs.Inner.Start.{with_start}
use Rattle.zone.specs.Format.Layout.{length_size}
use Rattle.book.specs.Layout.{version_size, front_size, following_length, whole_length}
use Rattle.book.specs.Inner.Sizes.{trigger_size, rates_size, demand_size}
use Rattle.book.specs.Entry.{front_bytes, trigger_bytes, demand_bytes, temperature_bytes, entry_of}
use Rattle.book.proofs.Laws.Start.{part_from, with_part, start_behind, start_taken, start_whole}
use Rattle.book.proofs.Laws.Entry.{length_front, length_demand}

module _ (b b₁ x : List ℕ) where
  pub front_written : (z : Zone) (version m : ℕ) → m ≡ following_length z version
      → b₁ ≡ with_start (to_be_bytes w32 m) b → x ≡ with_start (version % 256 ∷ []) (part_from length_size b₁) → with_part length_size b₁ x ≡ with_start (front_bytes z version) b
  unfolding bytes_of
  front_written z version m l e₁ e₂ =
      start_behind length_size (to_be_bytes w32 m) (version % 256 ∷ []) b b₁ x refl e₁ e₂
      ∙ (λ i. with_start ((four_bytes m ∙ ap (bytes_of length_size) l) i ++ bytes_of version_size version) b)

  module _ (t : Option Float) where
    pub trigger_absent : t ≡ None → b₁ ≡ with_start (replicate trigger_size 0) b → b₁ ≡ with_start (trigger_bytes t) b
    unfolding bytes_of
    trigger_absent f e = e ∙ ap (λ (y : Option Float). with_start (trigger_bytes y) b) (sym f)

    pub trigger_at : (rate : Float) → t ≡ Some rate → b₁ ≡ with_start (1 ∷ []) b → x ≡ with_start (float_bytes rate) (part_from 1 b₁)
        → with_part 1 b₁ x ≡ with_start (trigger_bytes t) b
    unfolding bytes_of
    trigger_at rate f e₁ e₂ =
        start_behind 1 (1 ∷ []) (float_bytes rate) b b₁ x refl e₁ e₂
        ∙ ap (λ (y : Option Float). with_start (trigger_bytes y) b) (sym f)

  pub demand_written : (d : Demand) → b₁ ≡ with_start (row_bytes (d.space_heat_demand ∷ d.space_cool_demand ∷ d.ach_cooling ∷ [])) b
      → x ≡ with_start (trigger_bytes d.ach_to_trigger_heating) (part_from rates_size b₁) → with_part rates_size b₁ x ≡ with_start (demand_bytes d) b
  demand_written d e₁ e₂ =
      let row = d.space_heat_demand ∷ d.space_cool_demand ∷ d.ach_cooling ∷ [] in
      start_behind rates_size (row_bytes row) (trigger_bytes d.ach_to_trigger_heating) b b₁ x (sym (length_row row)) e₁ e₂

-- the limits fill their 16 bytes
pub limits_written : (l : Limits) (b : List ℕ) → b ≡ with_start (row_bytes (l.heating ∷ l.cooling ∷ [])) (replicate power_limits_size 0) → b ≡ limits_bytes l
unfolding row_bytes
limits_written l b e = e ∙ start_whole (limits_bytes l) (replicate power_limits_size 0) (limits_length_lem l)

module _ (z : Zone) (version : ℕ) (i j : List ℕ) (d : Demand) (s : State) where
  -- x₂ to x₅ are the parts of the buffer that are lent one after the other, once they are written
  module _ (b b₁ x₂ x₃ x₄ x₅ : List ℕ) where
    abbrev limits_at : ℕ
    limits_at = front_size + length i

    abbrev demand_at : ℕ
    demand_at = limits_at + length j

    abbrev b₂ : List ℕ
    b₂ = with_part front_size b₁ x₂

    abbrev b₃ : List ℕ
    b₃ = with_part limits_at b₂ x₃

    abbrev b₄ : List ℕ
    b₄ = with_part demand_at b₃ x₄

    pub entry_written : b₁ ≡ with_start (front_bytes z version) b
        → x₂ ≡ with_start i (part_from front_size b₁)
        → x₃ ≡ with_start j (part_from limits_at b₂)
        → x₄ ≡ with_start (demand_bytes d) (part_from demand_at b₃)
        → x₅ ≡ with_start (temperature_bytes z s) (part_from (demand_at + demand_size) b₄)
        → with_part (demand_at + demand_size) b₄ x₅ ≡ with_start (entry_of z version (i ++ j) d s) b
    unfolding entry_of
    entry_written e₁ e₂ e₃ e₄ e₅ =
        let front = front_bytes z version in
        let l₁ = length_front z version in
        let f₂ : b₂ ≡ with_start (front ++ i) b = start_behind front_size front i b b₁ x₂ (sym l₁) e₁ e₂ in
        let l₂ = length-append front i in
        let f₃ : b₃ ≡ with_start (front ++ i ++ j) b = start_behind limits_at (front ++ i) j b b₂ x₃ (omega arith) f₂ e₃ in
        let l₃ = length-append (front ++ i) j in
        let f₄ : b₄ ≡ with_start (front ++ i ++ j ++ demand_bytes d) b = start_behind demand_at (front ++ i ++ j) (demand_bytes d) b b₃ x₄ (omega arith) f₃ e₄ in
        let l₄ = length-append (front ++ i ++ j) (demand_bytes d) in
        start_behind (demand_at + demand_size) (front ++ i ++ j ++ demand_bytes d) (temperature_bytes z s) b b₄ x₅ (omega (arith, length_demand d)) f₄ e₅
        ∙ ap (λ (y : List ℕ). with_start y b)
        (append_assoc (front ++ i ++ j) (demand_bytes d) (temperature_bytes z s)
        ∙ ap (λ (y : List ℕ). y ++ (demand_bytes d ++ temperature_bytes z s)) (append_assoc front i j)
        ∙ append_assoc front (i ++ j) (demand_bytes d ++ temperature_bytes z s))

  -- the entry written anew into a buffer's start, compared with a whole entry
  pub entry_compared : (c b b₁ : List ℕ) (t : Bool) → length c ≡ whole_length z version → length (entry_of z version (i ++ j) d s) ≡ whole_length z version
      → b₁ ≡ with_start (entry_of z version (i ++ j) d s) b → t ≡ starts_with nat_eq b₁ c → t ≡ equal_bytes (entry_of z version (i ++ j) d s) c
  entry_compared c b b₁ t l m e f =
      f ∙ compared (take (length c) b₁) c ∙ ap (λ (y : List ℕ). equal_bytes y c) (ap (take (length c)) e ∙ start_taken (entry_of z version (i ++ j) d s) b (length c) (m ∙ sym l))
