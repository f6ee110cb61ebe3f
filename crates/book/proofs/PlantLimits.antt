-- An append's whole outcome by the hour step with the call's own limits, and what follows.
use Rattle.std.proofs.Common.{ℕ, ◌+◌, ◌*◌, ◌≡◌, refl, sym, ap, ◌∙◌, ◌⊎◌, inl, inr, Bool, true, false, List, ◌++◌, arith, leb, ltb, length}
use borrow.Author.Tests.{lt-leb}
use Rattle.zone.specs.Promise.{Result, ok, refused, bind, require, require_at}
use Rattle.zone.proofs.Promise.{bind_ok, ok_inj}
use Rattle.zone.specs.Record.BuildingElement.{node_count, standard_coefficients}
use Rattle.zone.specs.Check.ZoneTest.{zone_test}
use Rattle.zone.specs.declared.record.zone_record.Zone.{Zone}
use Rattle.zone.specs.declared.format.conditions.Conditions.{Conditions}
use Rattle.zone.specs.declared.format.conditions.FixedRate.TheVariants.{Retired}
use Rattle.zone.specs.declared.format.limits.Limits.{Limits}
use Rattle.zone.specs.declared.calls.state.Demand.{Demand}
use Rattle.zone.specs.Calls.Hour.{power_limits_range, tested, demand, delivered, HourResult, hour_step}
use Rattle.zone.specs.Claims.Versions.{Within}
use Rattle.zone.proofs.Claims.Versions as Hours
use Rattle.book.specs.Numbers.{buffer_short, book_full, false_entry}
use Rattle.book.specs.Layout.{most_entries, whole_length}
use Rattle.book.specs.Entry.{entry_of}
use Rattle.book.specs.Model.Calls.{BookState, append_res}
use Rattle.book.specs.Year.{body_of, Carried, may_follow, limits_part, hour_entry, body_limits, body_conditions}
use Rattle.book.specs.PlantLimits.{AreF64, appended, append, PlantClaims, LimitsApart}
use Rattle.book.proofs.Laws.Body.{by_parts, conditions_are, limits_are, part_length, part_back}
use Rattle.book.proofs.Laws.Accepted.{hour_entry_lem}

module _ (z : Zone) (given : BookState Carried) (conditions buf : List ℕ) (l : Limits) (f : AreF64 l) where
  module _ (version : ℕ) where
    -- the hour's body
    abbrev body : List ℕ
    body = conditions ++ limits_part version l

    abbrev hour_of : Result HourResult
    hour_of = hour_step Retired standard_coefficients z version l given.state.state conditions

    of_body : hour_step Retired standard_coefficients z version (body_limits version body) given.state.state (body_conditions version body) ≡ hour_of
    of_body = by_parts version conditions (limits_part version l) (part_length version l) Retired z given.state.state l (part_back version l f.heating f.cooling)

    -- an accepted hour's entry has its version's length
    entry_long : (h : HourResult) → hour_of ≡ ok h → length (entry_of z version body h.demand h.state) ≡ whole_length z version
    entry_long h e = hour_entry_lem Retired z version given.state.state body h (of_body ∙ e)

    abbrev Whole : Type 0
    Whole = append z given conditions buf l version ≡ (
        bind (zone_test z) λ _.
        bind (require (ltb given.count most_entries) book_full) λ _.
        bind (require_at (may_follow given.state.last_version version) false_entry given.count) λ _.
        bind hour_of λ h.
        bind (require (leb (given.used + whole_length z version) (length buf)) buffer_short) λ _.
        ok (appended z given conditions buf l version h))

    whole : Whole
    unfolding append_res hour_entry
    whole = by_zone (zone_test z) refl
      where
        by_hour : zone_test z ≡ ok tt → ltb given.count most_entries ≡ true → may_follow given.state.last_version version ≡ true → (x : Result HourResult) → hour_of ≡ x → Whole
        by_hour p q k (ok h) e = rw (p, q, k, of_body, e, entry_long h e) refl
        by_hour p q k (refused n i) e = rw (p, q, k, of_body, e) refl

        by_version : zone_test z ≡ ok tt → ltb given.count most_entries ≡ true → (b : Bool) → may_follow given.state.last_version version ≡ b → Whole
        by_version p q true k = by_hour p q k hour_of refl
        by_version p q false k = rw (p, q, k) refl

        by_count : zone_test z ≡ ok tt → (b : Bool) → ltb given.count most_entries ≡ b → Whole
        by_count p true q = by_version p q (may_follow given.state.last_version version) refl
        by_count p false q = rw (p, q) refl

        by_zone : (x : Result (Unit {0})) → zone_test z ≡ x → Whole
        by_zone (ok u) p = by_count p (ltb given.count most_entries) refl
        by_zone (refused n i) p = rw p refl

    -- an accepted append has its hour
    accepted : (r : BookState Carried × List ℕ) → append z given conditions buf l version ≡ ok r → (h : HourResult) × (hour_of ≡ ok h) × (r ≡ appended z given conditions buf l version h)
    accepted r e =
        let t = bind_ok (zone_test z) _ r (sym whole ∙ e) in
        let c = bind_ok (require (ltb given.count most_entries) book_full) _ r t.2 in
        let v = bind_ok (require_at (may_follow given.state.last_version version) false_entry given.count) _ r c.2 in
        let h = bind_ok hour_of _ r v.2 in
        let b = bind_ok (require (leb (given.used + whole_length z version) (length buf)) buffer_short) _ r h.2 in
        (h.0, h.1, sym (ok_inj b.2))

  within_limits : power_limits_range l ≡ true
      → ((h : Conditions) (d : Demand) → tested Retired z given.state.state conditions ≡ ok h → demand Retired standard_coefficients z given.state.state conditions ≡ ok d → Within l (delivered h d))
      → (r r' : BookState Carried × List ℕ) → append z given conditions buf l 3 ≡ ok r → append z given conditions buf l 2 ≡ ok r'
      → (h : HourResult) × (r ≡ appended z given conditions buf l 3 h) × (r' ≡ appended z given conditions buf l 2 h)
  within_limits k w r r' e e' =
      let three = accepted 3 r e in
      let two = accepted 2 r' e' in
      let same = (Hours.version_claims Retired standard_coefficients z given.state.state conditions).within_limits l k w in
      (two.0, three.2 ∙ ap (appended z given conditions buf l 3) (ok_inj (sym three.1 ∙ same ∙ two.1)), two.2)

length_of : (z : Zone) (version : ℕ) → (version ≡ 1) ⊎ (version ≡ 2) → whole_length z version ≡ 151 + 41 * z.count + 8 * node_count z
length_of z version (inl e) = rw e (omega arith)
length_of z version (inr e) = rw e (omega arith)

pub plant_claims : (z : Zone) (given : BookState Carried) (conditions buf : List ℕ) (l : Limits) → PlantClaims z given conditions buf l
plant_claims z given conditions buf l =
    record {
      whole = whole z given conditions buf l;
      size = length_of z;
      size_3 = omega arith;
      within_limits = within_limits z given conditions buf l;
    }

-- ---- limits told apart

pub limits_apart : LimitsApart
limits_apart =
    record {
      version_3 = λ c c' l l' f f' e.
          let b : c ++ limits_part 3 l ≡ c' ++ limits_part 3 l' = ap body_of e in (
            sym (conditions_are 3 c (limits_part 3 l) (part_length 3 l)) ∙ ap (body_conditions 3) b ∙ conditions_are 3 c' (limits_part 3 l') (part_length 3 l'),
            sym (part_back 3 l f.heating f.cooling refl)
                ∙ sym (limits_are 3 c (limits_part 3 l) (part_length 3 l))
                ∙ ap (body_limits 3) b
                ∙ limits_are 3 c' (limits_part 3 l') (part_length 3 l')
                ∙ part_back 3 l' f'.heating f'.cooling refl,
          );
      earlier = λ version k c l l'. rw (lt-leb 3 version k) refl;
    }
