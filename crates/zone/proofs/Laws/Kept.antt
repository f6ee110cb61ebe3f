-- Factors that are kept: the same directions, open treatments and timestep give the same, and the hour's own give its system's. What is
-- held after an hour, and what `keep_factors` leaves.
use Rattle.std.proofs.Common.{◌≡◌, refl, sym, ap, subst, ◌∙◌, Bool, true, false, cond, List, [], ◌∷◌, ℕ, ◌<◌, ◌≤◌, arith, T, length, get_or, replicate, Float, to_bits, eqb-true}
use lib.Ieee.{nan, binary64, of_bits, fits}
use lib.Ieee.Bits.{of_bits-to_bits}
use Rattle.solver.specs.F64.{zero64}
use Rattle.solver.specs.FastSolver.{at_most24}
use Rattle.solver.specs.Promise.{column_of, columns, factor_apart}
use Rattle.zone.specs.declared.record.building_element.Element.{Element}
use Rattle.zone.specs.declared.record.building_element.ElementHour.{ElementHour}
use Rattle.zone.specs.declared.record.building_element.HeatFlowDirection.{HeatFlowDirection}
use Rattle.zone.specs.declared.record.building_element.HeatFlowDirection.TheVariants.{Horizontal}
use Rattle.zone.specs.declared.record.zone_record.Zone.{Zone}
use Rattle.zone.specs.Record.BuildingElement.{h_ci_of, h_ci}
use Rattle.zone.specs.Physics.Slots.{element_hour, with_terms}
use Rattle.zone.specs.Physics.System.{area_of, area_el_total, share_of, direction_at, h_ci_at, two_nodes_of}
use Rattle.zone.specs.Inner.Assembly.{convective_by, Chains, chains, element_rows}
use Rattle.zone.specs.Inner.Assembled.{h_ri_of, convective_sum, element_chains, couplings_of}
use Rattle.zone.specs.Inner.Kept.{h_ci_in, rows_by, chains_by, couplings_by, convective_by_sum, Factors, factors, factors_in, factors_by, FactorsOf, Arrays, arrays, zeros, Held, held, none_held, factors_held, numbers_held, numbers_by, Key, same_key, emptied, held_with, keep_factors, Kept}
use Rattle.solver.proofs.Promise.{and_true}
use Rattle.zone.proofs.Laws.Key.{elements_same}
use Rattle.zone.proofs.Laws.Terms.{repeat_same, terms_at}
use Rattle.zone.proofs.Laws.Agree.{Agree, sum2_same, convective_agree, couplings_same}
use Rattle.zone.specs.declared.record.building_element.Coefficients.{Coefficients}

module _ (co : Coefficients) where
  -- h_ci by the directions that an hour stores
  pub h_ci_in_lem : (n : ℕ) (es : List Element) (t : List Float) (directions : List HeatFlowDirection) → n ≤ 24 →
      directions ≡ with_terms n (direction_at co es t) (replicate 24 Horizontal) → Agree n (h_ci_in co directions) (h_ci_at co es t)
  unfolding h_ci
  h_ci_in_lem n es t directions small h e he =
      let small' : n ≤ length (replicate 24 Horizontal) = small in
      ap (λ (l : List HeatFlowDirection). h_ci_of co (get_or l e Horizontal)) h
      ∙ ap (h_ci_of co) (terms_at (direction_at co es t) Horizontal n (replicate 24 Horizontal) e he small')

  -- the parts of the matrix, of h_ci and open treatments that agree
  module _ (n : ℕ) (es : List Element) (f g : ℕ → Float) (p : Agree n f g) where
    pub chains_agree : (opens opens' : List ℕ) → ((e : ℕ) → e < n → get_or opens e 0 ≡ get_or opens' e 0) → (dt : Float) (s : Chains) →
        chains_by n es opens dt f s ≡ chains_by n es opens' dt g s
    unfolding chains_by rows_by
    chains_agree opens opens' q dt s =
        repeat_same (rows_by es opens dt f (share_of n es)) (rows_by es opens' dt g (share_of n es)) n s (λ e h x. rw (p e h, q e h) refl)

    pub couplings_agree : (m : List Float) → couplings_by n es f m ≡ couplings_by n es g m
    unfolding couplings_by
    couplings_agree m =
        couplings_same n f g (share_of n es) (share_of n es) p (λ e h. refl) (area_of es) (area_of es) (h_ri_of es) (h_ri_of es) m (λ e h. refl) (λ e h. refl)

    pub sum_agree : convective_by_sum n es f ≡ convective_by_sum n es g
    unfolding convective_by_sum
    sum_agree = sum2_same n (convective_by (area_of es) f) (convective_by (area_of es) g) (convective_agree n (area_of es) (area_of es) f g (λ e h. refl) p)

  -- of an hour they are the system's
  module _ (n : ℕ) (small : n ≤ 24) (es : List Element) (t : List Float) where
    abbrev own : ℕ → Float
    own = h_ci_at co es t

    pub chains_own : (hours : List ElementHour) (opens : List ℕ) → ((e : ℕ) → e < 24 → get_or opens e 0 ≡ (element_hour hours e).treatments_open) → (dt : Float) (s : Chains) →
        chains_by n es opens dt own s ≡ element_chains co n es hours dt t s
    unfolding chains_by rows_by element_chains element_rows
    chains_own hours opens opened dt s =
        repeat_same (rows_by es opens dt own (share_of n es)) (element_rows es hours dt own (share_of n es)) n s
        (λ e h x. rw (opened e (omega arith)) refl)

    pub couplings_own : (m : List Float) → couplings_by n es own m ≡ couplings_of co n es t m
    unfolding couplings_by couplings_of
    couplings_own m = refl

    pub sum_own : convective_by_sum n es own ≡ convective_sum co n es t
    unfolding convective_by_sum convective_sum
    sum_own = refl

  -- the same directions and open treatments
  module _ (z : Zone) (d d' : List HeatFlowDirection) (o o' : List ℕ) (same : (e : ℕ) → e < at_most24 z.count → get_or d e Horizontal ≡ get_or d' e Horizontal)
      (opened : (e : ℕ) → e < at_most24 z.count → get_or o e 0 ≡ get_or o' e 0) where
    abbrev n : ℕ
    n = at_most24 z.count

    abbrev es : List Element
    es = z.building_elements

    agree : Agree n (h_ci_in co d) (h_ci_in co d')
    agree e h = ap (h_ci_of co) (same e h)

    factors_same : (dt dt' : Float) → dt ≡ dt' → (k : Factors) (sums : List Float) → FactorsOf co z d o dt k sums → FactorsOf co z d' o' dt' k sums
    unfolding factors_by
    factors_same dt dt' e k sums f =
        record {
          are =
              f.are
              ∙ rw (chains_agree n es (h_ci_in co d) (h_ci_in co d') agree o o' opened dt (chains (replicate 120 zero64) (replicate 120 zero64) (replicate 120 zero64)), couplings_agree n es (h_ci_in co d) (h_ci_in co d') agree (replicate 625 zero64), e) refl;
          total = f.total;
          convective = f.convective ∙ sum_agree n es (h_ci_in co d) (h_ci_in co d') agree;
        }

  -- ---- what is held after an hour

  pub none_kept : (z : Zone) → Kept co z none_held
  none_kept z = record { when_empty = λ _. refl; when_held = λ e. absurd (subst T (sym e) tt) }

  pub none_kept_in : (z : Zone) (k : Held) → k ≡ none_held → Kept co z k
  none_kept_in z k e = subst (λ (x : Held). Kept co z x) (sym e) (none_kept z)

  module _ (z : Zone) (d : List HeatFlowDirection) (o : List ℕ) (dt : Float) (f : T (fits binary64 dt)) where
    abbrev m : ℕ
    m = at_most24 z.count

    -- what is held, of the same key
    held_same : (flags : List Bool) (numbers : List Float) (key : Key) (a : Arrays) (column : List Float)
        → same_key (get_or flags 0 false) (get_or numbers 2 nan) dt m key d o ≡ true
        → Kept co z (held flags numbers key a column) → FactorsOf co z d o dt (factors_held (held flags numbers key a column)) numbers
    unfolding same_key
    held_same flags numbers key a column e k =
        let p = and_true _ _ e in
        let q = and_true _ _ p.1 in
        let same = elements_same key d o m q.1 in
        factors_same z key.0 d key.1 o (λ i h. (same i h).0) (λ i h. (same i h).1)
        (of_bits binary64 (to_bits binary64 (get_or numbers 2 nan))) dt (ap (of_bits binary64) (eqb-true _ _ q.0) ∙ of_bits-to_bits binary64 dt f) _ numbers (k.when_held p.0)

    -- what is factored anew
    factored : (a : Arrays) → a ≡ zeros → FactorsOf co z d o dt (factors_in co z d o dt a) (numbers_by co z d dt)
    unfolding factors_by
    factored a e = record { are = ap (factors_in co z d o dt) e; total = refl; convective = refl }

    held_anew : (x : Factors) → FactorsOf co z d o dt x (numbers_by co z d dt) → let k = held_with (numbers_by co z d dt) (d, o) x in Kept co z k × FactorsOf co z d o dt (factors_held k) (numbers_held k)
    held_anew (factors valid two_nodes diag next prev dense interchanges column) q = (
      record {
        when_empty = λ e. absurd (subst T e tt);
        when_held = λ _.
            factors_same z d d o o (λ e h. refl) (λ e h. refl) dt (of_bits binary64 (to_bits binary64 dt)) (sym (of_bits-to_bits binary64 dt f)) _ _ q;
      },
      q,
    )

    emptied_zeros : (is_held : Bool) (a : Arrays) → (is_held ≡ false → a ≡ zeros) → emptied is_held a ≡ zeros
    emptied_zeros true a p = refl
    emptied_zeros false a p = p refl

    pub factors_kept : (k : Held) → Kept co z k → Kept co z (keep_factors co z d o dt k) × FactorsOf co z d o dt (factors_held (keep_factors co z d o dt k)) (numbers_held (keep_factors co z d o dt k))
    unfolding keep_factors
    factors_kept (held flags numbers key a column) k = by (same_key (get_or flags 0 false) (get_or numbers 2 nan) dt m key d o) refl
      where
        by : (t : Bool) → same_key (get_or flags 0 false) (get_or numbers 2 nan) dt m key d o ≡ t →
            let k' = cond t (held flags numbers key a column) (held_with (numbers_by co z d dt) (d, o) (factors_in co z d o dt (emptied (get_or flags 0 false) a))) in
            Kept co z k' × FactorsOf co z d o dt (factors_held k') (numbers_held k')
        by true e = (k, held_same flags numbers key a column e k)
        by false e = held_anew (factors_in co z d o dt (emptied (get_or flags 0 false) a)) (factored (emptied (get_or flags 0 false) a) (emptied_zeros (get_or flags 0 false) a k.when_empty))

  -- ---- what `keep_factors` leaves

  module _ (z : Zone) (d : List HeatFlowDirection) (o : List ℕ) (dt : Float) (flags : List Bool) (numbers : List Float) (key : Key) (a : Arrays) (column : List Float)
      (n : ℕ) (n_is : n ≡ at_most24 z.count) (test : Bool) (test_is : test ≡ same_key (get_or flags 0 false) (get_or numbers 2 nan) dt n key d o) where
    key_is : same_key (get_or flags 0 false) (get_or numbers 2 nan) dt (at_most24 z.count) key d o ≡ test
    key_is = sym (test_is ∙ rw n_is refl)

    pub keep_same : test ≡ true → held flags numbers key a column ≡ keep_factors co z d o dt (held flags numbers key a column)
    unfolding keep_factors
    keep_same e = rw (key_is, e) refl

    module _ (other : test ≡ false) (two₀ : List Bool) (diag₀ next₀ prev₀ dense₀ : List Float) (interchanges₀ : List ℕ)
        (empty : arrays two₀ diag₀ next₀ prev₀ dense₀ interchanges₀ ≡ emptied (get_or flags 0 false) a) (two : List Bool) (diag next prev dense : List Float)
        (two_is : two ≡ with_terms n (two_nodes_of z.building_elements) two₀)
        (chains_is : chains diag next prev ≡ chains_by n z.building_elements o dt (h_ci_in co d) (chains diag₀ next₀ prev₀))
        (dense_is : dense ≡ couplings_by n z.building_elements (h_ci_in co d) dense₀)
        (total convective : Float) (total_is : total ≡ area_el_total n z.building_elements)
        (convective_is : convective ≡ convective_by_sum n z.building_elements (h_ci_in co d))
        (last : List Float) (last_is : last ≡ column_of (at_most24 n) dense) (valid : Bool) (diag' dense' : List Float) (interchanges : List ℕ)
        (columns_is : columns valid diag' dense' interchanges ≡ factor_apart (at_most24 n) two diag next prev dense interchanges₀) where
      factors_anew : factors valid two diag' next prev dense' interchanges last ≡ factors_in co z d o dt (emptied (get_or flags 0 false) a)
      factors_anew = rw (← empty, ← n_is, ← chains_is, ← two_is, ← dense_is, ← columns_is, last_is) refl

      pub keep_anew : held (true ∷ valid ∷ []) (total ∷ convective ∷ dt ∷ []) (d, o) (arrays two diag' next prev dense' interchanges) last
          ≡ keep_factors co z d o dt (held flags numbers key a column)
      unfolding keep_factors
      keep_anew = rw (key_is, other, ← factors_anew, total_is, convective_is, n_is) refl
