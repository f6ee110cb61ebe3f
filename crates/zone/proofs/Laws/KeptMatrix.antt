-- What is held in the struct KeptMatrix: the count of its elements, and what `keep_factors` leaves in it.
use Rattle.std.proofs.Common.{◌≡◌, refl, sym, ap, subst, ◌∙◌, ℕ, min, Bool, true, false, T, List, [], ◌∷◌, get_or, replicate, Option, Some, None, Float}
use Rattle.std.specs.Float.{nan}
use Rattle.solver.specs.F64.{zero64}
use Rattle.solver.specs.FastSolver.{at_most24}
use Rattle.solver.specs.Promise.{column_of, columns, factor_apart, factored_columns}
use Rattle.solver.specs.declared.system.Factors.{Factors}
use Rattle.solver.proofs.Promise.{factored_are}
use Rattle.zone.specs.declared.physics.assembly.Key as Rust
use Rattle.zone.specs.declared.hour.kept.KeptMatrix.{KeptMatrix}
use Rattle.zone.specs.declared.physics.assembly.ElementSums.{ElementSums}
use Rattle.zone.specs.declared.record.building_element.Element.{Element}
use Rattle.zone.specs.declared.record.building_element.HeatFlowDirection.{HeatFlowDirection}
use Rattle.zone.specs.declared.record.building_element.HeatFlowDirection.TheVariants.{Horizontal}
use Rattle.zone.specs.declared.record.zone_record.Zone.{Zone}
use Rattle.zone.specs.Physics.Slots.{with_terms}
use Rattle.zone.specs.Physics.System.{two_nodes_of, area_el_total}
use Rattle.zone.specs.Inner.Kept.{h_ci_in, chains_by, couplings_by, convective_by_sum, Arrays, arrays, Key, Held, held, same_key, emptied, keep_factors}
use Rattle.zone.specs.Inner.KeptMatrix.{chains_in, arrays_in, numbers_with, key_in, is_held, held_with_key, held_in, holds_key, holds}
use Rattle.zone.proofs.Laws.Counts.{min_24}
use Rattle.zone.proofs.Laws.Kept.{keep_same, keep_anew}
use Rattle.zone.specs.declared.record.building_element.Coefficients.{Coefficients}

module _ (co : Coefficients) where
  -- with another count, which is not held
  abbrev with_count : KeptMatrix → ℕ → KeptMatrix
  with_count k n =
      let f = k.factors in
      let c = f.chains in
      record {
        key = k.key;
        sums = k.sums;
        factors = record { chains = record { n = n; two_nodes = c.two_nodes; diag = c.diag; next = c.next; prev = c.prev }; lu = f.lu; valid = f.valid };
        column = k.column;
      }

  -- where none is held, the key is another
  none_same : (kept dt : Float) (n : ℕ) (key : Key) (d : List HeatFlowDirection) (o : List ℕ) → false ≡ same_key false kept dt n key d o
  unfolding same_key
  none_same kept dt n key d o = refl

  module _ (z : Zone) (d : List HeatFlowDirection) (o : List ℕ) (dt : Float) (k : KeptMatrix) (n : ℕ) (n_is : n ≡ min z.count 24) where
    abbrev es : List Element
    es = z.building_elements

    abbrev m : ℕ
    m = at_most24 z.count

    counted : n ≡ m
    counted = n_is ∙ min_24 z.count

    pub keeps_held : (r : Bool) → r ≡ holds k m d o dt → r ≡ true → held_in (with_count k n) ≡ keep_factors co z d o dt (held_in k)
    keeps_held r r_is e = by k.key (sym r_is ∙ e)
      where
        by : (key : Option Rust.Key) → holds_key key m d o dt ≡ true → held_with_key (with_count k n) key ≡ keep_factors co z d o dt (held_with_key k key)
        by None q = absurd (subst T (sym q) tt)
        by (Some key) q =
            keep_same co z d o dt (true ∷ k.factors.valid ∷ []) (numbers_with k.sums key.delta_t) (key_in key) (arrays_in k.factors) k.column m refl true (sym q) refl

    -- another is assembled from f₀ on, which is f then, and factored
    module _ (r : Bool) (r_is : r ≡ holds k m d o dt) (other : r ≡ false) (f₀ f g : Factors)
        (empty : arrays_in f₀ ≡ emptied (is_held k.key) (arrays_in k.factors))
        (two_is : f.chains.two_nodes ≡ with_terms m (two_nodes_of es) f₀.chains.two_nodes)
        (chains_is : chains_in f.chains ≡ chains_by m es o dt (h_ci_in co d) (chains_in f₀.chains))
        (dense_is : f.lu.matrix ≡ couplings_by m es (h_ci_in co d) f₀.lu.matrix)
        (others : (f.chains.n ≡ n) × (f.lu.interchanges ≡ f₀.lu.interchanges)) (sums : ElementSums)
        (sums_are : (sums.area_el_total ≡ area_el_total m es) × (sums.convective ≡ convective_by_sum m es (h_ci_in co d)))
        (last : List Float) (last_is : last ≡ column_of (at_most24 f.chains.n) f.lu.matrix) (g_is : g ≡ factored_columns f) where
      count_is : f.chains.n ≡ m
      count_is = others.0 ∙ counted

      last_here : last ≡ column_of (at_most24 m) f.lu.matrix
      last_here = last_is ∙ ap (λ (i : ℕ). column_of (at_most24 i) f.lu.matrix) count_is

      columns_here : columns g.valid g.chains.diag g.lu.matrix g.lu.interchanges
          ≡ factor_apart (at_most24 m) f.chains.two_nodes f.chains.diag f.chains.next f.chains.prev f.lu.matrix f₀.lu.interchanges
      columns_here =
          factored_are f g g_is
          ∙ ap (λ (i : ℕ). factor_apart (at_most24 i) f.chains.two_nodes f.chains.diag f.chains.next f.chains.prev f.lu.matrix f.lu.interchanges) count_is
          ∙ ap (factor_apart (at_most24 m) f.chains.two_nodes f.chains.diag f.chains.next f.chains.prev f.lu.matrix) others.1

      arrays_here : arrays_in g ≡ arrays f.chains.two_nodes g.chains.diag f.chains.next f.chains.prev g.lu.matrix g.lu.interchanges
      arrays_here =
          ap (λ (x : Factors). arrays x.chains.two_nodes g.chains.diag x.chains.next x.chains.prev g.lu.matrix g.lu.interchanges) g_is

      abbrev anew : Held
      anew = held (true ∷ g.valid ∷ []) (numbers_with sums dt) (d, o) (arrays_in g) last

      kept_anew : (flags : List Bool) (numbers : List Float) (key : Key) → arrays_in f₀ ≡ emptied (get_or flags 0 false) (arrays_in k.factors)
          → false ≡ same_key (get_or flags 0 false) (get_or numbers 2 nan) dt m key d o
          → anew ≡ keep_factors co z d o dt (held flags numbers key (arrays_in k.factors) k.column)
      kept_anew flags numbers key empty' test_is =
          ap (λ (a : Arrays). held (true ∷ g.valid ∷ []) (numbers_with sums dt) (d, o) a last) arrays_here
          ∙ keep_anew co z d o dt flags numbers key (arrays_in k.factors) k.column m refl false test_is refl
          f₀.chains.two_nodes f₀.chains.diag f₀.chains.next f₀.chains.prev f₀.lu.matrix f₀.lu.interchanges empty'
          f.chains.two_nodes f.chains.diag f.chains.next f.chains.prev f.lu.matrix two_is chains_is dense_is
          sums.area_el_total sums.convective sums_are.0 sums_are.1 last last_here
          g.valid g.chains.diag g.lu.matrix g.lu.interchanges columns_here

      pub keeps_anew : anew ≡ keep_factors co z d o dt (held_in k)
      keeps_anew = by k.key (sym r_is ∙ other) empty
        where
          by : (key : Option Rust.Key) → holds_key key m d o dt ≡ false → arrays_in f₀ ≡ emptied (is_held key) (arrays_in k.factors)
              → anew ≡ keep_factors co z d o dt (held_with_key k key)
          by None q p = kept_anew (false ∷ k.factors.valid ∷ []) (numbers_with k.sums zero64) (replicate 24 Horizontal, replicate 24 0) p (none_same zero64 dt m (replicate 24 Horizontal, replicate 24 0) d o)
          by (Some key) q p = kept_anew (true ∷ k.factors.valid ∷ []) (numbers_with k.sums key.delta_t) (key_in key) p (sym q)
