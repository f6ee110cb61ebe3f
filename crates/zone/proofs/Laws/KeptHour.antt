-- An hour from what is held; and where that is the zone's own, it is what `prepare` makes of the hour's system.
use Rattle.std.proofs.Common.{◌≡◌, refl, sym, ap, ◌∙◌, Bool, false, List, ℕ, ◌<◌, ◌≤◌, arith, length, get_or, replicate, Float}
use Rattle.std.specs.Prelude.{Option, Some, None}
use lib.Ieee.{nan, binary64}
use lib.Ieee.Fits.{mul-fits}
use Rattle.solver.specs.F64.{◌/ᶠ◌, zero64, decimal}
use Rattle.solver.specs.FastSolver.{at_most24}
use Rattle.solver.specs.Result.{Result}
use Rattle.solver.specs.Promise.{column_of, reduce_chains, inner_shares, Columns, columns, factor_apart, reduced_base}
use Rattle.solver.specs.declared.dense_part.RightSide.{RightSide}
use Rattle.zone.specs.declared.record.building_element.Element.{Element}
use Rattle.zone.specs.declared.record.building_element.ElementHour.{ElementHour}
use Rattle.zone.specs.declared.record.building_element.HeatFlowDirection.{HeatFlowDirection}
use Rattle.zone.specs.declared.record.building_element.Coefficients.{Coefficients}
use Rattle.zone.specs.declared.record.zone_record.Zone.{Zone}
use Rattle.zone.specs.declared.format.conditions.Conditions.{Conditions}
use Rattle.zone.specs.declared.hour.hour.Meeting.{Meeting}
use Rattle.zone.specs.declared.physics.balance.HeatCoolGains.{HeatCoolGains}
use Rattle.zone.specs.declared.physics.assembly.Key.{Key}
use Rattle.zone.specs.declared.hour.kept.KeptMatrix.{KeptMatrix}
use Rattle.zone.specs.declared.calls.state.Demand.{Demand}
use Rattle.zone.specs.Physics.Slots.{air, with_terms, element_hour}
use Rattle.zone.specs.Physics.System.{h_ci_at, two_nodes_of, c_int}
use Rattle.zone.specs.Hour.Demand.{delta_t, control_temperature, temperatures_with}
use Rattle.zone.specs.Inner.Assembly.{Chains, chains}
use Rattle.zone.specs.Inner.Assembled.{ZoneTerms, convective_sum, element_chains, couplings_of, element_sides, zone_terms_of, assembled_with, assemble, assemble_step}
use Rattle.zone.specs.Inner.Solves.{hour_system}
use Rattle.zone.specs.Inner.Prepared.{Prepared, prepared, prepared_with, prepare}
use Rattle.zone.specs.Inner.Operative.{areas_of, control_by}
use Rattle.zone.specs.Inner.Hour.{Hour, hour_with, update_of, demand_met_of, demand_solved}
use Rattle.zone.specs.Inner.Kept.{h_ci_in, chains_by, couplings_by, convective_by_sum, terms_by, Factors, factors, factors_from, factors_with, factors_by}
use Rattle.zone.specs.Inner.Kept.{Held, factors_held, numbers_held, keep_factors, directions_of, treatments_open_at, opens_of, prepared_from, hour_from, hour_held, FactorsOf, Kept}
use Rattle.zone.specs.Inner.KeptMatrix.{numbers_with, held_with_key, held_in}
use Rattle.zone.specs.Inner.PreparedHour.{terms_with}
use Rattle.zone.proofs.Laws.Agree.{Agree}
use Rattle.zone.proofs.Laws.Terms.{terms_at}
use Rattle.zone.proofs.Laws.Nodes.{at_most_24_le}
use Rattle.zone.proofs.Laws.PreparedDemand.{met_solved, update_solved, control_is}
use Rattle.zone.proofs.Laws.Kept.{h_ci_in_lem, chains_agree, couplings_agree, sum_agree, chains_own, couplings_own, sum_own, factors_kept}

module _ (co : Coefficients) where
  from_columns : (s : ZoneTerms) (two_nodes : List Bool) (next prev column b : List Float) (k : Columns) →
      prepared_with s two_nodes next prev column b k ≡ prepared_from s b (factors_from two_nodes next prev column k)
  from_columns s two_nodes next prev column b (columns valid diag dense interchanges) = refl

  from_chains : (s : ZoneTerms) (two_nodes : List Bool) (x : Chains) (dense b : List Float) →
      prepare (assembled_with s two_nodes x dense b) ≡ prepared_from s b (factors_with (at_most24 s.n) two_nodes x dense (replicate 25 0))
  from_chains s two_nodes (chains diag next prev) dense b =
      let n = at_most24 s.n in
      from_columns s two_nodes next prev (column_of n dense) b (factor_apart n two_nodes diag next prev dense (replicate 25 0))

  module _ (z : Zone) (t : List Float) (h : Conditions) where
    abbrev es : List Element
    es = z.building_elements

    abbrev hours : List ElementHour
    hours = h.elements

    abbrev m : ℕ
    m = at_most24 z.count

    abbrev dt : Float
    dt = delta_t h

    abbrev d : List HeatFlowDirection
    d = directions_of co z t

    abbrev o : List ℕ
    o = opens_of h

    abbrev right : List Float
    right = element_sides m es hours dt t (replicate 121 zero64)

    -- ---- an hour from what is held

    module _ (valid : Bool) (numbers : List Float) (two : List Bool) (diag next prev dense : List Float)
        (interchanges : List ℕ) (column : List Float) (c : Coefficients) (dt' : Float) (n : ℕ)
        (c_is : c ≡ co) (dt_is : dt' ≡ dt) (n_is : n ≡ m) (s : ZoneTerms)
        (s_is : s ≡ terms_by c z h dt' t numbers) (b b' inner : List Float)
        (b_is : b ≡ element_sides n es hours dt' t (replicate 121 zero64)) (b'_is : b' ≡ reduce_chains (at_most24 n) two diag prev b)
        (inner_is : inner ≡ inner_shares (at_most24 n) diag prev b' (replicate 24 zero64)) where
      abbrev k : Factors
      k = factors valid two diag next prev dense interchanges column

      terms_from : s ≡ terms_by co z h dt t numbers
      terms_from = s_is ∙ rw (c_is, dt_is) refl

      sides_from : b ≡ right
      sides_from = b_is ∙ rw (n_is, dt_is) refl

      here_prepared : prepared s valid two diag next dense interchanges column b' inner ≡ prepared_from s b k
      here_prepared =
          let same : at_most24 s.n ≡ at_most24 n = rw (s_is, n_is) refl in
          rw (inner_is, b'_is, same) refl

      hour_from_lem : (area : List Float) → area ≡ areas_of z →
          hour_with (prepared s valid two diag next dense interchanges column b' inner) z (control_by z.temp_setpnt_basis z.count area (get_or numbers 0 nan)) h
          ≡ hour_from co z t h numbers k
      unfolding hour_from
      hour_from_lem area area_is =
          let control = control_by z.temp_setpnt_basis z.count area (get_or numbers 0 nan) in
          ap (λ (p : Prepared). hour_with p z control h) (here_prepared ∙ ap (λ (x : ZoneTerms). prepared_from x b k) terms_from)
          ∙ rw (sides_from, area_is) refl

    module _ (x : KeptMatrix) (x_is : x.factors.chains.n ≡ m) (c : Coefficients) (dt' : Float) (c_is : c ≡ co) (dt_is : dt' ≡ dt)
        (b : List Float) (b_is : b ≡ element_sides m es hours dt' t (replicate 121 zero64))
        (base : RightSide) (base_is : base ≡ reduced_base x.factors (record { b = b; inner = replicate 24 zero64 })) where
      abbrev s : ZoneTerms
      s = terms_with c x.factors.chains.n x.sums (c_int c z /ᶠ dt') (air t) z h

      terms_here : s ≡ terms_by c z h dt' t (numbers_with x.sums dt')
      terms_here = rw (x_is, c_is) refl

      sides_here : b ≡ element_sides x.factors.chains.n es hours dt' t (replicate 121 zero64)
      sides_here = b_is ∙ ap (λ (i : ℕ). element_sides i es hours dt' t (replicate 121 zero64)) (sym x_is)

      reduced_here : base.b ≡ reduce_chains (at_most24 x.factors.chains.n) x.factors.chains.two_nodes x.factors.chains.diag x.factors.chains.prev b
      reduced_here = ap (λ (y : RightSide). y.b) base_is

      inner_here : base.inner ≡ inner_shares (at_most24 x.factors.chains.n) x.factors.chains.diag x.factors.chains.prev base.b (replicate 24 zero64)
      inner_here =
          ap (λ (y : RightSide). y.inner) base_is
          ∙ ap (λ (y : List Float). inner_shares (at_most24 x.factors.chains.n) x.factors.chains.diag x.factors.chains.prev y (replicate 24 zero64)) (sym reduced_here)

      module _ (area : List Float) (area_is : area ≡ areas_of z) where
        abbrev here : Hour
        here =
            hour_with
            (prepared s x.factors.valid x.factors.chains.two_nodes x.factors.chains.diag x.factors.chains.next x.factors.lu.matrix x.factors.lu.interchanges x.column base.b base.inner)
            z (control_by z.temp_setpnt_basis z.count area x.sums.area_el_total) h

        hour_here : (kept_dt : Float)
            → here
            ≡ hour_from co z t h (numbers_with x.sums kept_dt)
            (factors x.factors.valid x.factors.chains.two_nodes x.factors.chains.diag x.factors.chains.next x.factors.chains.prev x.factors.lu.matrix x.factors.lu.interchanges x.column)
        hour_here kept_dt =
            hour_from_lem x.factors.valid (numbers_with x.sums kept_dt) x.factors.chains.two_nodes x.factors.chains.diag x.factors.chains.next x.factors.chains.prev
            x.factors.lu.matrix x.factors.lu.interchanges x.column c dt' x.factors.chains.n c_is dt_is x_is s terms_here
            b base.b base.inner sides_here reduced_here inner_here area area_is

        pub held_hour : here ≡ hour_held co z t h (held_in x)
        held_hour = by x.key
          where
            by : (key : Option Key) → here ≡ hour_held co z t h (held_with_key x key)
            by None = hour_here zero64
            by (Some key) = hour_here key.delta_t

    -- ---- an hour from what is kept

    own_agree : Agree m (h_ci_in co d) (h_ci_at co es t)
    own_agree = h_ci_in_lem co m es t d (at_most_24_le z.count) refl

    abbrev empty : Chains
    empty = chains (replicate 120 zero64) (replicate 120 zero64) (replicate 120 zero64)

    opened : (e : ℕ) → e < 24 → get_or o e 0 ≡ (element_hour hours e).treatments_open
    opened e l =
        let few : 24 ≤ 24 = omega arith in
        let small : 24 ≤ length {A = ℕ} (replicate 24 0) = few in
        terms_at (treatments_open_at hours) 0 24 (replicate 24 0) e l small

    chains_hour : chains_by m es o dt (h_ci_in co d) empty ≡ element_chains co m es hours dt t empty
    chains_hour =
        chains_agree co m es (h_ci_in co d) (h_ci_at co es t) own_agree o o (λ e k. refl) dt empty
        ∙ chains_own co m (at_most_24_le z.count) es t hours o opened dt empty

    couplings_hour : couplings_by m es (h_ci_in co d) (replicate 625 zero64) ≡ couplings_of co m es t (replicate 625 zero64)
    couplings_hour =
        couplings_agree co m es (h_ci_in co d) (h_ci_at co es t) own_agree (replicate 625 zero64)
        ∙ couplings_own co m (at_most_24_le z.count) es t (replicate 625 zero64)

    sum_hour : convective_by_sum m es (h_ci_in co d) ≡ convective_sum co m es t
    sum_hour = sum_agree co m es (h_ci_in co d) (h_ci_at co es t) own_agree ∙ sum_own co m (at_most_24_le z.count) es t

    abbrev own : Factors
    own =
        factors_with (at_most24 m) (with_terms m (two_nodes_of es) (replicate 24 false)) (element_chains co m es hours dt t empty)
        (couplings_of co m es t (replicate 625 zero64)) (replicate 25 0)

    system_prepared : prepare (hour_system co z t h) ≡ prepared_from (zone_terms_of co z h dt t) right own
    unfolding hour_system assemble_step assemble
    system_prepared =
        from_chains (zone_terms_of co z h dt t) (with_terms m (two_nodes_of es) (replicate 24 false))
        (element_chains co m es hours dt t empty)
        (couplings_of co m es t (replicate 625 zero64)) right

    module _ (k : Factors) (sums : List Float) (f : FactorsOf co z d o dt k sums) where
      factors_hour : k ≡ own
      unfolding factors_by
      factors_hour = f.are ∙ rw (chains_hour, couplings_hour) refl

      terms_hour : terms_by co z h dt t sums ≡ zone_terms_of co z h dt t
      terms_hour = rw (f.total, f.convective, sum_hour) refl

      prepared_hour : prepared_from (terms_by co z h dt t sums) right k ≡ prepare (hour_system co z t h)
      prepared_hour =
          ap (λ (x : ZoneTerms). prepared_from x right k) terms_hour
          ∙ ap (prepared_from (zone_terms_of co z h dt t) right) factors_hour
          ∙ sym system_prepared

    abbrev own_hour : Hour
    own_hour = hour_with (prepare (hour_system co z t h)) z (control_temperature z) h

    from_own : (x : Held) → FactorsOf co z d o dt (factors_held x) (numbers_held x) → hour_held co z t h x ≡ own_hour
    unfolding hour_from
    from_own x f =
        let control = control_by z.temp_setpnt_basis z.count (areas_of z) (get_or (numbers_held x) 0 nan) in
        ap (λ (p : Prepared). hour_with p z control h) (prepared_hour (factors_held x) (numbers_held x) f)
        ∙ ap (λ (c : List Float → Float). hour_with (prepare (hour_system co z t h)) z c h) (control_is co z (areas_of z) (get_or (numbers_held x) 0 nan) refl f.total)

    -- where the zone's are held, or nothing, before the hour, they do after it, and the hour is the one that the definitions have
    module _ (x x' : Held) (x'_is : x' ≡ keep_factors co z d o dt x) (k : Kept co z x) where
      factors_after : Kept co z (keep_factors co z d o dt x) × FactorsOf co z d o dt (factors_held (keep_factors co z d o dt x)) (numbers_held (keep_factors co z d o dt x))
      factors_after = factors_kept co z d o dt (mul-fits binary64 h.delta_t_h (decimal 3600 0)) x k

      pub kept_after : Kept co z x'
      kept_after = rw x'_is factors_after.0

      module _ (p : Hour) (p_is : p ≡ hour_held co z t h x') where
        own_after : p ≡ own_hour
        own_after = p_is ∙ from_own x' (rw x'_is factors_after.1)

        pub kept_demand : (meeting : Meeting) (before : List Float) (r : Result (Demand × List Float)) → r ≡ demand_met_of p meeting before → r ≡ demand_solved co z t h meeting before
        kept_demand meeting before r r_is = r_is ∙ ap (λ (y : Hour). demand_met_of y meeting before) own_after ∙ met_solved co z t h meeting before

        pub kept_update : (g : HeatCoolGains) (ach : Float) (r : Result (List Float)) → r ≡ update_of p g ach
            → r ≡ temperatures_with co z t h g.gains_heat_cool g.f_hc_c ach
        kept_update g ach r r_is = r_is ∙ ap (λ (y : Hour). update_of y g ach) own_after ∙ update_solved co z t h g ach
