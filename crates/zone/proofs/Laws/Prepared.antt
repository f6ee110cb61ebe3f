-- An hour that is prepared (specs/Inner/Prepared.antt) against `calc_temperatures`: a rate that is not valid is refused with 12, and a load by the last
-- column of a valid rate gives what the definition gives.
use Rattle.std.proofs.Common.{◌≡◌, refl, sym, ap, ◌∙◌, Bool, true, false, List, ℕ, length, set, replicate, length-set, Float}
use Rattle.solver.specs.F64.{zero64}
use Rattle.solver.specs.Result.{ok, refused, bind}
use Rattle.solver.specs.FastSolver.{at_most24, solve}
use Rattle.solver.specs.Promise.{solved_res, column_of, with_load, Columns, columns, factor_apart}
use Rattle.solver.specs.declared.system.Matrix.{Matrix}
use Rattle.solver.proofs.Promise.{fast_solver_is, Apart, at_most, column_length, own_column, rate_apart, apart_loaded, load_divisor, ok_not_refused}
use Rattle.zone.specs.declared.record.zone_record.Zone.{Zone}
use Rattle.zone.specs.declared.format.conditions.Conditions.{Conditions}
use Rattle.zone.specs.Physics.Ventilation.{calc_vent_heat_transfer_coeff}
use Rattle.zone.specs.Physics.CalcTemperatures.{calc_temperatures}
use Rattle.zone.specs.Hour.Demand.{delta_t, temperatures_with}
use Rattle.zone.specs.Inner.Assembly.{with_gains}
use Rattle.zone.specs.Inner.Assembled.{
  ZoneTerms,
  Assembled,
  assembled,
  zone_diagonal_from,
  gains_per_area_from,
  zone_right_side_from,
  dense_with,
  right_side_with,
  matrix_of,
  right_side_of,
}
use Rattle.zone.specs.Inner.Solves.{hour_system}
use Rattle.zone.specs.Inner.Prepared.{Prepared, load_of, last_in, rate_valid, load_in, solved_in, prepared_with, prepare}
use Rattle.zone.proofs.Laws.System.{matrix_is, right_side_is}
use Rattle.zone.proofs.Laws.Assembled.{dense_in, sides_in, dense_length, sides_length}
use Rattle.solver.specs.Numbers as SolveNumber
use Rattle.zone.specs.declared.record.building_element.Coefficients.{Coefficients}

module _ (co : Coefficients) where
  -- arrays that are assembled, with the columns that are factored
  module _ (s : ZoneTerms) (two_nodes : List Bool) (diag next prev dense b : List Float) (hd : length dense ≡ 625) (hb : length b ≡ 121) where
    abbrev n : ℕ
    n = at_most24 s.n

    abbrev column_at : Float → List Float
    column_at v = set (column_of n dense) n (zone_diagonal_from s v)

    column_fits : (v : Float) → length (column_at v) ≡ 25
    column_fits v = length-set (column_of n dense) n (zone_diagonal_from s v) ∙ column_length n dense

    beside : (v : Float) → Apart n (dense_with s v dense) dense (column_at v)
    unfolding dense_with
    beside v = rate_apart n dense dense (column_of n dense) (zone_diagonal_from s v) (at_most s.n) (column_length n dense) (own_column n dense hd)

    load_is : (v gains fraction : Float) → with_load n (gains_per_area_from s gains fraction) (zone_right_side_from s v gains fraction) b ≡ right_side_with s v gains fraction b
    unfolding with_load right_side_with with_gains
    load_is v gains fraction = refl

    abbrev at : Float → Matrix
    at v = matrix_of (assembled s two_nodes diag next prev dense b) v

    abbrev with : Columns → Prepared
    with k = prepared_with s two_nodes next prev (column_of n dense) b k

    columns_divisor : (k : Columns) → k ≡ factor_apart n two_nodes diag next prev dense (replicate 25 0) → (v gains fraction : Float) →
        rate_valid (with k) (last_in (with k) v) ≡ false → solve (at v) (right_side_with s v gains fraction b) ≡ refused SolveNumber.divisor 0
    columns_divisor (columns valid diag' dense' interchanges) f v gains fraction t =
        load_divisor (at v) dense (column_at v) valid diag' dense' interchanges _ (beside v) (column_fits v) f refl (right_side_with s v gains fraction b) t

    columns_load : (k : Columns) → k ≡ factor_apart n two_nodes diag next prev dense (replicate 25 0) → (v gains fraction : Float) →
        rate_valid (with k) (last_in (with k) v) ≡ true →
        solved_res (load_in (with k) (last_in (with k) v) v gains fraction) ≡ solve (at v) (right_side_with s v gains fraction b)
    unfolding load_of
    columns_load (columns valid diag' dense' interchanges) f v gains fraction t =
        let x = gains_per_area_from s gains fraction in
        let y = zone_right_side_from s v gains fraction in
        ap solved_res (sym (apart_loaded (at v) dense (column_at v) valid diag' dense' interchanges _ (beside v) (column_fits v) f refl t b (replicate 24 zero64) hb refl x y))
        ∙ fast_solver_is (at v) (with_load n x y b)
        ∙ ap (solve (at v)) (load_is v gains fraction)

  -- what is assembled, prepared
  assembled_divisor : (a : Assembled) → length (dense_in co a) ≡ 625 → length (sides_in co a) ≡ 121 → (v gains fraction : Float) →
      rate_valid (prepare a) (last_in (prepare a) v) ≡ false → solve (matrix_of a v) (right_side_of a v gains fraction) ≡ refused SolveNumber.divisor 0
  assembled_divisor (assembled s two_nodes diag next prev dense b) hd hb v gains fraction t =
      columns_divisor s two_nodes diag next prev dense b hd hb _ refl v gains fraction t

  assembled_load : (a : Assembled) → length (dense_in co a) ≡ 625 → length (sides_in co a) ≡ 121 → (v gains fraction : Float) →
      rate_valid (prepare a) (last_in (prepare a) v) ≡ true →
      solved_res (load_in (prepare a) (last_in (prepare a) v) v gains fraction) ≡ solve (matrix_of a v) (right_side_of a v gains fraction)
  assembled_load (assembled s two_nodes diag next prev dense b) hd hb v gains fraction t =
      columns_load s two_nodes diag next prev dense b hd hb _ refl v gains fraction t

  module _ (z : Zone) (t : List Float) (h : Conditions) where
    abbrev p : Prepared
    p = prepare (hour_system co z t h)

    abbrev coefficient : Float → Float
    coefficient ach = calc_vent_heat_transfer_coeff z.volume ach

    calc_is : (gains fraction ach : Float) → temperatures_with co z t h gains fraction ach
        ≡ solve (matrix_of (hour_system co z t h) (coefficient ach)) (right_side_of (hour_system co z t h) (coefficient ach) gains fraction)
    unfolding calc_temperatures hour_system
    calc_is gains fraction ach =
        let v = coefficient ach in
        rw (← matrix_is co z t h (delta_t h) v, ← right_side_is co z t h (delta_t h) gains fraction v) refl

    -- a rate that is not valid
    rate_divisor : (gains fraction ach : Float) → rate_valid p (last_in p (coefficient ach)) ≡ false →
        temperatures_with co z t h gains fraction ach ≡ refused SolveNumber.divisor 0
    rate_divisor gains fraction ach k =
        calc_is gains fraction ach ∙ assembled_divisor (hour_system co z t h) (dense_length co z t h) (sides_length co z t h) (coefficient ach) gains fraction k

    -- a load by the last column of a valid rate
    pub load_at : (gains fraction ach : Float) → rate_valid p (last_in p (coefficient ach)) ≡ true →
        solved_res (load_in p (last_in p (coefficient ach)) (coefficient ach) gains fraction) ≡ temperatures_with co z t h gains fraction ach
    load_at gains fraction ach k =
        assembled_load (hour_system co z t h) (dense_length co z t h) (sides_length co z t h) (coefficient ach) gains fraction k ∙ sym (calc_is gains fraction ach)

    -- the temperatures, with the last column of the rate
    pub prepared_is : (gains fraction ach : Float) →
        solved_in p z.volume gains fraction ach
        ≡ bind (temperatures_with co z t h gains fraction ach) (λ x. ok (x, last_in p (coefficient ach)))
    unfolding solved_in
    prepared_is gains fraction ach = by (rate_valid p (last_in p (coefficient ach))) refl
      where
        by : (valid : Bool) → rate_valid p (last_in p (coefficient ach)) ≡ valid →
            solved_in p z.volume gains fraction ach
            ≡ bind (temperatures_with co z t h gains fraction ach) (λ x. ok (x, last_in p (coefficient ach)))
        by true k = rw (k, load_at gains fraction ach k) refl
        by false k = rw (k, rate_divisor gains fraction ach k) refl

    -- a rate that gave temperatures is valid
    pub accepted_valid : (gains fraction ach : Float) (x : List Float) → temperatures_with co z t h gains fraction ach ≡ ok x →
        rate_valid p (last_in p (coefficient ach)) ≡ true
    accepted_valid gains fraction ach x e = by (rate_valid p (last_in p (coefficient ach))) refl
      where
        by : (valid : Bool) → rate_valid p (last_in p (coefficient ach)) ≡ valid → rate_valid p (last_in p (coefficient ach)) ≡ true
        by true k = k
        by false k = ok_not_refused x SolveNumber.divisor 0 (sym e ∙ rate_divisor gains fraction ach k)
