-- A time step's systems, prepared for several rates and loads: all of the matrix but its last column factored, the right side without gains reduced.
-- prepared_is (proofs/Laws/Prepared.antt) ties them to `calc_temperatures`.
use Rattle.std.specs.Prelude.{ℕ, Bool, ◌&&◌, List, get_or, set, replicate, Ok, Err, Float}
use Rattle.std.specs.Prelude as Rust
use Rattle.std.specs.Float.{nan}
use Rattle.solver.specs.F64.{zero64}
use Rattle.solver.specs.Closeness.{valid_divisor}
use Rattle.solver.specs.FastSolver.{at_most24}
use Rattle.solver.specs.Answers.{number_of}
use Rattle.solver.specs.declared.error.SolveError.{SolveError}
use Rattle.solver.specs.Result.{Result, ok, refused, bind, require}
use Rattle.solver.specs.Promise.{column_of, factor_last, reduce_chains, inner_shares, gather_loaded, Columns, columns, factor_apart, substitute_apart, Solved, solved_res}
use Rattle.zone.specs.Physics.Ventilation.{calc_vent_heat_transfer_coeff}
use Rattle.zone.specs.declared.format.conditions.Conditions.{Conditions}
use Rattle.zone.specs.Hour.Demand.{gains_heat_cool, frac_conv_gains_heat_cool}
use Rattle.zone.specs.Inner.Assembled.{ZoneTerms, Assembled, assembled, zone_diagonal_from, gains_per_area_from, zone_right_side_from}
use Rattle.solver.specs.Numbers as SolveNumber

-- the zone's terms; whether the divisors of the factored columns are valid; which elements have two nodes; the adjusted diagonals and the coefficients of
-- the next slots; the factored columns with their interchanges; the last column, but for the zone's own coefficient; the reduced right side, and what the
-- last step of each chain subtracts
pub data Prepared : Type 0 where
  prepared :
      (s : ZoneTerms) (valid : Bool) (two_nodes : List Bool) (diag next dense : List Float) (interchanges : List ℕ)
      (column b inner : List Float) → Prepared

-- the last column at a ventilation coefficient, factored
abbrev pub last_of : ZoneTerms → (dense : List Float) → List ℕ → (column : List Float) (h_ve : Float) → List Float
last_of s dense interchanges column h_ve =
    factor_last (at_most24 s.n) dense interchanges (set column (at_most24 s.n) (zone_diagonal_from s h_ve))

-- no divisor of the matrix with that column is zero or not finite
abbrev pub last_valid : ZoneTerms → (valid : Bool) (last : List Float) → Bool
last_valid s valid last = valid && valid_divisor (get_or last (at_most24 s.n) nan)

-- a load at a ventilation coefficient, with its last column
unfoldable pub load_of :
    ZoneTerms → List Bool → (diag next dense : List Float) → List ℕ → (b inner last : List Float) (h_ve gains_heat_cool f_hc_c : Float)
    → Solved
load_of s two_nodes diag next dense interchanges b inner last h_ve gains_heat_cool f_hc_c =
    substitute_apart (at_most24 s.n) two_nodes diag next dense last interchanges
    (gather_loaded (at_most24 s.n) b inner (gains_per_area_from s gains_heat_cool f_hc_c) (zone_right_side_from s h_ve gains_heat_cool f_hc_c))
    b

-- the same of all that is prepared
abbrev pub last_in : Prepared → (h_ve : Float) → List Float
last_in (prepared s valid two_nodes diag next dense interchanges column b inner) h_ve = last_of s dense interchanges column h_ve

abbrev pub rate_valid : Prepared → (last : List Float) → Bool
rate_valid (prepared s valid two_nodes diag next dense interchanges column b inner) last = last_valid s valid last

abbrev pub load_in : Prepared → (last : List Float) (h_ve gains_heat_cool f_hc_c : Float) → Solved
load_in (prepared s valid two_nodes diag next dense interchanges column b inner) last h_ve gains_heat_cool f_hc_c =
    load_of s two_nodes diag next dense interchanges b inner last h_ve gains_heat_cool f_hc_c

-- the temperatures after the step, with the last column of the rate; 12, 13
unfoldable pub solved_in : Prepared → (volume gains_heat_cool f_hc_c ach : Float) → Result (List Float × List Float)
solved_in p volume gains_heat_cool f_hc_c ach =
    let v = calc_vent_heat_transfer_coeff volume ach in
    let last = last_in p v in
    bind (require (rate_valid p last) SolveNumber.divisor) λ _.
    bind (solved_res (load_in p last v gains_heat_cool f_hc_c)) λ temps.
    ok (temps, last)

-- the same without demand
abbrev pub free_in : Prepared → (volume : Float) → Conditions → (ach : Float) → Result (List Float × List Float)
free_in p volume h ach = solved_in p volume (gains_heat_cool h) (frac_conv_gains_heat_cool h) ach

-- whether it is solved, with what stands beside it, which counts where it is
module _ {A B : Type 0} where
  abbrev pub solved_with : Rust.Result A SolveError → B → Result B
  solved_with (Ok a) x = ok x
  solved_with (Err e) x = refused (number_of e) 0

-- an assembled system, prepared
abbrev pub prepared_with : ZoneTerms → List Bool → (next prev column b : List Float) → Columns → Prepared
prepared_with s two_nodes next prev column b (columns valid diag dense interchanges) =
    let n = at_most24 s.n in
    let y = reduce_chains n two_nodes diag prev b in
    prepared s valid two_nodes diag next dense interchanges column y (inner_shares n diag prev y (replicate 24 zero64))

abbrev pub prepare : Assembled → Prepared
prepare (assembled s two_nodes diag next prev dense b) =
    let n = at_most24 s.n in
    prepared_with s two_nodes next prev (column_of n dense) b (factor_apart n two_nodes diag next prev dense (replicate 25 0))
