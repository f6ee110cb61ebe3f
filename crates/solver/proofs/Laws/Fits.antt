-- Every temperature of a solve is a value that an f64 holds, where the right side's are: each place that is set holds a rounded result, or a place
-- of another such list. Nothing is asked of the matrix.
use Rattle.std.proofs.Common.{◌≡◌, subst, Bool, cond, true, false, List, [], ◌∷◌, ℕ, zero, suc, ◌+◌, ◌-◌, ◌*◌, T, ltb, get_or, set, take, replicate, Float}
use lib.Ieee.{nan, binary64, fits}
use lib.Ieee.Bits.{of_bits-fits}
use lib.Ieee.Fits.{nan-fits, sub-fits, div-fits}
use Rattle.solver.specs.declared.system.Matrix.{Matrix}
use Rattle.solver.specs.F64.{◌-ᶠ◌, ◌*ᶠ◌, ◌/ᶠ◌, zero64}
use Rattle.solver.specs.Numbers.{divisor, temperature}
use Rattle.solver.specs.Result.{ok, require}
use Rattle.solver.specs.Repeat.{repeat, repeat_down}
use Rattle.solver.specs.Rows.{entry}
use Rattle.solver.specs.Lu.{swap, apply_interchange, apply_interchanges, subtract_multiple, forward_step, forward_substitution, back_step, back_substitution, lu_solve}
use Rattle.solver.specs.Chain.{outer_slot, adjust_right_side, reduce_right_side, reduce_right_sides, back_substitute_node, back_substitute_chain, back_substitute_chains}
use Rattle.solver.specs.FastSolver.{at_most24, gather_dense, scatter_inner, scatter_dense, temperatures, diag_of, dense_of, all_divisors_valid, temperatures_of, temperatures_valid, solve}
use Rattle.solver.proofs.Laws.Result.{bind_ok, ok_inj}
use Rattle.solver.proofs.Laws.Turns.{repeat_stays, down_stays}

-- what stands in each place of a list, and past its end
abbrev pub AllFit : List Float → Type 0
AllFit l = (i : ℕ) → T (fits binary64 (get_or l i nan))

pub set_fits : (l : List Float) (i : ℕ) (x : Float) → AllFit l → T (fits binary64 x) → AllFit (set l i x)
set_fits [] i x h k j = h j
set_fits (y ∷ l) zero x h k zero = k
set_fits (y ∷ l) zero x h k (suc j) = h (suc j)
set_fits (y ∷ l) (suc i) x h k zero = h 0
set_fits (y ∷ l) (suc i) x h k (suc j) = set_fits l i x (λ n. h (suc n)) k j

pub zeros_fit : (n : ℕ) → AllFit (replicate n zero64)
zeros_fit zero i = nan-fits binary64
zeros_fit (suc n) zero = of_bits-fits binary64 0
zeros_fit (suc n) (suc i) = zeros_fit n i

pub take_fits : (n : ℕ) (l : List Float) → AllFit l → AllFit (take n l)
take_fits zero l h i = nan-fits binary64
take_fits (suc n) [] h i = h i
take_fits (suc n) (x ∷ l) h zero = h 0
take_fits (suc n) (x ∷ l) h (suc i) = take_fits n l (λ j. h (suc j)) i

pub either_fits : (b : Bool) (l m : List Float) → AllFit l → AllFit m → AllFit (cond b l m)
either_fits true l m h k = h
either_fits false l m h k = k

-- loops whose turns keep it
module _ (f : ℕ → List Float → List Float) (turn : (j : ℕ) (l : List Float) → AllFit l → AllFit (f j l)) where
  pub repeat_fits : (a b : ℕ) (l : List Float) → AllFit l → AllFit (repeat a b f l)
  repeat_fits a b l h = repeat_stays AllFit f turn a b l h

  pub down_fits : (n : ℕ) (l : List Float) → AllFit l → AllFit (repeat_down n f l)
  down_fits n l h = down_stays AllFit f turn n l h

-- ---- the chains

module _ (n : ℕ) (two_nodes : List Bool) (diag : List Float) where
  reduce_fits : (prev b : List Float) → AllFit b → AllFit (reduce_right_sides n two_nodes diag prev b)
  unfolding reduce_right_sides reduce_right_side
  reduce_fits prev b h =
      repeat_fits (reduce_right_side two_nodes diag prev) (λ e l. repeat_fits (adjust_right_side diag prev) turn (outer_slot two_nodes e) (5 * e + 4) l) 0 n b h
    where
      turn : (s : ℕ) (l : List Float) → AllFit l → AllFit (adjust_right_side diag prev s l)
      turn s l k =
          set_fits l (s + 1) (get_or l (s + 1) nan -ᶠ get_or l s nan *ᶠ get_or prev (s + 1) nan /ᶠ get_or diag s nan) k
          (sub-fits binary64 (get_or l (s + 1) nan) (get_or l s nan *ᶠ get_or prev (s + 1) nan /ᶠ get_or diag s nan))

  back_fits : (next t : List Float) → AllFit t → AllFit (back_substitute_chains n two_nodes diag next t)
  unfolding back_substitute_chains back_substitute_chain
  back_fits next t h =
      repeat_fits (back_substitute_chain two_nodes diag next)
      (λ e l. down_fits (back_substitute_node diag next (outer_slot two_nodes e)) (turn (outer_slot two_nodes e)) (5 * e + 4 - outer_slot two_nodes e) l) 0 n t h
    where
      turn : (outer j : ℕ) (l : List Float) → AllFit l → AllFit (back_substitute_node diag next outer j l)
      turn outer j l k =
          let x = get_or l (outer + j) nan -ᶠ get_or next (outer + j) nan *ᶠ get_or l (outer + j + 1) nan in
          set_fits l (outer + j) (x /ᶠ get_or diag (outer + j) nan) k (div-fits binary64 x (get_or diag (outer + j) nan))

-- ---- the dense part

module _ (n : ℕ) where
  gather_fits : (b : List Float) → AllFit b → AllFit (gather_dense n b)
  unfolding gather_dense
  gather_fits b h =
      let put : ℕ → List Float → List Float = λ e v. set v e (get_or b (5 * e + 4) nan) in
      set_fits (repeat 0 n put (replicate 25 zero64)) n (get_or b 120 nan)
      (repeat_fits put (λ e l k. set_fits l e (get_or b (5 * e + 4) nan) k (h (5 * e + 4))) 0 n (replicate 25 zero64) (zeros_fit 25)) (h 120)

  scatter_fits : (v t : List Float) → AllFit v → AllFit t → AllFit (scatter_dense n v t)
  unfolding scatter_dense
  scatter_fits v t h k =
      set_fits (repeat 0 n (scatter_inner v) t) 120 (get_or v n nan)
      (repeat_fits (scatter_inner v) (λ e l m. set_fits l (5 * e + 4) (get_or v e nan) m (h e)) 0 n t k) (h n)

swap_fits : (i j : ℕ) (l : List Float) → AllFit l → AllFit (swap i j l)
swap_fits i j l h = set_fits (set l i (get_or l j nan)) j (get_or l i nan) (set_fits l i (get_or l j nan) h (h j)) (h i)

interchanges_fit : (w : ℕ) (interchanges : List ℕ) (b : List Float) → AllFit b → AllFit (apply_interchanges w interchanges b)
unfolding apply_interchanges
interchanges_fit w interchanges b h =
    repeat_fits (apply_interchange interchanges)
    (λ k l m.
    let q = get_or interchanges k 0 in
    either_fits (ltb q 25) (swap k q l) l (swap_fits k q l m) m) 0 w b h

module _ (m : List Float) where
  subtract_fits : (k : ℕ) (x : Float) (a b : ℕ) (l : List Float) → AllFit l → AllFit (repeat a b (subtract_multiple m k x) l)
  subtract_fits k x a b l h =
      repeat_fits (subtract_multiple m k x)
      (λ i l p. set_fits l i (get_or l i nan -ᶠ entry i k m *ᶠ x) p (sub-fits binary64 (get_or l i nan) (entry i k m *ᶠ x))) a b l h

  forward_fits : (w : ℕ) (b : List Float) → AllFit b → AllFit (forward_substitution w m b)
  unfolding forward_substitution forward_step
  forward_fits w b h = repeat_fits (forward_step w m) (λ k l p. subtract_fits k (get_or l k nan) (k + 1) w l p) 0 w b h

  backward_fits : (w : ℕ) (b : List Float) → AllFit b → AllFit (back_substitution w m b)
  unfolding back_substitution back_step
  backward_fits w b h =
      down_fits (back_step m)
      (λ k l p.
      let x = get_or l k nan /ᶠ entry k k m in
      subtract_fits k x 0 k (set l k x) (set_fits l k x p (div-fits binary64 (get_or l k nan) (entry k k m)))) w b h

  lu_fits : (w : ℕ) (interchanges : List ℕ) (b : List Float) → AllFit b → AllFit (lu_solve w m interchanges b)
  unfolding lu_solve
  lu_fits w interchanges b h =
      let y = apply_interchanges w interchanges b in
      backward_fits w (forward_substitution w m y) (forward_fits w y (interchanges_fit w interchanges b h))

-- ---- the solve

temperatures_fit : (n : ℕ) (two_nodes : List Bool) (diag next prev dense : List Float) (interchanges : List ℕ) (b : List Float) → AllFit b
    → AllFit (temperatures n two_nodes diag next prev dense interchanges b)
unfolding temperatures
temperatures_fit n two_nodes diag next prev dense interchanges b h =
    let y = reduce_right_sides n two_nodes diag prev b in
    let v = lu_solve (n + 1) dense interchanges (gather_dense n y) in
    let reduced = reduce_fits n two_nodes diag prev b h in
    back_fits n two_nodes diag next (scatter_dense n v y)
    (scatter_fits n v y (lu_fits dense (n + 1) interchanges (gather_dense n y) (gather_fits n y reduced)) reduced)

module _ (a : Matrix) (b : List Float) (h : AllFit b) where
  of_fits : AllFit (temperatures_of a b)
  unfolding temperatures_of
  of_fits =
      let lu = dense_of a in
      temperatures_fit (at_most24 a.n) a.two_nodes (diag_of a) a.next a.prev lu.matrix lu.interchanges b h

pub solve_fits : (a : Matrix) (b t : List Float) → AllFit b → solve a b ≡ ok t → AllFit t
unfolding solve
solve_fits a b t h e =
    let twelve = bind_ok (require (all_divisors_valid a) divisor) _ t e in
    let thirteen = bind_ok (require (temperatures_valid a (temperatures_of a b)) temperature) _ t twelve.2 in
    subst AllFit (ok_inj thirteen.2) (of_fits a b h)
