-- Bytes from a place on that are those of a number, of a float or of an hour's part of an element are read as it, whatever stands before and behind.
use Rattle.std.proofs.Common.{ℕ, suc, zero, ◌+◌, ◌*◌, ◌<◌, ◌≡◌, refl, ◌∙◌, List, [], ◌∷◌, ◌++◌, append_assoc, arith, take, drop, length, length-append, get_or, replicate, All, Float}
use lib.Ieee.{nan, binary64}
use lib.Ieee.Fits.{nan-fits}
use Rattle.solver.proofs.Promise.{AllFit}
use Rattle.zone.specs.Format.Bytes.{float_at, float_size}
use Rattle.zone.specs.Format.Layout.{open_byte, element_hour_size}
use Rattle.zone.specs.Format.Decode.{element_hour_at}
use Rattle.zone.specs.Format.Encode.{row_bytes}
use Rattle.zone.specs.Claims.Encode.{element_hour_bytes}
use Rattle.zone.specs.Claims.RoundTrip.{IsF64, ElementHourFits}
use Rattle.zone.specs.declared.record.building_element.ElementHour.{ElementHour}
use Rattle.zone.proofs.Laws.RoundTrip.{past, byte_there, in_row}
use Rattle.zone.proofs.Claims.ForBook.{length_row}

-- what is said of each place of a list, and past its end
pub all_fit : (xs : List Float) → All IsF64 xs → AllFit xs
all_fit [] h i = nan-fits binary64
all_fit (x ∷ xs) h zero = h 0 x (omega arith)
all_fit (x ∷ xs) h (suc i) = all_fit xs (λ k d l. h (suc k) d (omega arith)) i

-- a fact of each of a list, and of the first n
unfoldable pub Each : {A : Type 0} → (A → Type 0) → List A → Type 0
Each p [] = Unit
Each p (a ∷ as') = p a × Each p as'

pub all_of_each : {A : Type 0} (p : A → Type 0) (l : List A) → Each p l → All p l
unfolding Each
all_of_each p [] e k d h = absurd (omega arith)
all_of_each p (a ∷ as') e zero d h = e.0
all_of_each p (a ∷ as') e (suc k) d h = all_of_each p as' e.1 k d (omega arith)

pub each_append : {A : Type 0} (p : A → Type 0) (l m : List A) → Each p l → Each p m → Each p (l ++ m)
unfolding Each
each_append p [] m e f = f
each_append p (a ∷ as') m e f = (e.0, each_append p as' m e.1 f)

pub each_same : {A : Type 0} (p : A → Type 0) (n : ℕ) (a : A) → p a → Each p (replicate n a)
unfolding Each
each_same p zero a h = tt
each_same p (suc n) a h = (h, each_same p n a h)

pub each_of_first : {A : Type 0} (p : A → Type 0) (n : ℕ) (l : List A) → All p l → Each p (take n l)
unfolding Each
each_of_first p zero l h = tt
each_of_first p (suc n) [] h = tt
each_of_first p (suc n) (a ∷ as') h = (h 0 a (omega arith), each_of_first p n as' (λ k d l. h (suc k) d (omega arith)))

pub length_hour : (h : ElementHour) → length (element_hour_bytes h) ≡ element_hour_size
length_hour h =
    let xs = h.temp_ext ∷ h.i_sol_dir ∷ h.i_sol_dif ∷ h.f_sh_dir ∷ h.f_sh_dif ∷ [] in
    omega (arith, length-append (row_bytes xs) (h.treatments_open ∷ []), length_row xs)

module _ (bs : List ℕ) where
  -- an hour's part of an element
  module _ (h : ElementHour) (r : List ℕ) (at : ℕ) (f : ElementHourFits h) (e : drop at bs ≡ element_hour_bytes h ++ r) where
    abbrev floats : List Float
    floats = h.temp_ext ∷ h.i_sol_dir ∷ h.i_sol_dif ∷ h.f_sh_dir ∷ h.f_sh_dif ∷ []

    split : drop at bs ≡ row_bytes floats ++ (h.treatments_open ∷ r)
    split = e ∙ append_assoc (row_bytes floats) (h.treatments_open ∷ []) r

    pub open_there : get_or bs (at + open_byte) 0 ≡ h.treatments_open
    open_there = byte_there bs h.treatments_open r (at + open_byte) (past bs (row_bytes floats) (h.treatments_open ∷ r) at open_byte (at + open_byte) refl (length_row floats) split)

    pub hour_there : element_hour_at bs at ≡ h
    hour_there =
        let x : (i q : ℕ) → q ≡ at + float_size * i → i < 5 → float_at bs q ≡ get_or floats i nan =
        λ i q p l. in_row bs floats (h.treatments_open ∷ r) at i q p l (all_fit floats f.floats) split in
        let x0 : float_at bs at ≡ h.temp_ext = x 0 at (omega arith) (omega arith) in
        let x1 : float_at bs (at + float_size * 1) ≡ h.i_sol_dir = x 1 (at + float_size * 1) refl (omega arith) in
        let x2 : float_at bs (at + float_size * 2) ≡ h.i_sol_dif = x 2 (at + float_size * 2) refl (omega arith) in
        let x3 : float_at bs (at + float_size * 3) ≡ h.f_sh_dir = x 3 (at + float_size * 3) refl (omega arith) in
        let x4 : float_at bs (at + float_size * 4) ≡ h.f_sh_dif = x 4 (at + float_size * 4) refl (omega arith) in
        λ i. record { temp_ext = x0 i; i_sol_dir = x1 i; i_sol_dif = x2 i; f_sh_dir = x3 i; f_sh_dif = x4 i; treatments_open = open_there i }
