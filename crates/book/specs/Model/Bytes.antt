-- Byte strings, and a search for the first number that passes a test.
use Rattle.std.specs.Prelude.{Bool, true, false, cond, List, [], ◌∷◌, ◌++◌, ℕ, zero, suc, ◌+◌, eqb}
use Rattle.std.proofs.Math.Option.{Option, none, some}

abbrev pub concat : {A : Type 0} → List (List A) → List A
concat [] = []
concat (x ∷ xs) = x ++ concat xs

-- f of what is there, or else b
abbrev pub from_option : {A B : Type 0} → (b : B) → (f : A → B) → Option A → B
from_option b f none = b
from_option b f (some a) = f a

abbrev pub map_option : {A B : Type 0} → (A → B) → Option A → Option B
map_option f o = from_option none (λ a. some (f a)) o

-- do two byte strings agree in length and in every byte
abbrev pub equal_bytes : List ℕ → List ℕ → Bool
equal_bytes [] [] = true
equal_bytes [] (y ∷ ys) = false
equal_bytes (x ∷ xs) [] = false
equal_bytes (x ∷ xs) (y ∷ ys) = cond (eqb x y) (equal_bytes xs ys) false

-- the first of the n numbers from k on that passes the test; k + n where none does
unfoldable pub first_from : (n k : ℕ) → (ℕ → Bool) → ℕ
first_from zero k test = k
first_from (suc n) k test = cond (test k) k (first_from n (k + 1) test)

-- the first number below n that passes the test; n where none does
abbrev pub first_below : (n : ℕ) → (ℕ → Bool) → ℕ
first_below n test = first_from n 0 test
