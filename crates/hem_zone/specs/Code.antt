-- What a call returns, and what it leaves in what it was lent.
-- Specification, Answers in C; What a refusal is.
use Rattle.std.specs.Prelude.{ℕ, ◌+◌, ◌*◌, ◌%◌, ◌^◌}
use Rattle.zone.specs.Promise.{Result, ok, refused}

-- number + 256 × index, in the 32 bits of an answer. A number is at most 24 and an index at most 8,783, so nothing is cut off: `exact` in Claims.antt.
unfoldable pub refusal_code : (number index : ℕ) → ℕ
refusal_code number index = (number + 256 * index) % 2 ^ 32

-- 0 where a call is accepted, else number + 256 × index
unfoldable pub answer_code : {A : Type 0} → Result A → ℕ
answer_code (ok a) = 0
answer_code (refused number index) = refusal_code number index

-- a refusal has written nothing: what stands in the lent arrays after a call is what it writes where it is accepted, else what stood there before
unfoldable pub lent_after : {A B : Type 0} → (written : A → B) → (before : B) → Result A → B
lent_after written before (ok a) = written a
lent_after written before (refused number index) = before

-- the returned number, beside the lent arrays
unfoldable pub answered : {A B : Type 0} → (written : A → B) → (before : B) → Result A → ℕ × B
answered written before r = (answer_code r, lent_after written before r)
