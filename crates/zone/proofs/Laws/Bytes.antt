-- A number by its bytes, as the library reads it.
use Rattle.std.proofs.Common.{◌≡◌, ℕ, ◌+◌, ◌≤◌, List, ◌∷◌, length, take, drop, get_or, arith, refl, ap, ◌∙◌}
use Rattle.std.specs.Int.{w16, w32, w64, from_be_bytes}
use Rattle.solver.proofs.Promise.{drop_next}
use Rattle.zone.specs.Format.Bytes.{big_endian_from, num_at}

module _ (s : List ℕ) (at : ℕ) where
  -- two bytes and what is behind them
  two_of : at + 2 ≤ length s → drop at s ≡ get_or s at 0 ∷ get_or s (at + 1) 0 ∷ drop (at + 2) s
  two_of h =
      let e : at + 1 + 1 ≡ at + 2 = omega arith in
      drop_next s at 0 (omega arith) ∙ ap (λ (l : List ℕ). get_or s at 0 ∷ l) (drop_next s (at + 1) 0 (omega arith) ∙ ap (λ (k : ℕ). get_or s (at + 1) 0 ∷ drop k s) e)

  pub two_bytes : at + 2 ≤ length s → from_be_bytes w16 (take 2 (drop at s)) ≡ num_at s at 2
  unfolding big_endian_from
  two_bytes h = rw (two_of h) (omega arith)

module _ (s : List ℕ) (at : ℕ) where
  four_of : at + 4 ≤ length s → drop at s ≡ get_or s at 0 ∷ get_or s (at + 1) 0 ∷ get_or s (at + 2) 0 ∷ get_or s (at + 3) 0 ∷ drop (at + 4) s
  four_of h =
      let e : at + 2 + 1 ≡ at + 3 = omega arith in
      let f : at + 2 + 2 ≡ at + 4 = omega arith in
      two_of s at (omega arith)
      ∙ ap (λ (l : List ℕ). get_or s at 0 ∷ get_or s (at + 1) 0 ∷ l)
      (two_of s (at + 2) (omega arith) ∙ rw (e, f) refl)

  pub four_bytes : at + 4 ≤ length s → from_be_bytes w32 (take 4 (drop at s)) ≡ num_at s at 4
  unfolding big_endian_from
  four_bytes h = rw (four_of h) (omega arith)

pub eight_bytes : (s : List ℕ) (at : ℕ) → at + 8 ≤ length s → from_be_bytes w64 (take 8 (drop at s)) ≡ num_at s at 8
unfolding big_endian_from
eight_bytes s at h = rw (four_of s at (omega arith), four_of s (at + 4) (omega arith)) (omega arith)
