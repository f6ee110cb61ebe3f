-- The code's arrays hold what the definitions give as functions of the element's number: what is assembled from either is the same.
use Rattle.std.proofs.Common.{◌≡◌, refl, ap, ◌∙◌, List, ℕ, ◌≤◌, ◌<◌, length, get_or, Float}
use lib.Ieee.{nan}
use Rattle.solver.specs.Repeat.{repeat}
use Rattle.solver.specs.Sums.{sum2, terms}
use Rattle.zone.specs.Physics.Slots.{with_terms}
use Rattle.zone.specs.Inner.Assembly.{at, share_by, convective_by, couple, couple_row}
use Rattle.zone.proofs.Laws.Terms.{repeat_same, terms_same, terms_at}

abbrev pub Agree : ℕ → (f g : ℕ → Float) → Type 0
Agree n f g = (e : ℕ) → e < n → f e ≡ g e

-- an array that a loop filled
pub stored : (n : ℕ) (f : ℕ → Float) (a l : List Float) → a ≡ with_terms n f l → n ≤ length l → Agree n (at a) f
stored n f a l h hl e he = ap (λ (x : List Float). get_or x e nan) h ∙ terms_at f nan n l e he hl

module _ (n : ℕ) (f f' g g' : ℕ → Float) where
  pub agree_trans : Agree n f g → Agree n g g' → Agree n f g'
  agree_trans p q e h = p e h ∙ q e h

  pub shares_agree : (total total' : Float) → Agree n f f' → total ≡ total' → Agree n (share_by f total) (share_by f' total')
  shares_agree total total' p q e h = rw (p e h, q) refl

  pub convective_agree : Agree n f f' → Agree n g g' → Agree n (convective_by f g) (convective_by f' g')
  convective_agree p q e h = rw (p e h, q e h) refl

pub sum2_same : (n : ℕ) (f g : ℕ → Float) → Agree n f g → sum2 (terms 0 n f) ≡ sum2 (terms 0 n g)
sum2_same n f g p = ap (λ (x : List Float). sum2 x) (terms_same f g n p)

module _ (n : ℕ) (h_ci h_ci' share share' : ℕ → Float) (p : Agree n h_ci h_ci') (q : Agree n share share') where
  pub couplings_same : (area area' h_ri h_ri' : ℕ → Float) (m : List Float) → Agree n area area' → Agree n h_ri h_ri'
      → repeat 0 n (couple_row n area h_ri h_ci share) m ≡ repeat 0 n (couple_row n area' h_ri' h_ci' share') m
  unfolding couple_row
  couplings_same area area' h_ri h_ri' m a r =
      repeat_same (couple_row n area h_ri h_ci share) (couple_row n area' h_ri' h_ci' share') n m
      (λ i h x.
      rw (p i h, a i h, r i h, repeat_same (couple share (h_ri' i) i) (couple share' (h_ri' i) i) n x (λ k l y. rw (q k l) refl)) refl)
