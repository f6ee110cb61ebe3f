-- Counting loops whose invariant is that the turns or the terms that are left, from the state now, give what all give from the state at the start:
-- a turn keeps it, and at the end the state is the answer. For `search (rules, repeat_turn)` and `search (rules, repeat_end)`.
use Rattle.std.proofs.Common.{◌≡◌, sym, ap, ◌∙◌, List, ℕ, ◌+◌, ◌≤◌, ◌<◌, set, Float}
use Rattle.solver.specs.declared.sums.Sum2.{Sum2}
use Rattle.solver.specs.Repeat.{repeat}
use Rattle.solver.specs.Sums.{sum2_add, sum2_add_all, sum2_sum, terms}
use Rattle.zone.specs.Physics.Slots.{set_term}
pub use Rattle.solver.proofs.Promise.{repeat_turn, repeat_end}
use Rattle.solver.proofs.Promise.{repeat_next, sum2_terms_next, sum2_terms_done}

module _ {A : Type 0} where
  -- a turn that stores a value worked out before
  pub store_turn : (f : ℕ → A) (i n : ℕ) (l w : List A) (x : A) → i < n → x ≡ f i → repeat i n (set_term f) l ≡ w → repeat (i + 1) n (set_term f) (set l i x) ≡ w
  store_turn f i n l w x h e inv = rw e (sym (repeat_next (set_term f) i n l h) ∙ inv)

module _ (term : ℕ → Float) (i n : ℕ) where
  pub sum2_turn : (s s' w : Sum2) → i < n → s' ≡ sum2_add s (term i) → sum2_add_all s (terms i n term) ≡ w → sum2_add_all s' (terms (i + 1) n term) ≡ w
  sum2_turn s s' w h e inv = rw e (sym (sum2_terms_next s term i n h) ∙ inv)

  pub sum2_end : (s s₀ z : Sum2) (x : Float) → n ≤ i → x ≡ sum2_sum s → s₀ ≡ z
      → sum2_add_all s (terms i n term) ≡ sum2_add_all s₀ (terms 0 n term) → x ≡ sum2_sum (sum2_add_all z (terms 0 n term))
  sum2_end s s₀ z x h e p inv =
      e ∙ ap (λ (a : Sum2). sum2_sum a) (sym (sum2_terms_done s term i n h) ∙ inv ∙ ap (λ (a : Sum2). sum2_add_all a (terms 0 n term)) p)
