-- What begin, append and take-up are refused with: by every family that allows what the layers refuse with, and the numbers of the book.
use Rattle.std.proofs.Common.{ℕ, ◌+◌, ◌<◌, ◌≡◌, Bool, true, false, cond, List, [], ◌∷◌, leb, ltb, length, drop, ltb-true}
use Rattle.zone.specs.Promise.{Result, ok, refused, RefusesOnly, accepts, refuses}
use Rattle.zone.proofs.Promise.{bind_refuses, test_refuses}
use Rattle.book.specs.Numbers.{buffer_short, book_full, false_entry}
use Rattle.book.specs.Model.Bytes.{equal_bytes}
use Rattle.book.specs.Model.Interface.{Interface, Written}
use Rattle.book.specs.Model.Calls.{BookState, begin_res, append_res, whole_entries, check_entry, check_entries, take_up_res}

module _ (L : Interface) {P : ℕ → ℕ → Type 0} where
  pub append_refuses_by :
      (z : L.Zone) (g : BookState L.State) (i : L.Item) (buf : List ℕ)
      → RefusesOnly P (L.given_test z g.state)
      → (L.given_test z g.state ≡ ok tt → g.count < L.limit → RefusesOnly P (L.append_step z g.count g.state i)) → P buffer_short 0 → P book_full 0
      → RefusesOnly P (append_res L z g i buf)
  unfolding append_res
  append_refuses_by z g i buf zone step buffer_short_lem book_full_lem =
      bind_refuses _ zone λ _ tested.
      test_refuses (ltb g.count L.limit) book_full 0 _ book_full_lem λ t.
      bind_refuses _ (step tested (ltb-true g.count L.limit t)) λ e _.
      test_refuses (leb (g.used + length e.bytes) (length buf)) buffer_short 0 _ buffer_short_lem λ _.
      accepts _

  module _ (head : (bs : List ℕ) → RefusesOnly P (L.head_of bs)) (start_up : (z : L.Zone) → RefusesOnly P (L.start_up z)) where
    pub begin_refuses_by : P buffer_short 0 → (bytes buf : List ℕ) → RefusesOnly P (begin_res L bytes buf)
    unfolding begin_res
    begin_refuses_by buffer_short_lem bytes buf =
        bind_refuses _ (head bytes) λ h _.
        bind_refuses _ (start_up h.zone) λ s _.
        test_refuses (leb h.length (length buf)) buffer_short 0 _ buffer_short_lem λ _.
        accepts _

    module _ (book_full_lem : P book_full 0) (false_entry_lem : (k : ℕ) → k < L.limit → P false_entry k) where
      -- the hour step's own refusal is not passed on: the entry is false
      entry_refuses : (k : ℕ) (c : List ℕ) (r : Result (Written L.State)) → k < L.limit → RefusesOnly P (check_entry L k c r)
      entry_refuses k c (ok e) h = equal_refuses (equal_bytes e.bytes c)
        where
          equal_refuses : (b : Bool) → RefusesOnly P (cond b (ok e.after) (refused false_entry k))
          equal_refuses true = accepts e.after
          equal_refuses false = refuses (false_entry_lem k h)
      entry_refuses k c (refused n j) h = refuses (false_entry_lem k h)

      entries_refuse : (z : L.Zone) (k : ℕ) (s : L.State) (u : ℕ) (cs : List (List ℕ)) → RefusesOnly P (check_entries L z k s u cs)
      unfolding check_entries
      entries_refuse z k s u [] = accepts _
      entries_refuse z k s u (c ∷ cs) =
          test_refuses (ltb k L.limit) book_full 0 _ book_full_lem λ e.
          bind_refuses _ (entry_refuses k c (L.step z k s (L.item_of z c)) (ltb-true k L.limit e)) λ t _.
          entries_refuse z (k + 1) t (u + length c) cs

      pub take_up_refuses_by : (bytes : List ℕ) → RefusesOnly P (take_up_res L bytes)
      unfolding take_up_res
      take_up_refuses_by bytes =
          bind_refuses _ (head bytes) λ h _.
          bind_refuses _ (start_up h.zone) λ s _.
          entries_refuse h.zone 0 s h.length (whole_entries L h.zone (drop h.length bytes))
