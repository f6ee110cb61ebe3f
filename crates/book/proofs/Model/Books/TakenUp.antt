-- Which bytes are taken up, and which number and index there is otherwise.
use Rattle.std.proofs.Common.{◌≡◌, refl, sym, ap, ◌∙◌, subst, Bool, true, false, ◌||◌, cond, List, ℕ, ◌≤◌, ◌<◌, zero-add, arith, take, drop, eqb, leb, ltb, eqb-true, eq-eqb, ne_eqb, leb-true, leb-false, ltb-true, ltb-false}
use mathlib.Core.Option.{some}
use borrow.Author.Tests.{eqb-false}
use Rattle.zone.specs.Promise.{Result, ok, refused}
use Rattle.zone.proofs.Promise.{bind_is}
use Rattle.zone.specs.Format.Head.{ReadHead}
use Rattle.book.specs.Numbers.{book_full, false_entry}
use Rattle.book.specs.Model.Bytes.{first_below}
use Rattle.book.specs.Model.Interface.{Interface}
use Rattle.book.proofs.Model.InterfaceLaws.{Laws}
use Rattle.book.specs.Model.Calls.{BookState, accepted, refused_with, take_up}
use Rattle.book.specs.Model.Plain.{Plain, empty, book, snapshot, WellFormed}
use Rattle.book.specs.Model.PlainTakeUp.{number_of_entries, items_in, false_at, first_invalid, refusal_at, test_entries, take_up_plain}
use Rattle.book.specs.Model.Run.{plain_event}
use Rattle.book.specs.Model.Claims.{TakenUp, TakeUpAccepts, TakeUpGives, NotTakenUp, by_head, by_start_up, by_book_full, by_false_entry, TakeUpRefuses}
use Rattle.book.proofs.Model.Laws.Bytes.{some_inj, true_not_false, or_false, first_is, First, first_of}
use Rattle.book.proofs.Model.Agreement.{snapshot_for, take_up_agrees}
use Rattle.book.proofs.Model.Books.Cuts.{take_up_answer, take_up_formed, take_up_ok}

apart : {S B : Type 0} (v w : BookState S) (c j : ℕ) → accepted v ≡ refused_with c j w → B
apart v w c j e = let z : ◌≡◌ {A = ℕ} 0 1 = cc in absurd (omega arith)

apart_lt : (a b : ℕ) → a ≤ b → (a ≡ b → ⊥) → a < b
apart_lt a b le n = go (ltb a b) refl
  where
    go : (t : Bool) → ltb a b ≡ t → a < b
    go true e = ltb-true a b e
    go false e = absurd (n (omega (arith, ltb-false a b e, le)))

-- ---- the plain book's test of whole entries

module _ (L : Interface) (z : L.Zone) (s : L.State) (bs : List ℕ) where
  abbrev N : ℕ
  N = number_of_entries L z bs

  abbrev bad : ℕ → Bool
  bad k = eqb k L.limit || false_at L z s bs k

  bad_false : (k : ℕ) → k < L.limit → false_at L z s bs k ≡ false → bad k ≡ false
  bad_false k lt f = rw (ne_eqb k L.limit (λ e. omega arith), f)

  pub all_true : N ≤ L.limit → ((k : ℕ) → k < N → false_at L z s bs k ≡ false) → test_entries L z s bs ≡ ok tt
  unfolding test_entries first_invalid
  all_true within_limit t =
      let f : first_below N bad ≡ N = first_is N N bad (omega arith) (λ k lt. bad_false k (omega arith) (t k lt)) (λ lt. absurd (omega arith)) in
      rw (f, eq-eqb N N refl)

  pub one_too_many_lem : L.limit < N → ((k : ℕ) → k < L.limit → false_at L z s bs k ≡ false) → test_entries L z s bs ≡ refused book_full 0
  unfolding test_entries first_invalid
  one_too_many_lem lt t =
      let f : first_below N bad ≡ L.limit =
      first_is N L.limit bad (omega arith) (λ k l. bad_false k l (t k l)) (λ l. rw (eq-eqb L.limit L.limit refl)) in
      rw (f, ne_eqb L.limit N (λ e. omega arith), eq-eqb L.limit L.limit refl)

  pub false_one_lem : (k : ℕ) → k < N → k < L.limit → ((j : ℕ) → j < k → false_at L z s bs j ≡ false) → false_at L z s bs k ≡ true
      → test_entries L z s bs ≡ refused false_entry k
  unfolding test_entries first_invalid
  false_one_lem k lt room t f =
      let n : eqb k L.limit ≡ false = ne_eqb k L.limit (λ e. omega arith) in
      let b : first_below N bad ≡ k = first_is N k bad (omega arith) (λ j l. bad_false j (omega arith) (t j l)) (λ l. rw (n, f)) in
      rw (b, ne_eqb k N (λ e. omega arith), n)

  -- and back
  data Tested : Result (Unit {0}) → Type 0 where
    all_true_tested : N ≤ L.limit → ((k : ℕ) → k < N → false_at L z s bs k ≡ false) → Tested (ok tt)
    one_too_many : L.limit < N → ((k : ℕ) → k < L.limit → false_at L z s bs k ≡ false) → Tested (refused book_full 0)
    false_one : (k : ℕ) → k < N → k < L.limit → ((j : ℕ) → j < k → false_at L z s bs j ≡ false) → false_at L z s bs k ≡ true → Tested (refused false_entry k)

  tested : Tested (test_entries L z s bs)
  unfolding test_entries first_invalid
  tested = go (first_of N 0 bad)
    where
      ahead : (F : First N 0 bad) (k : ℕ) → k < F.m → (eqb k L.limit ≡ false) × (false_at L z s bs k ≡ false)
      ahead F k lt = or_false (eqb k L.limit) (false_at L z s bs k) (sym (ap bad (zero-add k)) ∙ F.before k lt)

      -- the limit is not passed
      room : (F : First N 0 bad) → F.m ≤ L.limit
      room F = at (leb F.m L.limit) refl
        where
          at : (b : Bool) → leb F.m L.limit ≡ b → F.m ≤ L.limit
          at true e = leb-true F.m L.limit e
          at false e = true_not_false (sym (eq-eqb L.limit L.limit refl) ∙ (ahead F L.limit (leb-false F.m L.limit e)).0)

      go : First N 0 bad → Tested (cond (eqb (first_below N bad) N) (ok tt) (refusal_at L z (first_below N bad)))
      go F = rw found (at (eqb F.m N) refl (eqb F.m L.limit) refl)
        where
          found : first_below N bad ≡ F.m
          found = F.found ∙ zero-add F.m

          at : (b : Bool) → eqb F.m N ≡ b → (d : Bool) → eqb F.m L.limit ≡ d → Tested (cond (eqb F.m N) (ok tt) (cond (eqb F.m L.limit) (refused book_full 0) (refused false_entry F.m)))
          at true e d q =
              let m : F.m ≡ N = eqb-true F.m N e in
              rw e (all_true_tested (omega (arith, room F)) (λ k lt. (ahead F k (omega arith)).1))
          at false e true q =
              let m : F.m ≡ L.limit = eqb-true F.m L.limit q in
              let lt : F.m < N = apart_lt F.m N F.le (eqb-false F.m N e) in
              rw (e, q) (one_too_many (omega arith) (λ k l. (ahead F k (omega arith)).1))
          at false e false q =
              let lt : F.m < N = apart_lt F.m N F.le (eqb-false F.m N e) in
              let h : false_at L z s bs F.m ≡ true = rw q at (sym (ap bad (zero-add F.m)) ∙ F.here lt) in
              rw (e, q) (false_one F.m lt (apart_lt F.m L.limit (room F) (eqb-false F.m L.limit q)) (λ j l. (ahead F j l).1) h)

-- ---- the plain book's take-up

module _ (L : Interface) (W : Laws L) where
  module _ (bytes : List ℕ) (z : L.Zone) (n : ℕ) (s : L.State) (head_is : L.head_of bytes ≡ ok (record { zone = z; length = n })) (start_is : L.start_up z ≡ ok s) where
    plain_ok : test_entries L z s (drop n bytes) ≡ ok tt → take_up_plain L bytes ≡ ok (book (take n bytes) (items_in L z (drop n bytes)))
    unfolding take_up_plain
    plain_ok t = bind_is _ _ _ _ head_is (bind_is _ _ _ _ start_is (bind_is _ _ _ _ t refl))

    plain_refused : (c j : ℕ) → test_entries L z s (drop n bytes) ≡ refused c j → take_up_plain L bytes ≡ refused c j
    unfolding take_up_plain
    plain_refused c j t = rw (head_is, start_is, t)

  -- the three ways of a plain take-up
  data Ways (bytes : List ℕ) : Result (Plain L.Item) → Type 0 where
    taken : (z : L.Zone) (n : ℕ) (s : L.State) → L.head_of bytes ≡ ok (record { zone = z; length = n }) → L.start_up z ≡ ok s
        → number_of_entries L z (drop n bytes) ≤ L.limit
        → ((k : ℕ) → k < number_of_entries L z (drop n bytes) → false_at L z s (drop n bytes) k ≡ false)
        → Ways bytes (ok (book (take n bytes) (items_in L z (drop n bytes))))
    not_taken : (c j : ℕ) → NotTakenUp L bytes c j → Ways bytes (refused c j)

  ways : (bytes : List ℕ) → Ways bytes (take_up_plain L bytes)
  unfolding take_up_plain
  ways bytes = go (L.head_of bytes) refl
    where
      go₃ : (z : L.Zone) (n : ℕ) (s : L.State) → L.head_of bytes ≡ ok (record { zone = z; length = n }) → L.start_up z ≡ ok s
          → (t : Result (Unit {0})) → Tested L z s (drop n bytes) t → test_entries L z s (drop n bytes) ≡ t → Ways bytes (take_up_plain L bytes)
      go₃ z n s e f t (all_true_tested within_limit a) q = rw (e, f, q) (taken z n s e f within_limit a)
      go₃ z n s e f t (one_too_many lt a) q = rw (e, f, q) (not_taken book_full 0 (by_book_full z n s e f lt a))
      go₃ z n s e f t (false_one k lt room a b) q = rw (e, f, q) (not_taken false_entry k (by_false_entry z n s k e f lt room a b))

      go₂ : (z : L.Zone) (n : ℕ) → L.head_of bytes ≡ ok (record { zone = z; length = n }) → (x : Result L.State) → L.start_up z ≡ x → Ways bytes (take_up_plain L bytes)
      go₂ z n e (refused c j) f = rw (e, f) (not_taken c j (by_start_up z n c j e f))
      go₂ z n e (ok s) f = go₃ z n s e f (test_entries L z s (drop n bytes)) (tested L z s (drop n bytes)) refl

      go : (x : Result (ReadHead L.Zone)) → L.head_of bytes ≡ x → Ways bytes (take_up_plain L bytes)
      go (refused c j) e = rw e (not_taken c j (by_head c j e))
      go (ok h) e = go₂ h.zone h.length e (L.start_up h.zone) refl

  not_taken_up : (bytes : List ℕ) (c j : ℕ) → NotTakenUp L bytes c j → take_up_plain L bytes ≡ refused c j
  unfolding take_up_plain
  not_taken_up bytes c j (by_head n i e) = rw e
  not_taken_up bytes c j (by_start_up z n c' j' e f) = rw (e, f)
  not_taken_up bytes c j (by_book_full z n s e f lt a) = plain_refused bytes z n s e f book_full 0 (one_too_many_lem L z s (drop n bytes) lt a)
  not_taken_up bytes c j (by_false_entry z n s k e f lt room a b) = plain_refused bytes z n s e f false_entry k (false_one_lem L z s (drop n bytes) k lt room a b)

  -- ---- the take-up that the contract cites

  refused_answer : (g : BookState L.State) (bytes : List ℕ) (c j : ℕ) → take_up_plain L bytes ≡ refused c j → take_up L g bytes ≡ refused_with c j g
  refused_answer g bytes c j e = some_inj (take_up_answer L W g bytes ∙ rw e refl)

  -- the book held after an accepted take-up
  held_snapshot : (g : BookState L.State) (bytes : List ℕ) (q : Plain L.Item) (v : BookState L.State) → take_up_plain L bytes ≡ ok q
      → take_up L g bytes ≡ accepted v → snapshot L q ≡ some (record { bytes = take v.used bytes; values = v })
  unfolding plain_event
  held_snapshot g bytes q v e f = sym (rw (e, f) at (ap (λ x. x.held) (take_up_agrees L W empty tt g bytes).0))

  -- bytes that the plain book takes up
  accepted_answer : (g : BookState L.State) (bytes head : List ℕ) (is : List L.Item) → take_up_plain L bytes ≡ ok (book head is)
      → (v : BookState L.State) × (take_up L g bytes ≡ accepted v)
  accepted_answer g bytes head is p =
      let S : WellFormed L head is = take_up_formed L W bytes (book head is) p g in
      ((snapshot_for L head is S).values, take_up_ok L W g bytes head is p S)

  plain_taken : (bytes : List ℕ) (t : TakenUp L bytes) → take_up_plain L bytes ≡ ok (book (take t.n bytes) (items_in L t.zone (drop t.n bytes)))
  plain_taken bytes t =
      plain_ok bytes t.zone t.n t.start t.head_is t.start_is
      (all_true L t.zone t.start (drop t.n bytes) t.within_limit t.none_false)

  pub take_up_accepts : TakeUpAccepts L
  take_up_accepts g bytes = (λ h. there h.0 h.1 (take_up_plain L bytes) refl (ways bytes), λ t. accepted_answer g bytes _ _ (plain_taken bytes t))
    where
      there : (v : BookState L.State) → take_up L g bytes ≡ accepted v → (x : Result (Plain L.Item)) → take_up_plain L bytes ≡ x → Ways bytes x → TakenUp L bytes
      there v h x p (taken z n s e f le a) = record { zone = z; n = n; start = s; head_is = e; start_is = f; within_limit = le; none_false = a }
      there v h x p (not_taken c j w) = apart v g c j (sym h ∙ refused_answer g bytes c j p)

  pub take_up_gives : TakeUpGives L
  take_up_gives g bytes v h t = held_snapshot g bytes _ v (plain_taken bytes t) h

  pub take_up_refuses : TakeUpRefuses L
  take_up_refuses g bytes c j v = (λ h. there h (take_up_plain L bytes) refl (ways bytes), λ w. refused_answer g bytes c j (not_taken_up bytes c j w.1) ∙ ap (refused_with c j) (sym w.0))
    where
      same : (c' j' : ℕ) → refused_with c' j' g ≡ refused_with c j v → NotTakenUp L bytes c' j' → (v ≡ g) × NotTakenUp L bytes c j
      same c' j' e w =
          let cs : c' ≡ c = cc in
          let js : j' ≡ j = cc in
          let vs : v ≡ g = cc in
          (vs, subst (λ x. NotTakenUp L bytes x j) cs (subst (NotTakenUp L bytes c') js w))

      there : take_up L g bytes ≡ refused_with c j v → (x : Result (Plain L.Item)) → take_up_plain L bytes ≡ x → Ways bytes x → (v ≡ g) × NotTakenUp L bytes c j
      there h x p (taken z n s e f within_limit a) =
          let y = accepted_answer g bytes _ _ p in
          apart y.0 v c j (sym y.1 ∙ h)
      there h x p (not_taken c' j' w) = same c' j' (sym (refused_answer g bytes c' j' p) ∙ h) w
