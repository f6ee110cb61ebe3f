-- The plain book's take-up, which goes by index, against the whole entries as a list.
use Rattle.std.proofs.Common.{◌≡◌, refl, sym, ap, ◌∙◌, subst, ◌⊎◌, inl, inr, Bool, true, false, not, ◌||◌, cond, List, [], ◌∷◌, ◌++◌, map, ℕ, zero, suc, ◌+◌, ◌≤◌, ◌<◌, zero-add, arith, length, take, drop, get_or, take-suc, drop-cons, take-take, get_or-take, length-take-le, eqb, eq-eqb, ne_eqb}
use mathlib.Core.List.{map-append, nil≢cons}
use mathlib.Core.Option.{Option, none, some}
use lib.ListN.{length-map}
use lib.Seq.{split_at, drop-nil, drop-length, take-length, get_or_at}
use Rattle.zone.specs.Promise.{Result, ok, refused}
use Rattle.zone.proofs.Promise.{bind_is}
use Rattle.book.specs.Numbers.{book_full, false_entry}
use Rattle.book.specs.Model.Bytes.{equal_bytes, first_below}
use Rattle.book.specs.Model.Interface.{Interface, Written}
use Rattle.book.proofs.Model.InterfaceLaws.{Laws}
use Rattle.book.specs.Model.Calls.{whole_entries_up_to, whole_entries}
use Rattle.book.specs.Model.Plain.{entries_of, last_state}
use Rattle.book.specs.Model.PlainTakeUp.{first_entry_length, rest_at, entry_at, number_of_entries, items_before, items_in, step_at, refuses_or_differs, false_at, first_invalid, refusal_at, test_entries}
use Rattle.book.proofs.Model.Laws.Bytes.{equal_self, equal_true, first_is}
use Rattle.book.proofs.Model.Laws.Entries.{Entries, bytes_of, length_bytes_of, entries_cons, entries_parts, length_entries, bytes_of_append}
use Rattle.book.proofs.Model.Laws.Checking.{Bad}
use Rattle.book.proofs.Model.Laws.Decode.{whole_none, whole_some}

module _ (L : Interface) (W : Laws L) (z : L.Zone) where
  abbrev cs : List ℕ → List (List ℕ)
  cs bs = whole_entries L z bs

  -- the whole entries of the rest behind the first k of them
  rest_at_lem : (bs : List ℕ) (k : ℕ) → cs (rest_at L z bs k) ≡ drop k (cs bs)
  unfolding rest_at
  rest_at_lem bs zero = refl
  rest_at_lem bs (suc k) = rest_at_lem (drop (first_entry_length L z bs) bs) k ∙ go (L.entry_length z bs) refl
    where
      go : (o : Option ℕ) → L.entry_length z bs ≡ o → drop k (cs (drop (first_entry_length L z bs) bs)) ≡ drop (suc k) (cs bs)
      go none e = rw (e, whole_none L W z bs e) (drop-nil k)
      go (some n) e = rw (e, whole_some L W z bs n e)

  -- where a whole entry is the first, and where there is none
  here : (bs : List ℕ) (c : List ℕ) (ds : List (List ℕ)) → cs bs ≡ c ∷ ds → (0 < first_entry_length L z bs) × (take (first_entry_length L z bs) bs ≡ c)
  here bs c ds h = go (L.entry_length z bs) refl
    where
      go : (o : Option ℕ) → L.entry_length z bs ≡ o → (0 < first_entry_length L z bs) × (take (first_entry_length L z bs) bs ≡ c)
      go none e = let q : [] ≡ c ∷ ds = sym (whole_none L W z bs e) ∙ h in absurd (nil≢cons q)
      go (some n) e =
          let q : take n bs ∷ cs (drop n bs) ≡ c ∷ ds = sym (whole_some L W z bs n e) ∙ h in
          let f : take n bs ≡ c = cc in
          rw e ((W.length_within z bs n e).0, f)

  not_here : (bs : List ℕ) → cs bs ≡ [] → first_entry_length L z bs ≡ 0
  not_here bs h = go (L.entry_length z bs) refl
    where
      go : (o : Option ℕ) → L.entry_length z bs ≡ o → first_entry_length L z bs ≡ 0
      go none e = rw e
      go (some n) e = let q : take n bs ∷ cs (drop n bs) ≡ [] = sym (whole_some L W z bs n e) ∙ h in cc

  behind : (bs : List ℕ) (k : ℕ) → k < length (cs bs) → cs (rest_at L z bs k) ≡ get_or (cs bs) k [] ∷ drop (suc k) (cs bs)
  behind bs k lt = rest_at_lem bs k ∙ drop-cons (cs bs) k [] lt

  entry_at_lem : (bs : List ℕ) (k : ℕ) → k < length (cs bs) → entry_at L z bs k ≡ get_or (cs bs) k []
  unfolding entry_at
  entry_at_lem bs k lt = (here (rest_at L z bs k) (get_or (cs bs) k []) (drop (suc k) (cs bs)) (behind bs k lt)).1

  at_most : (f : ℕ) (bs : List ℕ) → length (whole_entries_up_to L z f bs) ≤ f
  unfolding whole_entries_up_to
  at_most zero bs = omega arith
  at_most (suc f) bs = go (L.entry_length z bs) refl (λ n. at_most f (drop n bs))
    where
      go : (o : Option ℕ) → L.entry_length z bs ≡ o → ((n : ℕ) → length (whole_entries_up_to L z f (drop n bs)) ≤ f) → length (whole_entries_up_to L z (suc f) bs) ≤ suc f
      go none e rec = rw e (omega arith)
      go (some n) e rec = rw e (omega (arith, rec n))

  number_is : (bs : List ℕ) → number_of_entries L z bs ≡ length (cs bs)
  unfolding number_of_entries whole_entries
  number_is bs =
      first_is (length bs) (length (cs bs)) (λ k. eqb (first_entry_length L z (rest_at L z bs k)) 0) (at_most (length bs) bs)
      (λ k lt. let p = (here (rest_at L z bs k) (get_or (cs bs) k []) (drop (suc k) (cs bs)) (behind bs k lt)).0 in
      ne_eqb (first_entry_length L z (rest_at L z bs k)) 0 (λ e. omega arith))
      (λ lt. eq-eqb _ _ (not_here (rest_at L z bs (length (cs bs))) (rest_at_lem bs (length (cs bs)) ∙ drop-length (cs bs))))

  items_before_lem : (bs : List ℕ) (k : ℕ) → k ≤ length (cs bs) → items_before L z bs k ≡ map (L.item_of z) (take k (cs bs))
  unfolding items_before
  items_before_lem bs zero h = refl
  items_before_lem bs (suc k) h =
      (λ i. items_before_lem bs k (omega arith) i ++ (L.item_of z (entry_at_lem bs k (omega arith) i) ∷ []))
      ∙ sym (map-append (L.item_of z) (take k (cs bs)) (get_or (cs bs) k [] ∷ []))
      ∙ ap (map (L.item_of z)) (sym (take-suc (cs bs) k [] (omega arith)))

  pub items_in_lem : (bs : List ℕ) → items_in L z bs ≡ map (L.item_of z) (cs bs)
  items_in_lem bs =
      ap (items_before L z bs) (number_is bs)
      ∙ items_before_lem bs (length (cs bs)) (omega arith)
      ∙ ap (map (L.item_of z)) (take-length (cs bs))

  module _ (s : L.State) (bs : List ℕ) where
    -- the first m whole entries are those that the plain book has for their items
    module _ (m : ℕ) (le : m ≤ length (cs bs)) (es : Entries L) (entries_are : entries_of L z 0 s (map (L.item_of z) (take m (cs bs))) ≡ ok es) where
      step_at_lem : m < length (cs bs) → step_at L z s bs m ≡ L.step z m (last_state s es) (L.item_of z (get_or (cs bs) m []))
      unfolding step_at
      step_at_lem lt = bind_is _ _ _ _ (ap (entries_of L z 0 s) (items_before_lem bs m le) ∙ entries_are) (ap (λ x. L.step z m (last_state s es) (L.item_of z x)) (entry_at_lem bs m lt))

      module _ (same : bytes_of es ≡ take m (cs bs)) where
        true_at : (j : ℕ) → j < m → false_at L z s bs j ≡ false
        unfolding false_at step_at
        true_at j lt =
            let F : List (List ℕ) = take m (cs bs) in
            let c : List ℕ = get_or F j [] in
            let l_f : length F ≡ m = length-take-le m (cs bs) le in
            let sp : F ≡ take j F ++ (c ∷ drop (suc j) F) = split_at F j [] (omega arith) in
            let is : List L.Item = map (L.item_of z) (take j F) in
            let ap' : map (L.item_of z) F ≡ is ++ (L.item_of z c ∷ map (L.item_of z) (drop (suc j) F)) =
            ap (map (L.item_of z)) sp ∙ map-append (L.item_of z) (take j F) (c ∷ drop (suc j) F) in
            let P = entries_parts L z 0 s is (L.item_of z c ∷ map (L.item_of z) (drop (suc j) F)) es (sym (ap (entries_of L z 0 s) ap') ∙ entries_are) in
            let lj : 0 + length is ≡ j = omega (arith, length-map (take j F) (L.item_of z), length-take-le j F (omega arith)) in
            let C = entries_cons L z (0 + length is) (last_state s P.front) (L.item_of z c) (map (L.item_of z) (drop (suc j) F)) P.back P.second in
            let lf : length (bytes_of P.front) ≡ j = length_bytes_of P.front ∙ length_entries L z 0 s is P.front P.first ∙ sym (zero-add (length is)) ∙ lj in
            let whole : bytes_of P.front ++ (C.e.bytes ∷ bytes_of C.others) ≡ F =
            ap (λ x. bytes_of P.front ++ bytes_of x) C.joined ∙ sym (bytes_of_append P.front P.back) ∙ ap bytes_of P.joined ∙ same in
            let e0 : C.e.bytes ≡ c = sym (get_or_at (bytes_of P.front) C.e.bytes (bytes_of C.others) [] j lf) ∙ ap (λ x. get_or x j []) whole in
            let cj : entry_at L z bs j ≡ c = entry_at_lem bs j (omega arith) ∙ sym (get_or-take m (cs bs) j [] lt) in
            let ib : items_before L z bs j ≡ is = items_before_lem bs j (omega arith) ∙ ap (map (L.item_of z)) (sym (take-take j m (cs bs) (omega arith))) in
            let st : L.step z j (last_state s P.front) (L.item_of z c) ≡ ok C.e =
            subst (λ x. L.step z x (last_state s P.front) (L.item_of z c) ≡ ok C.e) lj C.stepped in
            rw (ib, P.first, cj, st, e0, equal_self c)

    -- an entry is false exactly where the step does not give it
    other_false : (r : Result (Written L.State)) (c : List ℕ) → ((t : L.State) → r ≡ ok (record { bytes = c; after = t }) → ⊥) → refuses_or_differs L z r c ≡ true
    other_false (refused n j) c h = refl
    other_false (ok e) c h = go (equal_bytes e.bytes c) refl
      where
        go : (b : Bool) → equal_bytes e.bytes c ≡ b → not (equal_bytes e.bytes c) ≡ true
        go true q = absurd (h e.after (λ i. ok (record { bytes = equal_true e.bytes c q i; after = e.after })))
        go false q = rw q

    -- ---- what the plain book's take-up says of them

    pub tests_ok : (es : Entries L) → entries_of L z 0 s (map (L.item_of z) (cs bs)) ≡ ok es → bytes_of es ≡ cs bs → length (cs bs) ≤ L.limit
        → test_entries L z s bs ≡ ok tt
    unfolding test_entries first_invalid
    tests_ok es entries_are same within_limit =
        let n : ℕ = length (cs bs) in
        let all : take n (cs bs) ≡ cs bs = take-length (cs bs) in
        let entries_are' : entries_of L z 0 s (map (L.item_of z) (take n (cs bs))) ≡ ok es = ap (λ x. entries_of L z 0 s (map (L.item_of z) x)) all ∙ entries_are in
        let f : first_below n (λ k. eqb k L.limit || false_at L z s bs k) ≡ n =
        first_is n n _ (omega arith)
        (λ j lt. rw (ne_eqb j L.limit (λ e. omega arith)) (true_at n (omega arith) es entries_are' (same ∙ sym all) j lt)) (λ lt. absurd (omega arith)) in
        rw (number_is bs, f, eq-eqb n n refl)

    pub tests_bad : (c j : ℕ) → Bad L z 0 s (cs bs) c j → test_entries L z s bs ≡ refused c j
    unfolding test_entries first_invalid false_at
    tests_bad c j B = go B.reason
      where
        n : ℕ
        n = length (cs bs)

        zm : 0 + B.m ≡ B.m
        zm = zero-add B.m

        before : 0 + B.m ≤ L.limit → (i : ℕ) → i < B.m → (eqb i L.limit || false_at L z s bs i) ≡ false
        before le i lt =
            let b = B.below in
            rw (ne_eqb i L.limit (λ e. omega arith)) (true_at B.m (omega arith) B.es B.entries_are B.same i lt)

        first : 0 + B.m ≤ L.limit → (eqb B.m L.limit || false_at L z s bs B.m) ≡ true → first_below n (λ k. eqb k L.limit || false_at L z s bs k) ≡ B.m
        first le t = let b = B.below in first_is n B.m _ (omega arith) (before le) (λ lt. t)

        not_all : eqb B.m n ≡ false
        not_all = let b = B.below in ne_eqb B.m n (λ e. omega arith)

        false_here : ((t : L.State) → L.step z (0 + B.m) (last_state s B.es) (L.item_of z (get_or (cs bs) B.m [])) ≡ ok (record { bytes = get_or (cs bs) B.m []; after = t }) → ⊥)
            → false_at L z s bs B.m ≡ true
        false_here not_given =
            let b = B.below in
            rw (step_at_lem B.m (omega arith) B.es B.entries_are b, entry_at_lem bs B.m b)
            (other_false _ _ (λ t e. not_given t (subst (λ x. L.step z x (last_state s B.es) (L.item_of z (get_or (cs bs) B.m [])) ≡ ok (record { bytes = get_or (cs bs) B.m []; after = t })) (sym zm) e)))

        go : ((0 + B.m ≡ L.limit) × (c ≡ book_full) × (j ≡ 0))
            ⊎ ((0 + B.m < L.limit) × (c ≡ false_entry) × (j ≡ 0 + B.m)
            × ((t : L.State) → L.step z (0 + B.m) (last_state s B.es) (L.item_of z (get_or (cs bs) B.m [])) ≡ ok (record { bytes = get_or (cs bs) B.m []; after = t }) → ⊥))
            → cond (eqb (first_below (number_of_entries L z bs) (λ k. eqb k L.limit || false_at L z s bs k)) (number_of_entries L z bs)) (ok tt)
            (refusal_at L z (first_below (number_of_entries L z bs) (λ k. eqb k L.limit || false_at L z s bs k))) ≡ refused c j
        go (inl w) =
            let t : eqb B.m L.limit ≡ true = eq-eqb _ _ (sym zm ∙ w.0) in
            let f = first (omega (arith, w.0)) (rw t) in
            rw (number_is bs, f, not_all, t) (λ i. refused (sym w.1 i) (sym w.2 i))
        go (inr w) =
            let lt = w.0 in
            let t : eqb B.m L.limit ≡ false = ne_eqb B.m L.limit (λ e. omega arith) in
            let d : false_at L z s bs B.m ≡ true = false_here w.3 in
            let f = first (omega (arith, w.0)) (rw (t, d)) in
            rw (number_is bs, f, not_all, t) (λ i. refused (sym w.1 i) (sym (w.2 ∙ zm) i))
