-- Laws of `check_entries`: what it accepts, what it refuses and where.
use Rattle.std.proofs.Common.{◌≡◌, refl, sym, ap, ◌∙◌, subst, ◌⊎◌, inl, inr, Bool, true, false, cond, List, [], ◌∷◌, ◌++◌, map, ℕ, suc, ◌+◌, ◌≤◌, ◌<◌, add-zero, arith, length, take, get_or, length-append, ltb, ltb-true, ltb-false, lt-ltb}
use Rattle.zone.specs.Promise.{Result, ok, refused, bind, require}
use Rattle.zone.proofs.Promise.{bind_ok, bind_is, require_ok, ok_inj, ok_not_refused}
use Rattle.book.specs.Numbers.{book_full, false_entry}
use Rattle.book.specs.Model.Bytes.{concat, equal_bytes}
use Rattle.book.specs.Model.Interface.{Interface, Written}
use Rattle.book.specs.Model.Calls.{BookState, check_entry, check_entries}
use Rattle.book.specs.Model.Plain.{entries_of, last_state}
use Rattle.book.proofs.Model.Laws.Bytes.{true_not_false, equal_self, equal_true}
use Rattle.book.proofs.Model.Laws.Entries.{Entries, bytes_of, entries_cons}

module _ (L : Interface) where
  check_ok : (k : ℕ) (c : List ℕ) (r : Result (Written L.State)) (t : L.State) → check_entry L k c r ≡ ok t → r ≡ ok (record { bytes = c; after = t })
  check_ok k c (ok e) t h = go (equal_bytes e.bytes c) refl h
    where
      go : (b : Bool) → equal_bytes e.bytes c ≡ b → cond b (ok e.after) (refused false_entry k) ≡ ok t → ok e ≡ ok (record { bytes = c; after = t })
      go true q p = λ i. ok (record { bytes = equal_true e.bytes c q i; after = ok_inj p i })
      go false q p = cc
  check_ok k c (refused n j) t h = cc

  -- refused: 18 at its index, and the step does not give this entry
  check_refused : (k : ℕ) (d : List ℕ) (r : Result (Written L.State)) (c j : ℕ) → check_entry L k d r ≡ refused c j
      → (c ≡ false_entry) × (j ≡ k) × ((t : L.State) → r ≡ ok (record { bytes = d; after = t }) → ⊥)
  check_refused k d (refused n i) c j h = (cc, cc, λ t e. ok_not_refused (record { bytes = d; after = t }) n i (sym e))
  check_refused k d (ok e) c j h = go (equal_bytes e.bytes d) refl h
    where
      go : (b : Bool) → equal_bytes e.bytes d ≡ b → cond b (ok e.after) (refused false_entry k) ≡ refused c j
          → (c ≡ false_entry) × (j ≡ k) × ((t : L.State) → ok e ≡ ok (record { bytes = d; after = t }) → ⊥)
      go true q p = ok_not_refused e.after c j p
      go false q p = (
        cc,
        cc,
        λ t f.
            let x : e.bytes ≡ d = ap (λ y. y.bytes) (ok_inj f) in
            true_not_false (sym (ap (λ y. equal_bytes y d) x ∙ equal_self d) ∙ q),
      )

  -- ---- what is accepted

  pub record Checked (z : L.Zone) (k : ℕ) (s : L.State) (u : ℕ) (cs : List (List ℕ)) (v : BookState L.State) : Type 0 where
    pub es : Entries L
    pub entries_are : entries_of L z k s (map (L.item_of z) cs) ≡ ok es
    pub same : bytes_of es ≡ cs
    pub within_limit : k + length cs ≤ L.limit
    pub values : record { state = last_state s es; count = k + length cs; used = u + length (concat cs) } ≡ v

  pub check_accepted : (z : L.Zone) (k : ℕ) (s : L.State) (u : ℕ) (cs : List (List ℕ)) (v : BookState L.State)
      → k ≤ L.limit → check_entries L z k s u cs ≡ ok v → Checked z k s u cs v
  unfolding entries_of check_entries
  check_accepted z k s u [] v room h = record { es = []; entries_are = refl; same = refl; within_limit = rw add-zero room; values = rw (add-zero, add-zero) (ok_inj h) }
  check_accepted z k s u (c ∷ cs) v room h =
      let a = bind_ok (require (ltb k L.limit) book_full) _ v h in
      let lt : k < L.limit = ltb-true k L.limit (require_ok _ _ _ _ a.1) in
      let b = bind_ok (check_entry L k c (L.step z k s (L.item_of z c))) _ v a.2 in
      let st = check_ok k c (L.step z k s (L.item_of z c)) b.0 b.1 in
      let r = check_accepted z (k + 1) b.0 (u + length c) cs v (omega arith) b.2 in
      let n : k + length {A = List ℕ} (c ∷ cs) ≡ k + 1 + length cs = omega arith in
      let w : u + length (c ++ concat cs) ≡ u + length c + length (concat cs) = omega (arith, length-append c (concat cs)) in
      record {
        es = record { item = L.item_of z c; bytes = c; after = b.0 } ∷ r.es;
        entries_are = bind_is _ _ _ _ st (bind_is _ _ _ _ r.entries_are refl);
        same = ap (λ x. c ∷ x) r.same;
        within_limit = omega (arith, r.within_limit);
        values = (λ i. record { state = last_state b.0 r.es; count = n i; used = w i }) ∙ r.values;
      }

  check_accepts : (z : L.Zone) (k : ℕ) (s : L.State) (u : ℕ) (cs : List (List ℕ)) (es : Entries L)
      → entries_of L z k s (map (L.item_of z) cs) ≡ ok es → bytes_of es ≡ cs → k + length cs ≤ L.limit
      → check_entries L z k s u cs ≡ ok (record { state = last_state s es; count = k + length cs; used = u + length (concat cs) })
  unfolding entries_of check_entries
  check_accepts z k s u [] es h same within_limit = rw (add-zero, add-zero) (ap (λ x. ok (record { state = last_state s x; count = k; used = u })) (ok_inj h))
  check_accepts z k s u (c ∷ cs) es h same within_limit =
      let a = entries_cons L z k s (L.item_of z c) (map (L.item_of z) cs) es h in
      let m : a.e.bytes ∷ bytes_of a.others ≡ c ∷ cs = ap bytes_of a.joined ∙ same in
      let e0 : a.e.bytes ≡ c = cc in
      let r0 : bytes_of a.others ≡ cs = cc in
      let tested : check_entry L k c (L.step z k s (L.item_of z c)) ≡ ok a.e.after = rw (a.stepped, e0, equal_self) in
      let n : k + 1 + length cs ≡ k + length {A = List ℕ} (c ∷ cs) = omega arith in
      let w : u + length c + length (concat cs) ≡ u + length (c ++ concat cs) = omega (arith, length-append c (concat cs)) in
      let r = check_accepts z (k + 1) a.e.after (u + length c) cs a.others a.rest r0 (omega arith) in
      bind_is (require (ltb k L.limit) book_full) _ tt _ (rw (lt-ltb k L.limit (omega arith)))
      (bind_is _ _ _ _ tested (r ∙ (λ i. ok (record { state = last_state s (a.joined i); count = n i; used = w i }))))

  -- ---- what is refused: the first m entries are the step's, and the next one is one too many or is not

  pub record Bad (z : L.Zone) (k : ℕ) (s : L.State) (cs : List (List ℕ)) (c j : ℕ) : Type 0 where
    pub m : ℕ
    pub below : m < length cs
    pub es : Entries L
    pub entries_are : entries_of L z k s (map (L.item_of z) (take m cs)) ≡ ok es
    pub same : bytes_of es ≡ take m cs
    pub reason : ((k + m ≡ L.limit) × (c ≡ book_full) × (j ≡ 0))
        ⊎ ((k + m < L.limit) × (c ≡ false_entry) × (j ≡ k + m)
        × ((t : L.State) → L.step z (k + m) (last_state s es) (L.item_of z (get_or cs m [])) ≡ ok (record { bytes = get_or cs m []; after = t }) → ⊥))

  pub check_bad : (z : L.Zone) (k : ℕ) (s : L.State) (u : ℕ) (cs : List (List ℕ)) (c j : ℕ)
      → k ≤ L.limit → check_entries L z k s u cs ≡ refused c j → Bad z k s cs c j
  unfolding check_entries entries_of
  check_bad z k s u [] c j room h = ok_not_refused _ c j h
  check_bad z k s u (d ∷ cs) c j room h =
      at (ltb k L.limit) refl (check_entry L k d (L.step z k s (L.item_of z d))) refl
      (λ t lt. check_bad z (k + 1) t (u + length d) cs c j (omega (arith, lt))) h
    where
      at : (b : Bool) → ltb k L.limit ≡ b → (x : Result L.State) → check_entry L k d (L.step z k s (L.item_of z d)) ≡ x
          → ((t : L.State) → k < L.limit → check_entries L z (k + 1) t (u + length d) cs ≡ refused c j → Bad z (k + 1) t cs c j)
          → bind (require b book_full) (λ _. bind x (λ t. check_entries L z (k + 1) t (u + length d) cs)) ≡ refused c j → Bad z k s (d ∷ cs) c j
      at false b x e rec g =
          record {
            m = 0;
            below = omega arith;
            es = [];
            entries_are = refl;
            same = refl;
            reason = inl (omega (arith, ltb-false k L.limit b, room), cc, cc);
          }
      at true b (refused n i) e rec g =
          let w = check_refused k d (L.step z k s (L.item_of z d)) n i e in
          let lt = ltb-true k L.limit b in
          record {
            m = 0;
            below = omega arith;
            es = [];
            entries_are = refl;
            same = refl;
            reason = inr (omega arith, cc w.0, cc (w.1, add-zero k), λ t f. w.2 t (subst (λ y. L.step z y s (L.item_of z d) ≡ ok (record { bytes = d; after = t })) (add-zero k) f));
          }
      at true b (ok t) e rec g =
          let r = rec t (ltb-true k L.limit b) g in
          let st = check_ok k d (L.step z k s (L.item_of z d)) t e in
          let n : k + 1 + r.m ≡ k + suc r.m = omega arith in
          record {
            m = suc r.m;
            below = omega (arith, r.below);
            es = record { item = L.item_of z d; bytes = d; after = t } ∷ r.es;
            entries_are = bind_is _ _ _ _ st (bind_is _ _ _ _ r.entries_are refl);
            same = ap (λ y. d ∷ y) r.same;
            reason = subst (λ y. ((y ≡ L.limit) × (c ≡ book_full) × (j ≡ 0)) ⊎ ((y < L.limit) × (c ≡ false_entry) × (j ≡ y)
                × ((t' : L.State) → L.step z y (last_state t r.es) (L.item_of z (get_or cs r.m [])) ≡ ok (record { bytes = get_or cs r.m []; after = t' }) → ⊥))) n r.reason;
          }
