-- Laws of the plain book's entries.
use Rattle.std.proofs.Common.{◌≡◌, refl, sym, ap, ◌∙◌, subst, List, [], ◌∷◌, ◌++◌, map, ℕ, suc, ◌+◌, add-zero, arith, length}
use mathlib.Core.List.{map-append}
use lib.ListN.{length-map}
use Rattle.zone.specs.Promise.{ok}
use Rattle.zone.proofs.Promise.{bind_ok, bind_is, ok_inj}
use Rattle.book.specs.Model.Bytes.{concat}
use Rattle.book.specs.Model.Interface.{Interface, Written}
use Rattle.book.proofs.Model.InterfaceLaws.{Laws}
use Rattle.book.specs.Model.Plain.{Entry, entries_of, entry_bytes, last_state}
use Rattle.book.proofs.Model.Laws.Bytes.{concat_append}

module _ {L : Interface} where
  -- the bytes alone, and the items
  abbrev pub bytes_of : List (Entry L) → List (List ℕ)
  bytes_of es = map (λ e. e.bytes) es

  abbrev pub items_of : List (Entry L) → List L.Item
  items_of es = map (λ e. e.item) es

  pub bytes_of_append : (es fs : List (Entry L)) → bytes_of (es ++ fs) ≡ bytes_of es ++ bytes_of fs
  bytes_of_append es fs = map-append (λ e. e.bytes) es fs

  pub length_bytes_of : (es : List (Entry L)) → length (bytes_of es) ≡ length es
  length_bytes_of es = length-map es (λ e. e.bytes)

  pub entry_bytes_append : (es fs : List (Entry L)) → entry_bytes (es ++ fs) ≡ entry_bytes es ++ entry_bytes fs
  entry_bytes_append es fs = ap concat (bytes_of_append es fs) ∙ concat_append (bytes_of es) (bytes_of fs)

  pub last_state_append : (s : L.State) (es fs : List (Entry L)) → last_state s (es ++ fs) ≡ last_state (last_state s es) fs
  last_state_append s [] fs = refl
  last_state_append s (e ∷ es) fs = last_state_append e.after es fs

module _ (L : Interface) where
  abbrev pub Entries : Type 0
  Entries = List (Entry L)

  -- an item with what the hour step gives for it
  abbrev pub entry : L.Item → Written L.State → Entry L
  entry i w = record { item = i; bytes = w.bytes; after = w.after }

  -- the entries of a first item and of the others
  pub record FirstEntry (z : L.Zone) (k : ℕ) (s : L.State) (i : L.Item) (is : List L.Item) (es : Entries) : Type 0 where
    pub e : Written L.State
    pub stepped : L.step z k s i ≡ ok e
    pub others : Entries
    pub rest : entries_of L z (k + 1) e.after is ≡ ok others
    pub joined : entry i e ∷ others ≡ es

  pub entries_cons : (z : L.Zone) (k : ℕ) (s : L.State) (i : L.Item) (is : List L.Item) (es : Entries)
      → entries_of L z k s (i ∷ is) ≡ ok es → FirstEntry z k s i is es
  unfolding entries_of
  entries_cons z k s i is es h =
      let a = bind_ok (L.step z k s i) _ es h in
      let b = bind_ok (entries_of L z (k + 1) a.0.after is) _ es a.2 in
      record { e = a.0; stepped = a.1; others = b.0; rest = b.1; joined = ok_inj b.2 }

  pub cons_entries : (z : L.Zone) (k : ℕ) (s : L.State) (i : L.Item) (is : List L.Item) (e : Written L.State) (es : Entries)
      → L.step z k s i ≡ ok e → entries_of L z (k + 1) e.after is ≡ ok es → entries_of L z k s (i ∷ is) ≡ ok (entry i e ∷ es)
  unfolding entries_of
  cons_entries z k s i is e es p q = bind_is _ _ _ _ p (bind_is _ _ _ _ q refl)

  pub length_entries : (z : L.Zone) (k : ℕ) (s : L.State) (is : List L.Item) (es : Entries) → entries_of L z k s is ≡ ok es → length es ≡ length is
  unfolding entries_of
  length_entries z k s [] es h = sym (ap length (ok_inj h))
  length_entries z k s (i ∷ is) es h =
      let c = entries_cons z k s i is es h in
      sym (ap length c.joined) ∙ ap suc (length_entries z (k + 1) c.e.after is c.others c.rest)

  pub items_are : (z : L.Zone) (k : ℕ) (s : L.State) (is : List L.Item) (es : Entries) → entries_of L z k s is ≡ ok es → items_of es ≡ is
  unfolding entries_of
  items_are z k s [] es h = sym (ap items_of (ok_inj h))
  items_are z k s (i ∷ is) es h =
      let c = entries_cons z k s i is es h in
      sym (ap items_of c.joined) ∙ ap (λ x. i ∷ x) (items_are z (k + 1) c.e.after is c.others c.rest)

  -- what is carried passes an append's test all along
  pub last_tested : Laws L → (z : L.Zone) (k : ℕ) (s : L.State) (is : List L.Item) (es : Entries) → entries_of L z k s is ≡ ok es
      → L.given_test z s ≡ ok tt → L.given_test z (last_state s es) ≡ ok tt
  unfolding entries_of
  last_tested W z k s [] es h t = subst (λ x. L.given_test z (last_state s x) ≡ ok tt) (ok_inj h) t
  last_tested W z k s (i ∷ is) es h t =
      let c = entries_cons z k s i is es h in
      subst (λ x. L.given_test z (last_state s x) ≡ ok tt) c.joined
      (last_tested W z (k + 1) c.e.after is c.others c.rest (W.step_tested z k s i c.e t c.stepped))

  -- the entries of items, and of items behind them
  pub record Parts (z : L.Zone) (k : ℕ) (s : L.State) (xs ys : List L.Item) (es : Entries) : Type 0 where
    pub front : Entries
    pub first : entries_of L z k s xs ≡ ok front
    pub back : Entries
    pub second : entries_of L z (k + length xs) (last_state s front) ys ≡ ok back
    pub joined : front ++ back ≡ es

  pub entries_parts : (z : L.Zone) (k : ℕ) (s : L.State) (xs ys : List L.Item) (es : Entries)
      → entries_of L z k s (xs ++ ys) ≡ ok es → Parts z k s xs ys es
  unfolding entries_of
  entries_parts z k s [] ys es h = record { front = []; first = refl; back = es; second = rw add-zero h; joined = refl }
  entries_parts z k s (x ∷ xs) ys es h =
      let c = entries_cons z k s x (xs ++ ys) es h in
      let p = entries_parts z (k + 1) c.e.after xs ys c.others c.rest in
      let n : k + 1 + length xs ≡ k + suc (length xs) = omega arith in
      record {
        front = entry x c.e ∷ p.front;
        first = bind_is _ _ _ _ c.stepped (bind_is _ _ _ _ p.first refl);
        back = p.back;
        second = subst (λ y. entries_of L z y (last_state c.e.after p.front) ys ≡ ok p.back) n p.second;
        joined = ap (λ y. entry x c.e ∷ y) p.joined ∙ c.joined;
      }

  pub parts_entries : (z : L.Zone) (k : ℕ) (s : L.State) (xs ys : List L.Item) (es fs : Entries)
      → entries_of L z k s xs ≡ ok es → entries_of L z (k + length xs) (last_state s es) ys ≡ ok fs → entries_of L z k s (xs ++ ys) ≡ ok (es ++ fs)
  unfolding entries_of
  parts_entries z k s [] ys es fs p q =
      let n : [] ≡ es = ok_inj p in
      let m : entries_of L z k (last_state s es) ys ≡ ok fs = rw add-zero at q in
      subst (λ x. entries_of L z k (last_state s x) ys ≡ ok fs → entries_of L z k s ys ≡ ok (x ++ fs)) n (λ h. h) m
  parts_entries z k s (x ∷ xs) ys es fs p q =
      let c = entries_cons z k s x xs es p in
      let n : k + suc (length xs) ≡ k + 1 + length xs = omega arith in
      let m : entries_of L z (k + 1 + length xs) (last_state c.e.after c.others) ys ≡ ok fs =
      subst (λ y. entries_of L z y (last_state c.e.after c.others) ys ≡ ok fs) n
      (subst (λ y. entries_of L z (k + suc (length xs)) (last_state s y) ys ≡ ok fs) (sym c.joined) q) in
      cons_entries z k s x (xs ++ ys) c.e (c.others ++ fs) c.stepped (parts_entries z (k + 1) c.e.after xs ys c.others fs c.rest m)
      ∙ ap (λ y. ok (y ++ fs)) c.joined
