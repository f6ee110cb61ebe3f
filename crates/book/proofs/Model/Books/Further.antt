-- A take-up of a book's bytes with further ones behind them: the book's own entries are accepted, and the further bytes are judged from its state on.
use Rattle.std.proofs.Common.{◌≡◌, refl, sym, ap, ◌∙◌, subst, List, [], ◌∷◌, ◌++◌, append_assoc, ℕ, ◌+◌, ◌≤◌, ◌<◌, add-zero, zero-add, arith, length, length-append, take_at, drop_at, lt-ltb, le-ltb}
use mathlib.Core.Option.{none, some}
use Rattle.zone.specs.Promise.{Result, ok, refused}
use Rattle.zone.proofs.Promise.{ok_inj}
use Rattle.book.specs.Numbers.{book_full, false_entry}
use Rattle.book.specs.Model.Interface.{Interface, Written}
use Rattle.book.specs.Model.Calls.{BookState, whole_entries, check_entry, check_entries, take_up_res}
use Rattle.book.specs.Model.Plain.{entries_of, entry_bytes, last_state, used_bytes, own_book_state, WellFormed}
use Rattle.book.proofs.Model.InterfaceLaws.{Laws}
use Rattle.book.proofs.Model.Laws.Bytes.{equal_self}
use Rattle.book.proofs.Model.Laws.Entries.{Entries, entries_cons, length_entries}
use Rattle.book.proofs.Model.Laws.Decode.{whole_none, whole_some, whole_next}
use Rattle.book.proofs.Model.Agreement.{head_on}

module _ (L : Interface) (W : Laws L) where
  module _ (z : L.Zone) where
    -- one entry that the hour step gives
    check_next : (k : ℕ) (s : L.State) (u : ℕ) (i : L.Item) (e : Written L.State) → L.step z k s i ≡ ok e → k < L.limit → (behind : List ℕ)
        → check_entries L z k s u (whole_entries L z (e.bytes ++ behind)) ≡ check_entries L z (k + 1) e.after (u + length e.bytes) (whole_entries L z behind)
    unfolding check_entries
    check_next k s u i e stepped few behind =
        rw (whole_next L W z k s i e stepped behind, lt-ltb k L.limit few, W.item_back z k s i e stepped, stepped, equal_self e.bytes) refl

    abbrev GoesOn : (k : ℕ) (s : L.State) (u : ℕ) (is : List L.Item) (behind : List ℕ) → Entries L → Type 0
    GoesOn k s u is behind es =
        check_entries L z k s u (whole_entries L z (entry_bytes es ++ behind))
        ≡ check_entries L z (k + length is) (last_state s es) (u + length (entry_bytes es)) (whole_entries L z behind)

    -- all that it gives for items
    check_all : (k : ℕ) (s : L.State) (u : ℕ) (is : List L.Item) (es : Entries L) → entries_of L z k s is ≡ ok es → k + length is ≤ L.limit → (behind : List ℕ)
        → GoesOn k s u is behind es
    unfolding entries_of
    check_all k s u [] es h room behind = subst (GoesOn k s u [] behind) (ok_inj h) (rw (add-zero, add-zero) refl)
    check_all k s u (i ∷ is) es h room behind =
        let c = entries_cons L z k s i is es h in
        let e = c.e in
        let bs = entry_bytes c.others in
        let n : k + 1 + length is ≡ k + length {A = L.Item} (i ∷ is) = omega arith in
        let m : u + length e.bytes + length bs ≡ u + length (e.bytes ++ bs) = omega (arith, length-append e.bytes bs) in
        subst (GoesOn k s u (i ∷ is) behind) c.joined
        (ap (λ x. check_entries L z k s u (whole_entries L z x)) (append_assoc e.bytes bs behind)
        ∙ check_next k s u i e c.stepped (omega arith) (bs ++ behind)
        ∙ check_all (k + 1) e.after (u + length e.bytes) is c.others c.rest (omega arith) behind
        ∙ (λ j. check_entries L z (n j) (last_state e.after c.others) (m j) (whole_entries L z behind)))

  -- a take-up of a book's bytes and further ones judges these from the book's state on
  module _ (head : List ℕ) (is : List L.Item) (S : WellFormed L head is) where
    abbrev behind_of : (rest : List ℕ) → Result (BookState L.State)
    behind_of rest =
        let c = S.contents in
        check_entries L c.zone (length is) (last_state c.start c.entries) (length head + length (entry_bytes c.entries)) (whole_entries L c.zone rest)

    taken_up_with_lem : (rest : List ℕ) → take_up_res L (used_bytes L head S.contents ++ rest) ≡ behind_of rest
    unfolding take_up_res
    taken_up_with_lem rest =
        let z = S.contents.zone in
        let s = S.contents.start in
        let es = S.contents.entries in
        let u = length head + length (entry_bytes es) in
        rw (append_assoc head (entry_bytes es) rest, head_on L W head is S (entry_bytes es ++ rest), S.start_is, drop_at head (entry_bytes es ++ rest) (length head) refl)
        (check_all z 0 s (length head) is es S.entries_are (omega (arith, S.within_limit)) rest
        ∙ ap (λ (k : ℕ). check_entries L z k (last_state s es) u (whole_entries L z rest)) (zero-add (length is)))

    -- a rest that begins with no whole entry is dropped
    pub dropped_behind : (rest : List ℕ) → L.entry_length S.contents.zone rest ≡ none → take_up_res L (used_bytes L head S.contents ++ rest) ≡ ok (own_book_state L head S.contents)
    unfolding check_entries
    dropped_behind rest e =
        let c = S.contents in
        taken_up_with_lem rest
        ∙ rw (whole_none L W c.zone rest e)
        (λ j. ok (record { state = last_state c.start c.entries; count = sym (length_entries L c.zone 0 c.start is c.entries S.entries_are) j; used = sym (length-append head (entry_bytes c.entries)) j }))

    -- a whole entry where no more may follow: 17
    pub full_behind : length is ≡ L.limit → (rest : List ℕ) (n : ℕ) → L.entry_length S.contents.zone rest ≡ some n
        → take_up_res L (used_bytes L head S.contents ++ rest) ≡ refused book_full 0
    unfolding check_entries
    full_behind full rest n e = taken_up_with_lem rest ∙ rw (whole_some L W S.contents.zone rest n e, le-ltb (length is) L.limit (omega (arith, full))) refl

    -- a whole entry that is not what the hour step gives: 18 at its index
    pub false_behind : length is < L.limit → (c rest : List ℕ) → L.entry_length S.contents.zone (c ++ rest) ≡ some (length c)
        → check_entry L (length is) c (L.step S.contents.zone (length is) (last_state S.contents.start S.contents.entries) (L.item_of S.contents.zone c)) ≡ refused false_entry (length is)
        → take_up_res L (used_bytes L head S.contents ++ (c ++ rest)) ≡ refused false_entry (length is)
    unfolding check_entries
    false_behind few c rest whole judged =
        let z = S.contents.zone in
        let read : whole_entries L z (c ++ rest) ≡ c ∷ whole_entries L z rest =
        whole_some L W z (c ++ rest) (length c) whole ∙ (λ j. take_at c rest (length c) refl j ∷ whole_entries L z (drop_at c rest (length c) refl j)) in
        taken_up_with_lem (c ++ rest) ∙ rw (read, lt-ltb (length is) L.limit few, judged) refl

    -- one whose item it refuses
    pub refused_behind : length is < L.limit → (c rest : List ℕ) → L.entry_length S.contents.zone (c ++ rest) ≡ some (length c)
        → (number index : ℕ) → L.step S.contents.zone (length is) (last_state S.contents.start S.contents.entries) (L.item_of S.contents.zone c) ≡ refused number index
        → take_up_res L (used_bytes L head S.contents ++ (c ++ rest)) ≡ refused false_entry (length is)
    refused_behind few c rest whole number index stops = false_behind few c rest whole (rw stops refl)
