-- An append and a cut of a well-formed book are made; a cut of it is never refused, keeps the first items, and what it took is held again once it is accepted anew.
use Rattle.std.proofs.Common.{◌≡◌, refl, sym, ap, ◌∙◌, subst, Bool, true, false, ◌&&◌, List, [], ◌∷◌, ◌++◌, map, append_assoc, append-nil, ℕ, ◌+◌, ◌≤◌, ◌<◌, zero-add, arith, length, take, drop, length-append, drop_at, drop-drop, leb, ltb, leb-true, leb-false, le-leb, lt-ltb}
use mathlib.Core.Option.{none, some}
use Rattle.zone.specs.Promise.{Result, ok, refused, require}
use Rattle.zone.proofs.Promise.{bind_ok, ok_inj, and_true}
use Rattle.book.specs.Numbers.{buffer_short, book_full}
use Rattle.book.specs.Model.Interface.{Interface, Written}
use Rattle.book.proofs.Model.InterfaceLaws.{Laws}
use Rattle.book.specs.Model.Calls.{BookState, Answer, accepted, refused_with, append, take_up}
use Rattle.book.specs.Model.Plain.{Plain, empty, book, entry_bytes, last_state, entries_of, contents_of, snapshot, append_plain, items_ending_by, WellFormed}
use Rattle.book.proofs.Model.Formed.{PlainFormed}
use Rattle.book.specs.Model.PlainTakeUp.{take_up_plain}
use Rattle.book.specs.Model.Run.{call_append, call_cut, plain_outcome, plain_make, plain_event, plain_run, plain_after}
use Rattle.book.specs.Model.Claims.{appends_of, AllAccepted, HaveRoom, OfBook}
use Rattle.book.proofs.Model.Laws.Bytes.{some_inj, none_not_some}
use Rattle.book.proofs.Model.Laws.Entries.{Entries, entry, items_of, items_are, entries_cons, entries_parts, length_entries}
use Rattle.book.proofs.Model.Laws.Decode.{none_ending}
use Rattle.book.proofs.Model.Agreement.{contents_is, snapshot_for, snapshot_is, head_on, take_up_agrees}
use Rattle.book.proofs.Model.Caller.{make}
use Rattle.book.proofs.Model.AppendCut.{used_of, own, call_append_lem, plain_append, more, kept_items, cut_is, cut_take_up}
use Rattle.book.proofs.Model.Whole.{agrees}

module _ (L : Interface) (W : Laws L) where
  -- a take-up's answer is the plain book's
  pub take_up_answer : (g : BookState L.State) (bytes : List ℕ) → some (take_up L g bytes) ≡ (plain_outcome L g none empty (take_up_plain L bytes)).answer
  unfolding plain_event
  take_up_answer g bytes = ap (λ e. e.answer) (take_up_agrees L W empty tt g bytes).0

  pub take_up_formed : (bytes : List ℕ) (q : Plain L.Item) → take_up_plain L bytes ≡ ok q → BookState L.State → PlainFormed L q
  take_up_formed bytes q e g = rw e at (take_up_agrees L W empty tt g bytes).1

  pub take_up_ok : (g : BookState L.State) (bytes : List ℕ) (head : List ℕ) (is : List L.Item) → take_up_plain L bytes ≡ ok (book head is)
      → (S : WellFormed L head is) → take_up L g bytes ≡ accepted (snapshot_for L head is S).values
  take_up_ok g bytes head is e S = let v = snapshot_is L head is S in some_inj (take_up_answer g bytes ∙ rw (e, v) refl)

  cut_accepted : (head : List ℕ) (is : List L.Item) (S : WellFormed L head is) (at : ℕ) → length head ≤ at → (g : BookState L.State)
      → (v : BookState L.State) × (take_up L g (take at (used_of L W head is S)) ≡ accepted v)
  cut_accepted head is S at lo g =
      let T : List ℕ = take at (used_of L W head is S) in
      let p : take_up_plain L T ≡ ok (book head (kept_items L W head is S at)) = sym (cut_take_up L W head is S at lo) ∙ cut_is L W head is S at in
      let S' : WellFormed L head (kept_items L W head is S at) = take_up_formed T _ p g in
      ((snapshot_for L head (kept_items L W head is S at) S').values, take_up_ok g T head (kept_items L W head is S at) p S')

  keeps_first : (at b : ℕ) (es : Entries L) → (lost : List L.Item) × (items_ending_by L at b es ++ lost ≡ items_of es)
  unfolding items_ending_by
  keeps_first at b [] = ([], refl)
  keeps_first at b (e ∷ es) = go (leb (b + length e.bytes) at) refl (keeps_first at (b + length e.bytes) es)
    where
      go : (t : Bool) → leb (b + length e.bytes) at ≡ t
          → (lost : List L.Item) × (items_ending_by L at (b + length e.bytes) es ++ lost ≡ items_of es)
          → (lost : List L.Item) × (items_ending_by L at b (e ∷ es) ++ lost ≡ items_of (e ∷ es))
      go true t r = (r.0, rw t (ap (λ x. e.item ∷ x) r.1))
      go false t r = (items_of (e ∷ es), rw (t, none_ending L at (b + length e.bytes) es (leb-false (b + length e.bytes) at t)))

  cut_keeps_first : (head : List ℕ) (is : List L.Item) (S : WellFormed L head is) (at : ℕ) → (lost : List L.Item) × (kept_items L W head is S at ++ lost ≡ is)
  cut_keeps_first head is S at =
      let r = keeps_first at (length head) S.contents.entries in
      (r.0, r.1 ∙ items_are L S.contents.zone 0 S.contents.start is S.contents.entries S.entries_are)

  -- ---- what a cut took, accepted anew

  cut_next : (head : List ℕ) (is : List L.Item) (S : WellFormed L head is) (at : ℕ) → length head ≤ at → at ≤ length (used_of L W head is S)
      → (plain_make L (book head is) (call_cut at)).next ≡ book head (kept_items L W head is S at)
  unfolding plain_make
  cut_next head is S at lo hi = rw (snapshot_is L head is S, le-leb (length head) at lo, le-leb at (length (used_of L W head is S)) hi, cut_is L W head is S at)

  -- an append that is accepted adds its item
  accepted_adds : (head : List ℕ) (is : List L.Item) (i : L.Item) (spare : List ℕ) (q : Plain L.Item)
      → append_plain L head is i spare ≡ ok q → q ≡ book head (is ++ (i ∷ []))
  unfolding append_plain
  accepted_adds head is i spare q h =
      let a = bind_ok (contents_of L head is) _ q h in
      let b = bind_ok (require (ltb (length a.0.entries) L.limit) book_full) _ q a.2 in
      let c = bind_ok (L.append_step a.0.zone (length a.0.entries) (last_state a.0.start a.0.entries) i) _ q b.2 in
      let d = bind_ok (require (leb (length c.0.bytes) (length spare)) buffer_short) _ q c.2 in
      sym (ok_inj d.2)

  adds : (head : List ℕ) (is : List L.Item) (S : WellFormed L head is) (i : L.Item) (spare : List ℕ) (v : BookState L.State)
      → (plain_make L (book head is) (call_append i spare)).answer ≡ some (accepted v) → (plain_make L (book head is) (call_append i spare)).next ≡ book head (is ++ (i ∷ []))
  adds head is S i spare v h = go (append_plain L head is i spare) refl
    where
      go : (x : Result (Plain L.Item)) → append_plain L head is i spare ≡ x → (plain_make L (book head is) (call_append i spare)).next ≡ book head (is ++ (i ∷ []))
      go (ok q) e = ap (λ t. t.next) (plain_append L W head is S i spare) ∙ rw e (accepted_adds head is i spare q e)
      go (refused c j) e =
          let r : refused_with c j (own L W head is S) ≡ accepted v = some_inj (sym (ap (λ t. t.answer) (plain_append L W head is S i spare) ∙ rw e refl) ∙ h) in
          let z : ◌≡◌ {A = ℕ} 0 1 = cc in absurd (omega arith)

  -- a list of appends that are all accepted adds all items
  adds_all : (head : List ℕ) (is : List L.Item) → WellFormed L head is → (ps : List (L.Item × List ℕ))
      → AllAccepted L (plain_run L (book head is) (appends_of L ps)) → plain_after L (book head is) (appends_of L ps) ≡ book head (is ++ map (λ p. p.0) ps)
  unfolding plain_run plain_after plain_event
  adds_all head is S [] a = ap (book head) (sym (append-nil is))
  adds_all head is S (p ∷ ps) a =
      let n = adds head is S p.0 p.1 a.0.0 a.0.1 in
      let S' : WellFormed L head (is ++ (p.0 ∷ [])) = subst (PlainFormed L) n (agrees L W (book head is) S (call_append p.0 p.1)).1 in
      ap (λ x. plain_after L x (appends_of L ps)) n
      ∙ adds_all head (is ++ (p.0 ∷ [])) S' ps (subst (λ x. AllAccepted L (plain_run L x (appends_of L ps))) n a.1)
      ∙ ap (book head) (append_assoc is (p.0 ∷ []) (map (λ x. x.0) ps))

  pub formed_after : (head : List ℕ) (is : List L.Item) (S : WellFormed L head is) (at : ℕ) → length head ≤ at → at ≤ length (used_of L W head is S)
      → WellFormed L head (kept_items L W head is S at)
  formed_after head is S at lo hi = subst (PlainFormed L) (cut_next head is S at lo hi) (agrees L W (book head is) S (call_cut at)).1

  held_again : (head : List ℕ) (is : List L.Item) (S : WellFormed L head is) (at : ℕ) → length head ≤ at → at ≤ length (used_of L W head is S)
      → (ps : List (L.Item × List ℕ)) → kept_items L W head is S at ++ map (λ p. p.0) ps ≡ is
      → AllAccepted L (plain_run L (book head (kept_items L W head is S at)) (appends_of L ps))
      → plain_after L (book head is) (call_cut at ∷ appends_of L ps) ≡ book head is
  unfolding plain_after
  held_again head is S at lo hi ps e a =
      ap (λ x. plain_after L x (appends_of L ps)) (cut_next head is S at lo hi)
      ∙ adds_all head (kept_items L W head is S at) (formed_after head is S at lo hi) ps a
      ∙ ap (book head) e

  -- Items that a book of entries `all` has behind the items `is`: the first of them, with its entry
  pub record NextEntry (head : List ℕ) (is : List L.Item) (S : WellFormed L head is) (i : L.Item) (all : Entries L) : Type 0 where
    pub e : Written L.State
    pub others : Entries L
    pub stepped : L.step S.contents.zone (length S.contents.entries) (last_state S.contents.start S.contents.entries) i ≡ ok e
    pub behind : drop (length is) all ≡ entry L i e ∷ others
    pub room : length S.contents.entries < L.limit

  next_entry : (head : List ℕ) (is : List L.Item) (S : WellFormed L head is) (i : L.Item) (lost : List L.Item) (all : Entries L)
      → entries_of L S.contents.zone 0 S.contents.start (is ++ (i ∷ lost)) ≡ ok all → length (is ++ (i ∷ lost)) ≤ L.limit → NextEntry head is S i all
  next_entry head is S i lost all entries_are within_limit =
      let P = entries_parts L S.contents.zone 0 S.contents.start is (i ∷ lost) all entries_are in
      let C = entries_cons L S.contents.zone (0 + length is) (last_state S.contents.start P.front) i lost P.back P.second in
      let f : P.front ≡ S.contents.entries = ok_inj (sym P.first ∙ S.entries_are) in
      let n : length P.front ≡ length is = length_entries L S.contents.zone 0 S.contents.start is P.front P.first in
      let k : 0 + length is ≡ length S.contents.entries = zero-add (length is) ∙ sym n ∙ ap length f in
      record {
        e = C.e;
        others = C.others;
        stepped = (λ t. L.step S.contents.zone (sym k t) (last_state S.contents.start (sym f t)) i) ∙ C.stepped;
        behind = sym (ap (drop (length is)) P.joined) ∙ drop_at P.front P.back (length is) n ∙ sym C.joined;
        room = omega (arith, length-append is (i ∷ lost), k);
      }

  all_accepted : (head : List ℕ) (is : List L.Item) (S : WellFormed L head is) (ps : List (L.Item × List ℕ)) (all : Entries L)
      → entries_of L S.contents.zone 0 S.contents.start (is ++ map (λ p. p.0) ps) ≡ ok all → length (is ++ map (λ p. p.0) ps) ≤ L.limit
      → HaveRoom L (drop (length is) all) ps → AllAccepted L (plain_run L (book head is) (appends_of L ps))
  unfolding plain_run plain_event append_plain more
  all_accepted head is S [] all entries_are within_limit r = tt
  all_accepted head is S (p ∷ ps) all entries_are within_limit r =
      let lost : List L.Item = map (λ x. x.0) ps in
      let is' : List L.Item = is ++ (p.0 ∷ []) in
      let N = next_entry head is S p.0 lost all entries_are within_limit in
      let q : HaveRoom L (entry L p.0 N.e ∷ N.others) (p ∷ ps) = subst (λ x. HaveRoom L x (p ∷ ps)) N.behind r in
      let S' : WellFormed L head is' = more L W head is S p.0 N.e N.stepped N.room in
      let added : append_plain L head is p.0 p.1 ≡ ok (book head is') =
      rw (
        contents_is L head is S,
        lt-ltb (length S.contents.entries) L.limit N.room,
        q.1 _ _ _ _ N.stepped,
        le-leb (length N.e.bytes) (length p.1) q.0,
      ) in
      let assoc : is' ++ lost ≡ is ++ (p.0 ∷ lost) = append_assoc is (p.0 ∷ []) lost in
      let b : drop (length is') all ≡ N.others =
      ap (λ x. drop x all) (length-append is (p.0 ∷ [])) ∙ sym (drop-drop 1 (length is) all) ∙ ap (drop 1) N.behind in
      let rest = all_accepted head is' S' ps all (ap (entries_of L S.contents.zone 0 S.contents.start) assoc ∙ entries_are) (rw assoc within_limit) (subst (λ x. HaveRoom L x ps) (sym b) q.2) in
      let v = snapshot_is L head is' S' in
      rw (plain_append L W head is S p.0 p.1, added, v) (((snapshot_for L head is' S').values, refl), rest)

  -- the entries of a book belong to its head, whatever else the head is held with
  same_start : (head : List ℕ) (is : List L.Item) (S : WellFormed L head is) (xs : List L.Item) (S' : WellFormed L head xs) {ys : List L.Item} → ys ≡ is
      → entries_of L S'.contents.zone 0 S'.contents.start ys ≡ ok S.contents.entries
  same_start head is S xs S' e =
      let zs : S.contents.zone ≡ S'.contents.zone = ap (λ x. x.zone) (ok_inj (sym S.head_is ∙ S'.head_is)) in
      let ss : S.contents.start ≡ S'.contents.start = ok_inj (sym S.start_is ∙ ap L.start_up zs ∙ S'.start_is) in
      (λ t. entries_of L (sym zs t) 0 (sym ss t) (e t)) ∙ S.entries_are

  -- the first of the hours that a cut took: what the hour step gives for it behind those that are kept
  pub lost_entry : (head : List ℕ) (is : List L.Item) (S : WellFormed L head is) (at : ℕ) (lo : length head ≤ at) (hi : at ≤ length (used_of L W head is S))
      → (i : L.Item) (later : List L.Item) → kept_items L W head is S at ++ (i ∷ later) ≡ is
      → NextEntry head (kept_items L W head is S at) (formed_after head is S at lo hi) i S.contents.entries
  lost_entry head is S at lo hi i later e =
      let xs : List L.Item = kept_items L W head is S at in
      let S' = formed_after head is S at lo hi in
      next_entry head xs S' i later S.contents.entries (same_start head is S xs S' e) (rw e S.within_limit)

  accepted_anew : (head : List ℕ) (is : List L.Item) (S : WellFormed L head is) (at : ℕ) → length head ≤ at → at ≤ length (used_of L W head is S)
      → (ps : List (L.Item × List ℕ)) → kept_items L W head is S at ++ map (λ p. p.0) ps ≡ is
      → HaveRoom L (drop (length (kept_items L W head is S at)) S.contents.entries) ps
      → AllAccepted L (plain_run L (book head (kept_items L W head is S at)) (appends_of L ps))
  accepted_anew head is S at lo hi ps e r =
      let xs : List L.Item = kept_items L W head is S at in
      let S' = formed_after head is S at lo hi in
      all_accepted head xs S' ps S.contents.entries (same_start head is S xs S' e) (rw e S.within_limit) r

  append_made : (head : List ℕ) (is : List L.Item) (S : WellFormed L head is) (i : L.Item) (spare : List ℕ)
      → (a : Answer L.State) × ((plain_make L (book head is) (call_append i spare)).answer ≡ some a)
  unfolding plain_event
  append_made head is S i spare =
      let called = append L S.contents.zone (own L W head is S) i (used_of L W head is S ++ spare) in
      (called.answer, ap (λ x. x.answer) (sym (agrees L W (book head is) S (call_append i spare)).0 ∙ call_append_lem L W head is S i spare))

  cut_call : (head : List ℕ) (is : List L.Item) (S : WellFormed L head is) (at : ℕ) → length head ≤ at → at ≤ length (used_of L W head is S)
      → (make L (snapshot L (book head is)) (call_cut at)).answer ≡ some (take_up L (own L W head is S) (take at (used_of L W head is S)))
  unfolding make
  cut_call head is S at lo hi =
      rw (snapshot_is L head is S, head_on L W head is S (entry_bytes S.contents.entries), le-leb (length head) at lo, le-leb at (length (used_of L W head is S)) hi)

  cut_made : (head : List ℕ) (is : List L.Item) (S : WellFormed L head is) (at : ℕ) → length head ≤ at → at ≤ length (used_of L W head is S)
      → (plain_make L (book head is) (call_cut at)).answer ≡ some (take_up L (own L W head is S) (take at (used_of L W head is S)))
  unfolding plain_event
  cut_made head is S at lo hi = ap (λ x. x.answer) (sym (agrees L W (book head is) S (call_cut at)).0) ∙ cut_call head is S at lo hi

  cut_made_only : (head : List ℕ) (is : List L.Item) (S : WellFormed L head is) (at : ℕ) (a : Answer L.State)
      → (plain_make L (book head is) (call_cut at)).answer ≡ some a → (length head ≤ at) × (at ≤ length (used_of L W head is S))
  unfolding plain_make
  cut_made_only head is S at a e = go (leb (length head) at && leb at (length (used_of L W head is S))) refl
    where
      go : (b : Bool) → (leb (length head) at && leb at (length (used_of L W head is S))) ≡ b → (length head ≤ at) × (at ≤ length (used_of L W head is S))
      go true t =
          let both = and_true (leb (length head) at) (leb at (length (used_of L W head is S))) t in
          (leb-true _ _ both.0, leb-true _ _ both.1)
      go false t = none_not_some a (sym (rw (snapshot_is L head is S, t) refl) ∙ e)

  pub of_book : (head : List ℕ) (is : List L.Item) (S : WellFormed L head is) → OfBook L head is S
  of_book head is S =
      record {
        append_made = append_made head is S;
        append_holds = adds head is S;
        cut_made = cut_made head is S;
        cut_holds = cut_next head is S;
        cut_made_only = cut_made_only head is S;
        cut_is_take_up = cut_take_up L W head is S;
        cut_accepted = cut_accepted head is S;
        cut_keeps_first = λ at lo. cut_keeps_first head is S at;
        held_again = held_again head is S;
        accepted_anew = accepted_anew head is S;
      }
