-- An append and a cut of a well-formed plain book: the same of them.
-- Specification, Plain book; Lists of calls.
use Rattle.std.proofs.Common.{◌≡◌, refl, sym, ap, ◌∙◌, subst, Bool, true, false, ◌&&◌, List, [], ◌∷◌, ◌++◌, map, append_assoc, append-nil, ℕ, ◌+◌, ◌-◌, ◌≤◌, ◌<◌, zero-add, arith, length, take, drop, length-append, take_at, drop_at, leb, ltb, leb-true, leb-false, ltb-true, le-leb}
use mathlib.Core.Option.{some}
use lib.Seq.{take-append-add}
use borrow.Author.Tests.{lt-leb}
use Rattle.zone.specs.Promise.{Result, ok, refused}
use Rattle.zone.proofs.Promise.{bind_is}
use Rattle.zone.proofs.Promise.{and_true}
use Rattle.book.specs.Numbers.{buffer_short, book_full}
use Rattle.book.specs.Model.Interface.{Interface, Written}
use Rattle.book.proofs.Model.InterfaceLaws.{Laws}
use Rattle.book.specs.Model.Calls.{BookState, accepted, append, append_res, whole_entries, take_up}
use Rattle.book.specs.Model.Plain.{Plain, book, Snapshot, entry_bytes, last_state, entries_of, contents_of, used_bytes, own_book_state, snapshot, append_plain, items_ending_by, cut_plain, WellFormed}
use Rattle.book.proofs.Model.Formed.{PlainFormed}
use Rattle.book.specs.Model.PlainTakeUp.{test_entries, take_up_plain}
use Rattle.book.specs.Model.Run.{Call, call_append, call_cut, written, plain_outcome, plain_make, plain_event}
use Rattle.book.specs.Model.Session.{after_append, after_take_up}
use Rattle.book.proofs.Model.Caller.{make}
use Rattle.book.proofs.Model.Laws.Entries.{last_tested, Entries, entry, length_bytes_of, entry_bytes_append, last_state_append, length_entries, parts_entries}
use Rattle.book.proofs.Model.Laws.Decode.{cut_short}
use Rattle.book.proofs.Model.Laws.ByIndex.{items_in_lem, tests_ok}
use Rattle.book.proofs.Model.Agreement.{contents_is, snapshot_is, outcome_ok, head_on, take_up_agrees}

module _ (L : Interface) (W : Laws L) where
  -- the event of a call on what is seen of a plain book is the plain book's, and it leaves a well-formed one
  abbrev pub Agrees : Plain L.Item → Call L.State L.Item → Type 0
  Agrees p c = (make L (snapshot L p) c ≡ plain_event L (plain_make L p c)) × PlainFormed L (plain_make L p c).next

  module _ (head : List ℕ) (is : List L.Item) (S : WellFormed L head is) where
    abbrev pub used_of : List ℕ
    used_of = used_bytes L head S.contents

    abbrev pub own : BookState L.State
    own = own_book_state L head S.contents

    pub count_is : length S.contents.entries ≡ length is
    count_is = length_entries L S.contents.zone 0 S.contents.start is S.contents.entries S.entries_are

    pub call_append_lem : (i : L.Item) (spare : List ℕ)
        → make L (snapshot L (book head is)) (call_append i spare) ≡ after_append L (append L S.contents.zone own i (used_of ++ spare))
    unfolding make
    call_append_lem i spare = rw (snapshot_is L head is S, head_on L W head is S (entry_bytes S.contents.entries))

    pub plain_append : (i : L.Item) (spare : List ℕ)
        → plain_make L (book head is) (call_append i spare) ≡ plain_outcome L own (some (used_of ++ spare)) (book head is) (append_plain L head is i spare)
    unfolding plain_make
    plain_append i spare = rw (snapshot_is L head is S)

    both_refuse : (i : L.Item) (spare : List ℕ) (c j : ℕ)
        → append_res L S.contents.zone own i (used_of ++ spare) ≡ refused c j → append_plain L head is i spare ≡ refused c j → Agrees (book head is) (call_append i spare)
    unfolding append plain_event
    both_refuse i spare c j a b = rw (call_append_lem i spare, plain_append i spare, a, b, snapshot_is L head is S, take_at used_of spare _ refl) (refl, S)

    -- the plain book with an item more
    unfoldable pub more : (i : L.Item) (e : Written L.State) → L.step S.contents.zone (length S.contents.entries) (last_state S.contents.start S.contents.entries) i ≡ ok e
        → length S.contents.entries < L.limit → WellFormed L head (is ++ (i ∷ []))
    unfolding entries_of
    more i e st lt =
        let n : length S.contents.entries ≡ 0 + length is = count_is ∙ sym (zero-add (length is)) in
        let one : entries_of L S.contents.zone (0 + length is) (last_state S.contents.start S.contents.entries) (i ∷ []) ≡ ok (entry L i e ∷ []) =
        subst (λ x. entries_of L S.contents.zone x (last_state S.contents.start S.contents.entries) (i ∷ []) ≡ ok (entry L i e ∷ [])) n (bind_is _ _ _ _ st refl) in
        record {
          contents = record { zone = S.contents.zone; start = S.contents.start; entries = S.contents.entries ++ (entry L i e ∷ []) };
          head_is = S.head_is;
          start_is = S.start_is;
          entries_are = parts_entries L S.contents.zone 0 S.contents.start is (i ∷ []) S.contents.entries (entry L i e ∷ []) S.entries_are one;
          within_limit = omega (arith, length-append is (i ∷ []), count_is);
        }

    both_accept : (i : L.Item) (spare : List ℕ) (e : Written L.State)
        → L.step S.contents.zone (length S.contents.entries) (last_state S.contents.start S.contents.entries) i ≡ ok e
        → length S.contents.entries < L.limit
        → append_res L S.contents.zone own i (used_of ++ spare)
        ≡ ok (
          record { state = e.after; count = length S.contents.entries + 1; used = length used_of + length e.bytes },
          take (length used_of) (used_of ++ spare) ++ e.bytes ++ drop (length used_of + length e.bytes) (used_of ++ spare),
        )
        → append_plain L head is i spare ≡ ok (book head (is ++ (i ∷ []))) → Agrees (book head is) (call_append i spare)
    unfolding append more
    both_accept i spare e st lt a b =
        let es : Entries L = S.contents.entries in
        let S' : WellFormed L head (is ++ (i ∷ [])) = more i e st lt in
        let v : BookState L.State = record { state = e.after; count = length es + 1; used = length used_of + length e.bytes } in
        let w : Snapshot L.State = record { bytes = used_of ++ e.bytes; values = v } in
        let l : length (used_of ++ e.bytes) ≡ length used_of + length e.bytes = length-append used_of e.bytes in
        let bs : used_bytes L head S'.contents ≡ used_of ++ e.bytes =
        ap (λ x. head ++ x) (entry_bytes_append es (entry L i e ∷ []) ∙ ap (λ x. entry_bytes es ++ x) (append-nil e.bytes))
        ∙ sym (append_assoc head (entry_bytes es) e.bytes) in
        let q : snapshot L (book head (is ++ (i ∷ []))) ≡ some w =
        snapshot_is L head (is ++ (i ∷ [])) S'
        ∙ (λ t. some (record {
          bytes = bs t;
          values = record { state = last_state_append S.contents.start es (entry L i e ∷ []) t; count = length-append es (entry L i e ∷ []) t; used = (ap length bs ∙ l) t };
        })) in
        let tk : take (length used_of) (used_of ++ spare) ≡ used_of = take_at used_of spare (length used_of) refl in
        let out : take (length used_of) (used_of ++ spare) ++ e.bytes ++ drop (length used_of + length e.bytes) (used_of ++ spare) ≡ written L w (used_of ++ spare) =
        λ t. tk t ++ e.bytes ++ drop (sym l t) (used_of ++ spare) in
        let front : take (length used_of + length e.bytes) (written L w (used_of ++ spare)) ≡ used_of ++ e.bytes = take_at (used_of ++ e.bytes) (drop (length (used_of ++ e.bytes)) (used_of ++ spare)) _ l in
        rw (call_append_lem i spare, plain_append i spare, a, b) (
          (λ t. record {
            answer = some (accepted v);
            buffer = some (out t);
            held = some (record { bytes = (ap (take (length used_of + length e.bytes)) out ∙ front) t; values = v });
          }) ∙ sym (outcome_ok L own (some (used_of ++ spare)) (book head is) (book head (is ++ (i ∷ []))) w q),
          S',
        )

    pub append_agrees : (i : L.Item) (spare : List ℕ) → Agrees (book head is) (call_append i spare)
    unfolding append_res append_plain
    append_agrees i spare = go (ltb (length S.contents.entries) L.limit) refl
      where
        n : ℕ
        n = length S.contents.entries

        s : L.State
        s = last_state S.contents.start S.contents.entries

        zt : L.given_test S.contents.zone s ≡ ok tt
        zt =
            last_tested L W S.contents.zone 0 S.contents.start is S.contents.entries S.entries_are
            (W.start_tested head _ S.contents.start S.head_is S.start_is)

        co : contents_of L head is ≡ ok S.contents
        co = contents_is L head is S

        go₃ : (e : Written L.State) → L.append_step S.contents.zone n s i ≡ ok e → ltb n L.limit ≡ true
            → (b : Bool) → leb (length e.bytes) (length spare) ≡ b → Agrees (book head is) (call_append i spare)
        go₃ e o t true f =
            let le = leb-true (length e.bytes) (length spare) f in
            let y : leb (length used_of + length e.bytes) (length (used_of ++ spare)) ≡ true =
            le-leb (length used_of + length e.bytes) (length (used_of ++ spare)) (omega (arith, length-append used_of spare)) in
            both_accept i spare e (W.append_step_lem _ _ _ _ _ o) (ltb-true _ _ t) (rw (zt, t, o, y)) (rw (co, t, o, f))
        go₃ e o t false f =
            let lt = leb-false (length e.bytes) (length spare) f in
            let y : leb (length used_of + length e.bytes) (length (used_of ++ spare)) ≡ false =
            lt-leb (length used_of + length e.bytes) (length (used_of ++ spare)) (omega (arith, length-append used_of spare)) in
            both_refuse i spare buffer_short 0 (rw (zt, t, o, y)) (rw (co, t, o, f))

        go₂ : ltb n L.limit ≡ true → (x : Result (Written L.State)) → L.append_step S.contents.zone n s i ≡ x → Agrees (book head is) (call_append i spare)
        go₂ t (ok e) o = go₃ e o t (leb (length e.bytes) (length spare)) refl
        go₂ t (refused c j) o = both_refuse i spare c j (rw (zt, t, o)) (rw (co, t, o))

        go : (b : Bool) → ltb n L.limit ≡ b → Agrees (book head is) (call_append i spare)
        go true t = go₂ t (L.append_step S.contents.zone n s i) refl
        go false t = both_refuse i spare book_full 0 (rw (zt, t)) (rw (co, t))

    -- ---- a cut

    abbrev pub kept_items : ℕ → List L.Item
    kept_items at = items_ending_by L at (length head) S.contents.entries

    pub cut_is : (at : ℕ) → cut_plain L head is at ≡ ok (book head (kept_items at))
    unfolding cut_plain
    cut_is at = rw (contents_is L head is S)

    -- the bytes before it are taken up as they stand; hours whose entries end by then stay: the two say the same
    pub cut_take_up : (at : ℕ) → length head ≤ at → cut_plain L head is at ≡ take_up_plain L (take at used_of)
    unfolding take_up_plain
    cut_take_up at lo =
        let z : L.Zone = S.contents.zone in
        let s : L.State = S.contents.start in
        let C : List ℕ = entry_bytes S.contents.entries in
        let T : List ℕ = take (at - length head) C in
        let P = cut_short L W z 0 s is at (length head) S.contents.entries S.entries_are lo in
        let n : length head + (at - length head) ≡ at = omega arith in
        let tk : take at used_of ≡ head ++ T = subst (λ x. take x used_of ≡ head ++ T) n (take-append-add head C (at - length head)) in
        let it : map (L.item_of z) (whole_entries L z T) ≡ kept_items at = ap (map (L.item_of z)) P.read ∙ P.items in
        let within_limit : length (whole_entries L z T) ≤ L.limit =
        omega (
          arith,
          ap length P.read ∙ length_bytes_of P.kept,
          sym (length-append P.kept P.lost) ∙ ap length P.joined ∙ count_is,
          S.within_limit,
        ) in
        let ts : test_entries L z s T ≡ ok tt = tests_ok L W z s T P.kept (ap (entries_of L z 0 s) it ∙ P.entries_are) (sym P.read) within_limit in
        rw (cut_is at, tk, head_on L W head is S T, S.start_is, drop_at head T (length head) refl, ts, take_at head T (length head) refl)
        (ap (λ x. ok (book head x)) (sym (items_in_lem L W z T ∙ it)))

    pub cut_agrees : (at : ℕ) → Agrees (book head is) (call_cut at)
    unfolding make plain_make plain_event
    cut_agrees at = go (leb (length head) at && leb at (length used_of)) refl
      where
        go : (b : Bool) → (leb (length head) at && leb at (length used_of)) ≡ b → Agrees (book head is) (call_cut at)
        go false t = rw (snapshot_is L head is S, head_on L W head is S (entry_bytes S.contents.entries), t) (rw (snapshot_is L head is S) refl, S)
        go true t =
            let lo = leb-true (length head) at (and_true (leb (length head) at) (leb at (length used_of)) t).0 in
            let a = take_up_agrees L W (book head is) S own (take at used_of) in
            rw (snapshot_is L head is S, head_on L W head is S (entry_bytes S.contents.entries), t, cut_take_up at lo)
            (ap (λ x. after_take_up L x (take at used_of) (take_up L own (take at used_of))) (sym (snapshot_is L head is S)) ∙ a.0, a.1)
