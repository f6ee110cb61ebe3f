-- A begin and a take-up have the event that the plain book has for them, and leave a well-formed plain book.
use Rattle.std.proofs.Common.{◌≡◌, refl, sym, ap, ◌∙◌, Bool, true, false, List, [], ◌++◌, map, append-nil, ℕ, ◌+◌, ◌≤◌, zero-add, arith, length, take, drop, length-append, take_at, length-take-le, take-add, leb}
use mathlib.Core.Option.{Option, none, some}
use lib.ListN.{length-map}
use lib.Seq.{take-length}
use Rattle.zone.specs.Promise.{Result, ok, refused}
use Rattle.zone.proofs.Promise.{bind_is}
use Rattle.zone.specs.Format.Head.{ReadHead}
use Rattle.book.specs.Model.Bytes.{concat, from_option}
use Rattle.book.specs.Model.Interface.{Interface}
use Rattle.book.proofs.Model.InterfaceLaws.{Laws}
use Rattle.book.specs.Model.Calls.{BookState, accepted, begin, begin_res, whole_entries, check_entries, take_up, take_up_res}
use Rattle.book.specs.Model.Plain.{Plain, book, Snapshot, Contents, last_state, entries_of, contents_of, used_bytes, own_book_state, snapshot, begin_plain, WellFormed}
use Rattle.book.proofs.Model.Formed.{PlainFormed}
use Rattle.book.specs.Model.PlainTakeUp.{take_up_plain}
use Rattle.book.specs.Model.Run.{written, plain_outcome, plain_event}
use Rattle.book.specs.Model.Session.{after_begin, after_take_up}
use Rattle.book.proofs.Model.Laws.Bytes.{front_of}
use Rattle.book.proofs.Model.Laws.Entries.{length_bytes_of}
use Rattle.book.proofs.Model.Laws.Checking.{check_accepted, check_bad}
use Rattle.book.proofs.Model.Laws.Decode.{dropped}
use Rattle.book.proofs.Model.Laws.ByIndex.{items_in_lem, tests_ok, tests_bad}

module _ (L : Interface) where
  pub contents_is : (head : List ℕ) (is : List L.Item) (S : WellFormed L head is) → contents_of L head is ≡ ok S.contents
  unfolding contents_of
  contents_is head is S = bind_is _ _ _ _ S.head_is (bind_is _ _ _ _ S.start_is (bind_is _ _ _ _ S.entries_are refl))

  -- what is seen of a well-formed plain book
  abbrev pub snapshot_for : (head : List ℕ) (is : List L.Item) → WellFormed L head is → Snapshot L.State
  snapshot_for head is S = record { bytes = used_bytes L head S.contents; values = own_book_state L head S.contents }

  pub snapshot_is : (head : List ℕ) (is : List L.Item) (S : WellFormed L head is) → snapshot L (book head is) ≡ some (snapshot_for head is S)
  unfolding snapshot
  snapshot_is head is S = rw (contents_is head is S)

  -- the event of an accepted call
  pub outcome_ok : (g : BookState L.State) (lent : Option (List ℕ)) (p q : Plain L.Item) (w : Snapshot L.State) → snapshot L q ≡ some w
      → plain_event L (plain_outcome L g lent p (ok q)) ≡ record { answer = some (accepted w.values); buffer = from_option none (λ b. some (written L w b)) lent; held = some w }
  unfolding plain_event
  outcome_ok g lent p q w e = rw e

module _ (L : Interface) (W : Laws L) where
  -- a head by itself, and with other bytes behind it
  pub head_alone : (bs : List ℕ) (z : L.Zone) (n : ℕ) → L.head_of bs ≡ ok (record { zone = z; length = n }) → L.head_of (take n bs) ≡ ok (record { zone = z; length = length (take n bs) })
  head_alone bs z n e =
      let a : L.head_of (take n bs ++ []) ≡ ok (record { zone = z; length = n }) = W.head_own bs [] _ e in
      rw (length-take-le n bs (W.head_within bs _ e)) (rw append-nil at a)

  pub head_on : (head : List ℕ) (is : List L.Item) (S : WellFormed L head is) (cs : List ℕ) → L.head_of (head ++ cs) ≡ ok (record { zone = S.contents.zone; length = length head })
  head_on head is S cs = rw take-length at (W.head_own head cs _ S.head_is)

  module _ (p : Plain L.Item) (pp : PlainFormed L p) (g : BookState L.State) where
    abbrev pub Begins : List ℕ → List ℕ → Type 0
    Begins head buf =
        (after_begin L (snapshot L p) (begin L head g buf) ≡ plain_event L (plain_outcome L g (some buf) p (begin_plain L head buf)))
        × PlainFormed L (plain_outcome L g (some buf) p (begin_plain L head buf)).next

    pub begin_agrees : (head buf : List ℕ) → Begins head buf
    unfolding begin begin_res begin_plain plain_event entries_of snapshot contents_of
    begin_agrees head buf = go (L.head_of head) refl
      where
        go₃ : (z : L.Zone) (n : ℕ) (s : L.State) (b : Bool) → L.head_of head ≡ ok (record { zone = z; length = n }) → L.start_up z ≡ ok s → leb n (length buf) ≡ b → Begins head buf
        go₃ z n s false e f t = rw (e, f, t) (refl, pp)
        go₃ z n s true e f t =
            let c : Contents L = record { zone = z; start = s; entries = [] } in
            let S : WellFormed L (take n head) [] = record { contents = c; head_is = head_alone head z n e; start_is = f; entries_are = refl; within_limit = omega arith } in
            let l : length (take n head) ≡ n = length-take-le n head (W.head_within head _ e) in
            let a : take n head ++ [] ≡ take n head = append-nil (take n head) in
            let w : Snapshot L.State = record { bytes = take n head; values = record { state = s; count = 0; used = n } } in
            let q : snapshot L (book (take n head) []) ≡ some w =
            snapshot_is L (take n head) [] S
            ∙ (λ i. some (record { bytes = a i; values = record { state = s; count = 0; used = (ap length a ∙ l) i } })) in
            let h : take n (take n head ++ drop n buf) ≡ take n head = take_at (take n head) (drop n buf) n l in
            rw (e, f, t) (
              (λ i. record {
                answer = some (accepted w.values);
                buffer = some (take n head ++ drop (sym l i) buf);
                held = some (record { bytes = h i; values = w.values });
              }) ∙ sym (outcome_ok L g (some buf) p (book (take n head) []) w q),
              S,
            )

        go₂ : (z : L.Zone) (n : ℕ) → L.head_of head ≡ ok (record { zone = z; length = n }) → (x : Result L.State) → L.start_up z ≡ x → Begins head buf
        go₂ z n e (refused c j) f = rw (e, f) (refl, pp)
        go₂ z n e (ok s) f = go₃ z n s (leb n (length buf)) e f refl

        go : (x : Result (ReadHead L.Zone)) → L.head_of head ≡ x → Begins head buf
        go (refused c j) e = rw e (refl, pp)
        go (ok h) e = go₂ h.zone h.length e (L.start_up h.zone) refl

    abbrev pub Takes : List ℕ → Type 0
    Takes bytes =
        (after_take_up L (snapshot L p) bytes (take_up L g bytes) ≡ plain_event L (plain_outcome L g none p (take_up_plain L bytes)))
        × PlainFormed L (plain_outcome L g none p (take_up_plain L bytes)).next

    pub take_up_agrees : (bytes : List ℕ) → Takes bytes
    unfolding take_up take_up_res take_up_plain plain_event
    take_up_agrees bytes = go (L.head_of bytes) refl
      where
        go₃ : (z : L.Zone) (n : ℕ) (s : L.State) → L.head_of bytes ≡ ok (record { zone = z; length = n }) → L.start_up z ≡ ok s
            → (x : Result (BookState L.State)) → check_entries L z 0 s n (whole_entries L z (drop n bytes)) ≡ x → Takes bytes
        go₃ z n s e f (refused c j) t =
            let B = check_bad L z 0 s n (whole_entries L z (drop n bytes)) c j (omega arith) t in
            rw (e, f, t, tests_bad L W z s (drop n bytes) c j B) (refl, pp)
        go₃ z n s e f (ok v) t =
            let cs : List (List ℕ) = whole_entries L z (drop n bytes) in
            let J = check_accepted L z 0 s n cs v (omega arith) t in
            let is : List L.Item = map (L.item_of z) cs in
            let within_limit : length cs ≤ L.limit = omega (arith, J.within_limit) in
            let S : WellFormed L (take n bytes) is =
            record {
              contents = record { zone = z; start = s; entries = J.es };
              head_is = head_alone bytes z n e;
              start_is = f;
              entries_are = J.entries_are;
              within_limit = rw length-map within_limit;
            } in
            let l : length (take n bytes) ≡ n = length-take-le n bytes (W.head_within bytes _ e) in
            let d = dropped L W z (drop n bytes) in
            let u : n + length (concat cs) ≡ v.used = ap (λ x. x.used) J.values in
            let b : take n bytes ++ concat cs ≡ take v.used bytes =
            ap (λ x. take n bytes ++ x) (sym (front_of _ _ _ d.joined)) ∙ sym (take-add n (length (concat cs)) bytes) ∙ ap (λ x. take x bytes) u in
            let k : length J.es ≡ 0 + length cs = sym (length_bytes_of J.es) ∙ ap length J.same ∙ sym (zero-add (length cs)) in
            let m : length (take n bytes ++ concat cs) ≡ n + length (concat cs) = length-append (take n bytes) (concat cs) ∙ ap (λ x. x + length (concat cs)) l in
            let w : Snapshot L.State = record { bytes = take v.used bytes; values = v } in
            let q : snapshot L (book (take n bytes) is) ≡ some w =
            snapshot_is L (take n bytes) is S
            ∙ (λ i. some (record {
              bytes = take n bytes ++ concat (J.same i);
              values = record { state = last_state s J.es; count = k i; used = length (take n bytes ++ concat (J.same i)) };
            }))
            ∙ (λ i. some (record { bytes = b i; values = record { state = last_state s J.es; count = 0 + length cs; used = m i } }))
            ∙ (λ i. some (record { bytes = take v.used bytes; values = J.values i })) in
            rw (e, f, t, tests_ok L W z s (drop n bytes) J.es J.entries_are J.same within_limit, items_in_lem L W z (drop n bytes))
            (sym (outcome_ok L g none p (book (take n bytes) is) w q), S)

        go₂ : (z : L.Zone) (n : ℕ) → L.head_of bytes ≡ ok (record { zone = z; length = n }) → (x : Result L.State) → L.start_up z ≡ x → Takes bytes
        go₂ z n e (refused c j) f = rw (e, f) (refl, pp)
        go₂ z n e (ok s) f = go₃ z n s e f (check_entries L z 0 s n (whole_entries L z (drop n bytes))) refl

        go : (x : Result (ReadHead L.Zone)) → L.head_of bytes ≡ x → Takes bytes
        go (refused c j) e = rw e (refl, pp)
        go (ok h) e = go₂ h.zone h.length e (L.start_up h.zone) refl
