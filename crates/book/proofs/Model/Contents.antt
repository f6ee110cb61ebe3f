-- What belongs to the plain book that bytes are taken up as: the entries are the whole entries of the bytes, and a take-up's refusal is its refusal.
use Rattle.std.proofs.Common.{◌≡◌, refl, sym, ap, subst, ◌∙◌, List, [], ◌∷◌, ◌++◌, map, append_assoc, ℕ, ◌+◌, ◌≤◌, zero-add, arith, length, take, drop, drop_at}
use mathlib.Core.Option.{none}
use lib.ListN.{length-map}
use Rattle.zone.specs.Promise.{Result, ok, refused, bind}
use Rattle.zone.proofs.Promise.{ok_inj, ok_not_refused}
use Rattle.zone.specs.Format.Head.{ReadHead}
use Rattle.book.specs.Model.Interface.{Interface}
use Rattle.book.proofs.Model.InterfaceLaws.{Laws}
use Rattle.book.specs.Model.Calls.{BookState, whole_entries, check_entries, take_up_res}
use Rattle.book.specs.Model.Plain.{entry_bytes, last_state, entries_of, used_bytes, own_book_state, WellFormed}
use Rattle.book.specs.Model.PlainTakeUp.{take_up_plain, contents_held, contents_in}
use Rattle.book.proofs.Model.Laws.Entries.{Entries, bytes_of, length_bytes_of, entries_cons}
use Rattle.book.proofs.Model.Laws.Decode.{whole_none, whole_next}
use Rattle.book.proofs.Model.Laws.Checking.{check_accepted, check_bad}
use Rattle.book.proofs.Model.Laws.ByIndex.{items_in_lem, tests_ok, tests_bad}
use Rattle.book.proofs.Model.Agreement.{contents_is, head_alone, head_on}
use Rattle.book.proofs.Model.Books.Further.{dropped_behind}

-- a refusal of one result is that of another
as_refusal : {A B : Type 0} (a b c j : ℕ) → ◌≡◌ {A = Result A} (refused a b) (refused c j) → ◌≡◌ {A = Result B} (refused a b) (refused c j)
as_refusal a b c j q = let number : a ≡ c = cc in let index : b ≡ j = cc in λ i. refused (number i) (index i)

module _ (L : Interface) (W : Laws L) where
  -- what a take-up accepts
  pub record Taken (bytes : List ℕ) (z : L.Zone) (n : ℕ) (s : L.State) (v : BookState L.State) : Type 0 where
    pub es : Entries L
    pub count_is : length es ≡ v.count
    pub state_is : last_state s es ≡ v.state
    pub contents : contents_in L bytes ≡ ok (record { zone = z; start = s; entries = es })
    pub entries_are : entries_of L z 0 s (map (L.item_of z) (whole_entries L z (drop n bytes))) ≡ ok es
    pub same : bytes_of es ≡ whole_entries L z (drop n bytes)

  pub contents_taken : (bytes : List ℕ) (z : L.Zone) (n : ℕ) (s : L.State) (v : BookState L.State)
      → L.head_of bytes ≡ ok (record { zone = z; length = n }) → L.start_up z ≡ ok s → check_entries L z 0 s n (whole_entries L z (drop n bytes)) ≡ ok v
      → Taken bytes z n s v
  unfolding contents_in take_up_plain
  contents_taken bytes z n s v e f t =
      let cs : List (List ℕ) = whole_entries L z (drop n bytes) in
      let J = check_accepted L z 0 s n cs v (omega arith) t in
      let is : List L.Item = map (L.item_of z) cs in
      let within_limit : length cs ≤ L.limit = omega (arith, J.within_limit) in
      let S : WellFormed L (take n bytes) is =
      record {
        contents = record { zone = z; start = s; entries = J.es };
        head_is = head_alone L W bytes z n e;
        start_is = f;
        entries_are = J.entries_are;
        within_limit = rw length-map within_limit;
      } in
      record {
        es = J.es;
        count_is = sym (length_bytes_of J.es) ∙ ap length J.same ∙ sym (zero-add (length cs)) ∙ ap (λ x. x.count) J.values;
        state_is = ap (λ x. x.state) J.values;
        contents = rw (e, f, tests_ok L W z s (drop n bytes) J.es J.entries_are J.same within_limit, items_in_lem L W z (drop n bytes)) (contents_is L (take n bytes) is S);
        entries_are = J.entries_are;
        same = J.same;
      }

  pub plain_refused : (bytes : List ℕ) (c j : ℕ) → take_up_res L bytes ≡ refused c j → take_up_plain L bytes ≡ refused c j
  unfolding take_up_res take_up_plain
  plain_refused bytes c j = go (L.head_of bytes) refl
    where
      go₃ : (z : L.Zone) (n : ℕ) (s : L.State) → L.head_of bytes ≡ ok (record { zone = z; length = n }) → L.start_up z ≡ ok s
          → (x : Result (BookState L.State)) → check_entries L z 0 s n (whole_entries L z (drop n bytes)) ≡ x → take_up_res L bytes ≡ refused c j → take_up_plain L bytes ≡ refused c j
      go₃ z n s e f (ok v) t h = ok_not_refused v c j (sym (rw (e, f) t) ∙ h)
      go₃ z n s e f (refused a b) t h =
          let B = check_bad L z 0 s n (whole_entries L z (drop n bytes)) a b (omega arith) t in
          rw (e, f, tests_bad L W z s (drop n bytes) a b B) (as_refusal a b c j (sym t ∙ (rw (e, f) at h)))

      go₂ : (z : L.Zone) (n : ℕ) → L.head_of bytes ≡ ok (record { zone = z; length = n }) → (x : Result L.State) → L.start_up z ≡ x
          → take_up_res L bytes ≡ refused c j → take_up_plain L bytes ≡ refused c j
      go₂ z n e (refused a b) f h = rw (e, f) (as_refusal a b c j (rw (e, f) at h))
      go₂ z n e (ok s) f h = go₃ z n s e f (check_entries L z 0 s n (whole_entries L z (drop n bytes))) refl h

      go : (x : Result (ReadHead L.Zone)) → L.head_of bytes ≡ x → take_up_res L bytes ≡ refused c j → take_up_plain L bytes ≡ refused c j
      go (refused a b) e h = rw e (as_refusal a b c j (rw e at h))
      go (ok x) e h = go₂ x.zone x.length e (L.start_up x.zone) refl h

  -- ---- of a book that calls left, with bytes behind it that a take-up drops

  whole_all : (z : L.Zone) (k : ℕ) (s : L.State) (is : List L.Item) (es : Entries L) → entries_of L z k s is ≡ ok es → (rest : List ℕ) → L.entry_length z rest ≡ none
      → (whole_entries L z (entry_bytes es ++ rest) ≡ bytes_of es) × (map (L.item_of z) (bytes_of es) ≡ is)
  unfolding entries_of
  whole_all z k s [] es h rest short =
      subst (λ (x : Entries L). (whole_entries L z (entry_bytes x ++ rest) ≡ bytes_of x) × (map (L.item_of z) (bytes_of x) ≡ [])) (ok_inj h) (whole_none L W z rest short, refl)
  whole_all z k s (i ∷ is) es h rest short =
      let a = entries_cons L z k s i is es h in
      let bs = entry_bytes a.others in
      let r = whole_all z (k + 1) a.e.after is a.others a.rest rest short in
      subst (λ (x : Entries L). (whole_entries L z (entry_bytes x ++ rest) ≡ bytes_of x) × (map (L.item_of z) (bytes_of x) ≡ i ∷ is)) a.joined (
        ap (whole_entries L z) (append_assoc a.e.bytes bs rest) ∙ whole_next L W z k s i a.e a.stepped (bs ++ rest) ∙ ap (λ x. a.e.bytes ∷ x) r.0,
        (λ t. W.item_back z k s i a.e a.stepped t ∷ r.1 t),
      )

  -- the entries that an accepted take-up has checked
  checked : (bytes : List ℕ) (z : L.Zone) (n : ℕ) (s : L.State) (v : BookState L.State) → L.head_of bytes ≡ ok (record { zone = z; length = n }) → L.start_up z ≡ ok s
      → take_up_res L bytes ≡ ok v → check_entries L z 0 s n (whole_entries L z (drop n bytes)) ≡ ok v
  unfolding take_up_res
  checked bytes z n s v e f h = rw (e, f) at h

  pub contents_of_book : (head : List ℕ) (is : List L.Item) (S : WellFormed L head is) (rest : List ℕ) → L.entry_length S.contents.zone rest ≡ none
      → contents_in L (used_bytes L head S.contents ++ rest) ≡ ok S.contents
  contents_of_book head is S rest short =
      let z = S.contents.zone in
      let s = S.contents.start in
      let es = S.contents.entries in
      let bytes = used_bytes L head S.contents ++ rest in
      let joined : bytes ≡ head ++ (entry_bytes es ++ rest) = append_assoc head (entry_bytes es) rest in
      let head_is : L.head_of bytes ≡ ok (record { zone = z; length = length head }) = ap L.head_of joined ∙ head_on L W head is S (entry_bytes es ++ rest) in
      let behind : drop (length head) bytes ≡ entry_bytes es ++ rest = ap (drop (length head)) joined ∙ drop_at head (entry_bytes es ++ rest) (length head) refl in
      let w = whole_all z 0 s is es S.entries_are rest short in
      let read : whole_entries L z (drop (length head) bytes) ≡ bytes_of es = ap (whole_entries L z) behind ∙ w.0 in
      let accepted : check_entries L z 0 s (length head) (whole_entries L z (drop (length head) bytes)) ≡ ok (own_book_state L head S.contents) =
      checked bytes z (length head) s _ head_is S.start_is (dropped_behind L W head is S rest short) in
      let T = contents_taken bytes z (length head) s _ head_is S.start_is accepted in
      let same : T.es ≡ es = ok_inj (sym T.entries_are ∙ ap (λ x. entries_of L z 0 s (map (L.item_of z) x)) read ∙ ap (entries_of L z 0 s) w.1 ∙ S.entries_are) in
      T.contents ∙ ap (λ x. ok (record { zone = z; start = s; entries = x })) same

  pub contents_refused : (bytes : List ℕ) (c j : ℕ) → take_up_res L bytes ≡ refused c j → contents_in L bytes ≡ refused c j
  unfolding contents_in
  contents_refused bytes c j h = ap (λ x. bind x (contents_held L)) (plain_refused bytes c j h)
