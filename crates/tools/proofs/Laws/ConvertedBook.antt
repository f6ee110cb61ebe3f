-- A converted book: entry by entry what the plain book has for the converted hours.
use Rattle.std.proofs.Common.{ℕ, ◌+◌, ◌≤◌, ◌≡◌, refl, sym, ap, subst, ◌∙◌, Bool, true, false, not, ◌&&◌, List, [], ◌∷◌, ◌++◌, map, append-nil, arith, zero-add, ne_eqb, length, take, drop, length-append, length-take-le, leb, eqb}
use borrow.Author.Tests.{eqb-false}
use lib.ListN.{length-map}
use Rattle.std.specs.List.{list_all}
use Rattle.zone.specs.Promise.{ok, require}
use Rattle.zone.proofs.Promise.{bind_ok, ok_inj, require_ok}
use Rattle.zone.specs.Format.Head.{ReadHead, head_of}
use Rattle.zone.specs.declared.record.zone_record.Zone.{Zone}
use Rattle.book.specs.Numbers.{buffer_short}
use Rattle.book.specs.Model.Bytes.{concat}
use Rattle.book.specs.Model.Calls.{BookState, whole_entries, check_entries, take_up_res}
use Rattle.book.specs.Model.Plain.{Entry, Contents, entries_of, entry_bytes, last_state, own_book_state, WellFormed, used_bytes}
use Rattle.book.specs.Model.PlainTakeUp.{take_up_plain}
use Rattle.zone.specs.Format.Layout.{version_in}
use Rattle.book.proofs.Laws.Rest.{rest_under}
use Rattle.book.specs.VersionOrder.{NeverFall, versions_of}
use Rattle.book.proofs.VersionOrder.{version_claims}
use Rattle.book.specs.Year.{Item, no_entry_version, Carried, start_up, item_in, year_interface}
use Rattle.book.specs.Model.PlainTakeUp.{contents_in}
use Rattle.book.proofs.Model.Contents.{contents_taken, contents_of_book}
use Rattle.book.proofs.Model.Agreement.{contents_is, head_alone}
use Rattle.book.proofs.Model.Books.Further.{dropped_behind}
use Rattle.book.proofs.Model.Laws.ByIndex.{items_in_lem, tests_ok}
use Rattle.book.proofs.Model.Laws.Checking.{Checked, check_accepted}
use Rattle.book.proofs.Model.Laws.Entries.{Entries, bytes_of, entries_cons, cons_entries, items_are, length_bytes_of}
use Rattle.book.proofs.Laws.Interface.{year_laws}
use Rattle.tools.specs.Numbers.{version_1_entry}
use Rattle.tools.specs.Inner.Convert.{converted_entry, AllLong, first_is_version_1, converted_bytes, conversion_of}
use Rattle.tools.specs.Convert.{converted_item, has_fixed_rate, is_version_1, ConvertedBook, convert_items, convert_in}
use Rattle.tools.specs.ConvertClaims.{Appended, Converts}
use Rattle.tools.proofs.Laws.ConvertLoop.{same_lengths}
use Rattle.tools.proofs.Laws.ConvertedAgain.{by_versions, none_fixed, unchanged_lem, versions_stay}
use Rattle.tools.proofs.Laws.ConvertedStep.{entry_long, step_anew, step_converted}

abbrev pub converted : Entry year_interface → Entry year_interface
converted e = record { item = converted_item e.item; bytes = converted_entry e.bytes; after = e.after }

pub entries_converted : (z : Zone) (k : ℕ) (s : Carried) (is : List Item) (es : Entries year_interface) → entries_of year_interface z k s is ≡ ok es
    → entries_of year_interface z k s (map converted_item is) ≡ ok (map converted es)
unfolding entries_of
entries_converted z k s [] es h = ap (λ x. ok (map converted x)) (ok_inj h)
entries_converted z k s (i ∷ is) es h =
    let a = entries_cons year_interface z k s i is es h in
    cons_entries year_interface z k s (converted_item i) (map converted_item is) (record { bytes = converted_entry a.e.bytes; after = a.e.after }) (map converted a.others)
    (step_converted z k s i a.e a.stepped) (entries_converted z (k + 1) a.e.after is a.others a.rest)
    ∙ ap (λ x. ok (map converted x)) a.joined

-- appends write them
entries_appended : (z : Zone) (k : ℕ) (s : Carried) (is : List Item) (es : Entries year_interface) → entries_of year_interface z k s is ≡ ok es → Appended z k s (map converted es)
unfolding entries_of Appended
entries_appended z k s [] es h = subst (λ x. Appended z k s (map converted x)) (ok_inj h) tt
entries_appended z k s (i ∷ is) es h =
    let a = entries_cons year_interface z k s i is es h in
    subst (λ x. Appended z k s (map converted x)) a.joined (step_anew z k s i a.e a.stepped, entries_appended z (k + 1) a.e.after is a.others a.rest)

bytes_converted : (es : Entries year_interface) → entry_bytes (map converted es) ≡ concat (map converted_entry (bytes_of es))
bytes_converted [] = refl
bytes_converted (e ∷ es) = ap (λ l. converted_entry e.bytes ++ l) (bytes_converted es)

entries_long : (z : Zone) (k : ℕ) (s : Carried) (is : List Item) (es : Entries year_interface) → entries_of year_interface z k s is ≡ ok es → AllLong (bytes_of es)
unfolding entries_of AllLong
entries_long z k s [] es h = subst (λ x. AllLong (bytes_of x)) (ok_inj h) tt
entries_long z k s (i ∷ is) es h =
    let a = entries_cons year_interface z k s i is es h in
    subst (λ x. AllLong (bytes_of x)) a.joined (entry_long z k s i a.e a.stepped, entries_long z (k + 1) a.e.after is a.others a.rest)

-- versions never fall: behind one from 2 on none is 1
none_behind : (last : ℕ) (vs : List ℕ) → 2 ≤ last → NeverFall last vs → list_all (λ v. not (eqb v 1)) vs ≡ true
unfolding NeverFall
none_behind last [] h n = refl
none_behind last (v ∷ vs) h n = rw (ne_eqb v 1 (λ q. omega (arith, q, h, n.2))) (none_behind v vs (omega (arith, h, n.2)) n.3)

first_tells : (version : ℕ) (vs : List ℕ) → NeverFall no_entry_version (version ∷ vs) → list_all (λ v. not (eqb v 1)) (version ∷ vs) ≡ not (eqb version 1)
unfolding NeverFall
first_tells version vs n = go (eqb version 1) refl
  where
    go : (b : Bool) → eqb version 1 ≡ b → (not (eqb version 1) && list_all (λ v. not (eqb v 1)) vs) ≡ not (eqb version 1)
    go true t = rw t refl
    go false t = rw t (none_behind version vs (omega (arith, eqb-false version 1 t, n.0)) n.3)

-- what a take-up accepts
module _ (bytes : List ℕ) (z : Zone) (n : ℕ) (s : Carried) (v : BookState Carried) (p : head_of bytes ≡ ok (record { zone = z; length = n }))
    (q : start_up z ≡ ok s) (t : check_entries year_interface z 0 s n (whole_entries year_interface z (drop n bytes)) ≡ ok v) where
  abbrev cs : List (List ℕ)
  cs = whole_entries year_interface z (drop n bytes)

  abbrev is : List Item
  is = map (item_in z) cs

  abbrev head : List ℕ
  head = take n bytes

  abbrev J : Checked year_interface z 0 s n cs v
  J = check_accepted year_interface z 0 s n cs v (omega arith) t

  within_limit : length cs ≤ year_interface.limit
  within_limit = omega (arith, J.within_limit)

  abbrev S : WellFormed year_interface head is
  S = record {
    contents = record { zone = z; start = s; entries = J.es };
    head_is = head_alone year_interface year_laws bytes z n p;
    start_is = q;
    entries_are = J.entries_are;
    within_limit = rw length-map within_limit;
  }

  abbrev S' : WellFormed year_interface head (map converted_item is)
  S' = record {
    contents = record { zone = z; start = s; entries = map converted J.es };
    head_is = head_alone year_interface year_laws bytes z n p;
    start_is = q;
    entries_are = entries_converted z 0 s is J.es J.entries_are;
    within_limit = rw (length-map, length-map) within_limit;
  }

  pub all_long : AllLong (whole_entries year_interface z (drop n bytes))
  all_long = subst AllLong J.same (entries_long z 0 s is J.es J.entries_are)

  never : NeverFall no_entry_version (versions_of is)
  never = (version_claims.formed_in_order head is S).never_fall

  pub version_told : list_all (λ i. not (is_version_1 i)) is ≡ not (first_is_version_1 cs)
  unfolding item_in
  version_told = go cs never
    where
      go : (l : List (List ℕ)) → NeverFall no_entry_version (versions_of (map (item_in z) l)) → list_all (λ i. not (is_version_1 i)) (map (item_in z) l) ≡ not (first_is_version_1 l)
      go [] n = refl
      go (c ∷ others) n = by_versions (map (item_in z) (c ∷ others)) ∙ first_tells (version_in c) (versions_of (map (item_in z) others)) n

  made_is : entry_bytes (map converted J.es) ≡ concat (map converted_entry cs)
  made_is = bytes_converted J.es ∙ ap (λ l. concat (map converted_entry l)) J.same

  count_made : length (map converted J.es) ≡ length cs
  count_made = length-map J.es converted ∙ sym (length_bytes_of J.es) ∙ ap length J.same

  converts_lem : (out : List ℕ) → convert_in bytes out ≡ conversion_of z n bytes out
  unfolding convert_in take_up_plain convert_items
  converts_lem out =
      rw (
        p,
        q,
        tests_ok year_interface year_laws z s (drop n bytes) J.es J.entries_are J.same within_limit,
        items_in_lem year_interface year_laws z (drop n bytes),
        contents_is year_interface head is S,
        contents_is year_interface head (map converted_item is) S',
        made_is,
        count_made,
      ) refl

  old_contents : contents_in year_interface bytes ≡ ok S.contents
  old_contents =
      let T = contents_taken year_interface year_laws bytes z n s v p q t in
      T.contents ∙ ap (λ es. ok (record { zone = z; start = s; entries = es })) (ok_inj (sym T.entries_are ∙ J.entries_are))

  items_lem : (c : Contents year_interface) → contents_in year_interface bytes ≡ ok c → map (λ e. e.item) c.entries ≡ is
  items_lem c e = ap (λ (x : Contents year_interface). map (λ e. e.item) x.entries) (ok_inj (sym e ∙ old_contents)) ∙ items_are year_interface z 0 s is J.es J.entries_are

  new_contents : contents_in year_interface (converted_bytes z n bytes) ≡ ok S'.contents
  new_contents =
      ap (λ l. contents_in year_interface (head ++ l)) (sym made_is)
      ∙ ap (contents_in year_interface) (sym (append-nil (used_bytes year_interface head S'.contents)))
      ∙ contents_of_book year_interface year_laws head (map converted_item is) S' [] (rest_under z [] (omega arith))

  -- the head and the entries behind it are the output
  output_same : ◌≡◌ {A = ConvertedBook} (record { count = length (map converted J.es); bytes = used_bytes year_interface head S'.contents }) (record { count = length cs; bytes = converted_bytes z n bytes })
  output_same = λ t. record { count = count_made t; bytes = head ++ made_is t }

  -- taken up it has the same values
  last_converted : (x : Carried) (es : Entries year_interface) → last_state {L = year_interface} x (map converted es) ≡ last_state {L = year_interface} x es
  last_converted x [] = refl
  last_converted x (e ∷ es) = last_converted e.after es

  used_made : length (used_bytes year_interface head S'.contents) ≡ n + length (concat cs)
  used_made =
      omega (
        arith,
        length-append head (entry_bytes (map converted J.es)),
        length-take-le n bytes (year_laws.head_within bytes _ p),
        ap length made_is,
        same_lengths cs all_long,
      )

  values_same : own_book_state year_interface head S'.contents ≡ v
  values_same = (λ u. record { state = last_converted s J.es u; count = (count_made ∙ sym (zero-add (length cs))) u; used = used_made u }) ∙ J.values

  pub made_long : length (converted_bytes z n bytes) ≡ v.used
  made_long = ap (λ (l : List ℕ). length (head ++ l)) (sym made_is) ∙ ap (λ (x : BookState Carried). x.used) values_same

  taken_again : take_up_res year_interface (converted_bytes z n bytes) ≡ take_up_res year_interface bytes
  unfolding take_up_res
  taken_again =
      ap (λ l. take_up_res year_interface (head ++ l)) (sym made_is)
      ∙ ap (take_up_res year_interface) (sym (append-nil (used_bytes year_interface head S'.contents)))
      ∙ dropped_behind year_interface year_laws head (map converted_item is) S' [] (rest_under z [] (omega arith))
      ∙ ap ok values_same
      ∙ sym (rw (p, q) t)

  -- the converted book is its own conversion
  again_lem : (b : ConvertedBook) → record { count = length cs; bytes = converted_bytes z n bytes } ≡ b → list_all (λ i. not (is_version_1 i)) is ≡ true
      → (out : List ℕ) → length b.bytes ≤ length out → convert_in b.bytes out ≡ ok b
  again_lem b b_is later =
      subst (λ (x : ConvertedBook). (out : List ℕ) → length x.bytes ≤ length out → convert_in x.bytes out ≡ ok x) (output_same ∙ b_is)
      (unchanged_lem head (map converted_item is) S' (versions_stay is ∙ later) (none_fixed z 0 s is J.es J.entries_are))

  pub converts_alike : (out : List ℕ) (b : ConvertedBook) → conversion_of z n bytes out ≡ ok b → Converts bytes b
  converts_alike out b e =
      let x = bind_ok (require (list_all (λ i. not (is_version_1 i)) is) version_1_entry) _ b e in
      let y = bind_ok (require (leb (length (converted_bytes z n bytes)) (length out)) buffer_short) _ b x.2 in
      let b_is = ok_inj y.2 in
      record {
        head = head;
        old = S.contents;
        new = S'.contents;
        old_taken = old_contents;
        new_taken = ap (λ (k : ConvertedBook). contents_in year_interface k.bytes) (sym b_is) ∙ new_contents;
        same_values = ap (λ (k : ConvertedBook). take_up_res year_interface k.bytes) (sym b_is) ∙ taken_again;
        same_head = ap (λ m. take m bytes) (length-take-le n bytes (year_laws.head_within bytes _ p));
        output_is = ap (λ (k : ConvertedBook). k.bytes) (output_same ∙ b_is);
        same_zone = refl;
        same_start = refl;
        count_is = sym (length_bytes_of J.es) ∙ ap length J.same ∙ ap (λ (k : ConvertedBook). k.count) b_is;
        items = mapped (λ e. e.item) (λ e. converted_item e.item) (λ e. refl) J.es;
        states = mapped (λ e. e.after) (λ e. e.after) (λ e. refl) J.es;
        entries = mapped (λ e. e.bytes) (λ e. converted_entry e.bytes) (λ e. refl) J.es;
        none_fixed =
            subst (λ l. list_all (λ i. not (has_fixed_rate i)) l ≡ true) (sym (items_are year_interface z 0 s (map converted_item is) (map converted J.es) S'.entries_are))
            (none_fixed z 0 s is J.es J.entries_are);
        appended = entries_appended z 0 s is J.es J.entries_are;
        again = again_lem b b_is (require_ok (list_all (λ i. not (is_version_1 i)) is) version_1_entry 0 x.0 x.1);
      }
    where
      mapped : {B : Type 0} (f g : Entry year_interface → B) → ((e : Entry year_interface) → f (converted e) ≡ g e) → (es : Entries year_interface) → map f (map converted es) ≡ map g es
      mapped f g h [] = refl
      mapped f g h (e ∷ es) = λ i. h e i ∷ mapped f g h es i

module _ (bytes : List ℕ) (v : BookState Carried) (e : ok v ≡ take_up_res year_interface bytes) where
  -- its head, and its whole entries
  pub record Conversion : Type 0 where
    pub h : ReadHead Zone
    pub head_is : head_of bytes ≡ ok h
    pub used_is : h.length + length (concat (whole_entries year_interface h.zone (drop h.length bytes))) ≡ v.used
    pub count_is : length (whole_entries year_interface h.zone (drop h.length bytes)) ≡ v.count
    pub long : AllLong (whole_entries year_interface h.zone (drop h.length bytes))
    pub version : list_all (λ i. not (is_version_1 i)) (map (item_in h.zone) (whole_entries year_interface h.zone (drop h.length bytes)))
        ≡ not (first_is_version_1 (whole_entries year_interface h.zone (drop h.length bytes)))
    pub items : (c : Contents year_interface) → contents_in year_interface bytes ≡ ok c
        → map (λ e. e.item) c.entries ≡ map (item_in h.zone) (whole_entries year_interface h.zone (drop h.length bytes))
    pub made_long : length (converted_bytes h.zone h.length bytes) ≡ v.used
    pub converts : (out : List ℕ) → convert_in bytes out ≡ conversion_of h.zone h.length bytes out
    pub alike : (out : List ℕ) (b : ConvertedBook) → conversion_of h.zone h.length bytes out ≡ ok b → Converts bytes b

  pub conversion : Conversion
  unfolding take_up_res
  conversion =
      let h = bind_ok (head_of bytes) _ v (sym e) in
      let s = bind_ok (start_up h.0.zone) _ v h.2 in
      let J = check_accepted year_interface h.0.zone 0 s.0 h.0.length (whole_entries year_interface h.0.zone (drop h.0.length bytes)) v (omega arith) s.2 in
      record {
        h = h.0;
        head_is = h.1;
        used_is = ap (λ x. x.used) J.values;
        count_is = sym (zero-add (length (whole_entries year_interface h.0.zone (drop h.0.length bytes)))) ∙ ap (λ x. x.count) J.values;
        long = all_long bytes h.0.zone h.0.length s.0 v h.1 s.1 s.2;
        version = version_told bytes h.0.zone h.0.length s.0 v h.1 s.1 s.2;
        items = items_lem bytes h.0.zone h.0.length s.0 v h.1 s.1 s.2;
        made_long = made_long bytes h.0.zone h.0.length s.0 v h.1 s.1 s.2;
        converts = converts_lem bytes h.0.zone h.0.length s.0 v h.1 s.1 s.2;
        alike = converts_alike bytes h.0.zone h.0.length s.0 v h.1 s.1 s.2;
      }
