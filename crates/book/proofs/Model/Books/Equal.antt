-- Two books are equal byte for byte exactly when their heads and items are equal.
use Rattle.std.proofs.Common.{◌≡◌, refl, sym, ap, ◌∙◌, subst, List, [], ◌∷◌, ◌++◌, map, ℕ, ◌+◌, length, take, take_at, drop_at}
use mathlib.Core.List.{append_cancel_left}
use Rattle.zone.specs.Promise.{ok}
use Rattle.zone.proofs.Promise.{ok_inj}
use Rattle.book.specs.Model.Interface.{Interface}
use Rattle.book.proofs.Model.InterfaceLaws.{Laws}
use Rattle.book.specs.Model.Calls.{whole_entries}
use Rattle.book.specs.Model.Plain.{empty, entries_of, entry_bytes, contents_of, used_bytes, WellFormed}
use Rattle.book.specs.Model.Claims.{EqualBooks, TwoBooks}
use Rattle.book.proofs.Model.Laws.Entries.{Entries, bytes_of, entries_cons}
use Rattle.book.proofs.Model.Laws.Decode.{whole_none, whole_some, length_nil}
use Rattle.book.proofs.Model.Agreement.{contents_is, snapshot_for, snapshot_is, head_on}
use Rattle.book.proofs.Model.Whole.{after_formed}
use Rattle.book.proofs.Model.Formed.{PlainFormed}
use Rattle.book.proofs.Model.Laws.Bytes.{some_inj}

module _ (L : Interface) (W : Laws L) where
  -- the entries of items, and then the items, are read back from the entries' bytes
  pub read_back : (z : L.Zone) (k : ℕ) (s : L.State) (is : List L.Item) (es : Entries L) → entries_of L z k s is ≡ ok es
      → (whole_entries L z (entry_bytes es) ≡ bytes_of es) × (map (L.item_of z) (bytes_of es) ≡ is)
  unfolding entries_of
  read_back z k s [] es h =
      subst (λ x. (whole_entries L z (entry_bytes x) ≡ bytes_of x) × (map (L.item_of z) (bytes_of x) ≡ [])) (ok_inj h)
      (whole_none L W z [] (length_nil L W z), refl)
  read_back z k s (i ∷ is) es h =
      let c = entries_cons L z k s i is es h in
      let r = read_back z (k + 1) c.e.after is c.others c.rest in
      let b : List ℕ = c.e.bytes in
      let rest : List ℕ = entry_bytes c.others in
      subst (λ x. (whole_entries L z (entry_bytes x) ≡ bytes_of x) × (map (L.item_of z) (bytes_of x) ≡ i ∷ is)) c.joined (
        whole_some L W z (b ++ rest) (length b) (W.length_whole z k s i c.e c.stepped rest)
            ∙ (λ t. take_at b rest (length b) refl t ∷ whole_entries L z (drop_at b rest (length b) refl t))
            ∙ ap (λ x. b ∷ x) r.0,
        λ t. W.item_back z k s i c.e c.stepped t ∷ r.1 t,
      )

  pub equal_books : EqualBooks L
  equal_books head head' is is' S S' = (there, back)
    where
      C : List ℕ
      C = entry_bytes S.contents.entries

      C' : List ℕ
      C' = entry_bytes S'.contents.entries

      items : is ≡ map (L.item_of S.contents.zone) (whole_entries L S.contents.zone C)
      items = let r = read_back S.contents.zone 0 S.contents.start is S.contents.entries S.entries_are in sym (ap (map (L.item_of S.contents.zone)) r.0 ∙ r.1)

      items' : map (L.item_of S'.contents.zone) (whole_entries L S'.contents.zone C') ≡ is'
      items' = let r = read_back S'.contents.zone 0 S'.contents.start is' S'.contents.entries S'.entries_are in ap (map (L.item_of S'.contents.zone)) r.0 ∙ r.1

      there : head ++ C ≡ head' ++ C' → (head ≡ head') × (is ≡ is')
      there u =
          let h = ok_inj (sym (head_on L W head is S C) ∙ ap L.head_of u ∙ head_on L W head' is' S' C') in
          let zs : S.contents.zone ≡ S'.contents.zone = ap (λ x. x.zone) h in
          let ns : length head ≡ length head' = ap (λ x. x.length) h in
          let hs : head ≡ head' = sym (take_at head C (length head) refl) ∙ (λ i. take (ns i) (u i)) ∙ take_at head' C' (length head') refl in
          let cs : C ≡ C' = append_cancel_left head C C' (u ∙ ap (λ x. x ++ C') (sym hs)) in
          (hs, items ∙ (λ i. map (L.item_of (zs i)) (whole_entries L (zs i) (cs i))) ∙ items')

      back : (head ≡ head') × (is ≡ is') → head ++ C ≡ head' ++ C'
      back e =
          let c : S.contents ≡ S'.contents = ok_inj (sym (contents_is L head is S) ∙ (λ i. contents_of L (e.0 i) (e.1 i)) ∙ contents_is L head' is' S') in
          λ i. used_bytes L (e.0 i) (c i)

  -- the books of two lists of calls
  pub two_books : TwoBooks L
  two_books cs cs' head head' is is' e e' v v' h h' =
      let S : WellFormed L head is = subst (PlainFormed L) e (after_formed L W empty tt cs) in
      let S' : WellFormed L head' is' = subst (PlainFormed L) e' (after_formed L W empty tt cs') in
      let q : v ≡ snapshot_for L head is S = some_inj (sym h ∙ snapshot_is L head is S) in
      let q' : v' ≡ snapshot_for L head' is' S' = some_inj (sym h' ∙ snapshot_is L head' is' S') in
      let b = equal_books head head' is is' S S' in (
        λ u. b.0 (sym (ap (λ x. x.bytes) q) ∙ u ∙ ap (λ x. x.bytes) q'),
        λ u. ap (λ x. x.bytes) q ∙ b.1 u ∙ sym (ap (λ x. x.bytes) q'),
      )
