-- Laws of reading whole entries back from bytes, and from the bytes before a cut.
use Rattle.std.proofs.Common.{◌≡◌, refl, sym, ap, ◌∙◌, subst, Bool, true, false, List, [], ◌∷◌, ◌++◌, map, append_assoc, ℕ, zero, suc, ◌+◌, ◌-◌, ◌≤◌, ◌<◌, arith, length, take, drop, length-drop, take-append-drop, take_at, drop_at, leb, leb-true, leb-false, le-leb}
use mathlib.Core.Option.{Option, none, some}
use lib.Seq.{take-append-le, take-append-add, take-nil}
use borrow.Author.Tests.{lt-leb}
use Rattle.zone.specs.Promise.{ok}
use Rattle.zone.proofs.Promise.{bind_is, ok_inj}
use Rattle.book.specs.Model.Bytes.{concat, from_option}
use Rattle.book.specs.Model.Interface.{Interface, Written}
use Rattle.book.proofs.Model.InterfaceLaws.{Laws}
use Rattle.book.specs.Model.Calls.{whole_entries_up_to, whole_entries}
use Rattle.book.specs.Model.Plain.{entries_of, entry_bytes, items_ending_by}
use Rattle.book.proofs.Model.Laws.Entries.{Entries, entry, bytes_of, entries_cons}

module _ (L : Interface) where
  -- no entry that begins behind the cut ends by it
  pub none_ending : (at b : ℕ) (es : Entries L) → at < b → items_ending_by L at b es ≡ []
  unfolding items_ending_by
  none_ending at b [] h = refl
  none_ending at b (e ∷ es) h = rw (lt-leb (b + length e.bytes) at (omega arith)) (none_ending at (b + length e.bytes) es (omega arith))

module _ (L : Interface) (W : Laws L) (z : L.Zone) where
  up_to_none : (f : ℕ) (bs : List ℕ) → L.entry_length z bs ≡ none → whole_entries_up_to L z f bs ≡ []
  unfolding whole_entries_up_to
  up_to_none zero bs h = refl
  up_to_none (suc f) bs h = rw h

  pub length_nil : L.entry_length z [] ≡ none
  length_nil = go (L.entry_length z []) refl
    where
      go : (o : Option ℕ) → L.entry_length z [] ≡ o → o ≡ none
      go none e = refl
      go (some n) e = let w = W.length_within z [] n e in absurd (omega arith)

  -- how many are looked for does not matter once it is the bytes' length or more
  up_to_enough : (f g : ℕ) (bs : List ℕ) → length bs ≤ f → length bs ≤ g → whole_entries_up_to L z f bs ≡ whole_entries_up_to L z g bs
  unfolding whole_entries_up_to
  up_to_enough zero g [] h k = sym (up_to_none g [] length_nil)
  up_to_enough zero g (b ∷ bs) h k = absurd (omega arith)
  up_to_enough (suc f) zero [] h k = up_to_none (suc f) [] length_nil
  up_to_enough (suc f) zero (b ∷ bs) h k = absurd (omega arith)
  up_to_enough (suc f) (suc g) bs h k =
      go (L.entry_length z bs) refl
      (λ n w. up_to_enough f g (drop n bs) (omega (arith, length-drop n bs, w.0, w.1)) (omega (arith, length-drop n bs, w.0, w.1)))
    where
      go : (o : Option ℕ) → L.entry_length z bs ≡ o
          → ((n : ℕ) → (0 < n) × (n ≤ length bs) → whole_entries_up_to L z f (drop n bs) ≡ whole_entries_up_to L z g (drop n bs))
          → from_option [] (λ n. take n bs ∷ whole_entries_up_to L z f (drop n bs)) o ≡ from_option [] (λ n. take n bs ∷ whole_entries_up_to L z g (drop n bs)) o
      go none e rec = refl
      go (some n) e rec = ap (λ x. take n bs ∷ x) (rec n (W.length_within z bs n e))

  -- ---- one turn of a loop over the whole entries: none is left, or one more

  pub whole_none : (bs : List ℕ) → L.entry_length z bs ≡ none → whole_entries L z bs ≡ []
  unfolding whole_entries
  whole_none bs e = up_to_none (length bs) bs e

  pub whole_some : (bs : List ℕ) (n : ℕ) → L.entry_length z bs ≡ some n → whole_entries L z bs ≡ take n bs ∷ whole_entries L z (drop n bs)
  unfolding whole_entries whole_entries_up_to
  whole_some bs n e = go (length bs) refl (W.length_within z bs n e)
    where
      go : (f : ℕ) → length bs ≡ f → (0 < n) × (n ≤ length bs)
          → whole_entries_up_to L z f bs ≡ take n bs ∷ whole_entries_up_to L z (length (drop n bs)) (drop n bs)
      go zero l w = absurd (omega arith)
      go (suc f) l w = rw e (ap (λ x. take n bs ∷ x) (up_to_enough f (length (drop n bs)) (drop n bs) (omega (arith, length-drop n bs)) (omega arith)))

  -- an entry that the hour step gives, and what stands behind it
  pub whole_next : (k : ℕ) (s : L.State) (i : L.Item) (e : Written L.State) → L.step z k s i ≡ ok e → (behind : List ℕ)
      → whole_entries L z (e.bytes ++ behind) ≡ e.bytes ∷ whole_entries L z behind
  whole_next k s i e stepped behind =
      whole_some (e.bytes ++ behind) (length e.bytes) (W.length_whole z k s i e stepped behind)
      ∙ (λ j. take_at e.bytes behind (length e.bytes) refl j ∷ whole_entries L z (drop_at e.bytes behind (length e.bytes) refl j))

  -- ---- bytes are their whole entries, and a rest that begins with none and is dropped

  pub record Dropped (bs : List ℕ) : Type 0 where
    pub rest : List ℕ
    pub joined : bs ≡ concat (whole_entries L z bs) ++ rest
    pub short : L.entry_length z rest ≡ none

  dropped_up_to : (f : ℕ) (bs : List ℕ) → length bs ≤ f → Dropped bs
  dropped_up_to zero [] h = record { rest = []; joined = rw (whole_none [] length_nil) refl; short = length_nil }
  dropped_up_to zero (b ∷ bs) h = absurd (omega arith)
  dropped_up_to (suc f) bs h = go (L.entry_length z bs) refl (λ n w. dropped_up_to f (drop n bs) (omega (arith, length-drop n bs, w.0, w.1)))
    where
      go : (o : Option ℕ) → L.entry_length z bs ≡ o → ((n : ℕ) → (0 < n) × (n ≤ length bs) → Dropped (drop n bs)) → Dropped bs
      go none e rec = record { rest = bs; joined = rw (whole_none bs e) refl; short = e }
      go (some n) e rec =
          let r = rec n (W.length_within z bs n e) in
          record {
            rest = r.rest;
            joined =
                sym (take-append-drop n bs)
                ∙ ap (λ x. take n bs ++ x) r.joined
                ∙ sym (append_assoc (take n bs) _ _)
                ∙ ap (λ x. concat x ++ r.rest) (sym (whole_some bs n e));
            short = r.short;
          }

  pub dropped : (bs : List ℕ) → Dropped bs
  dropped bs = dropped_up_to (length bs) bs (omega arith)

  -- ---- the bytes before a cut

  -- Of entries that begin at byte b, cut at byte `at`, are read back just the items that end by it; and these have the first of the entries
  pub record CutShort (k : ℕ) (s : L.State) (at b : ℕ) (es : Entries L) : Type 0 where
    pub kept : Entries L
    pub read : whole_entries L z (take (at - b) (entry_bytes es)) ≡ bytes_of kept
    pub entries_are : entries_of L z k s (items_ending_by L at b es) ≡ ok kept
    pub items : map (L.item_of z) (bytes_of kept) ≡ items_ending_by L at b es
    pub lost : Entries L
    pub joined : kept ++ lost ≡ es

  module _ (k : ℕ) (s : L.State) (i : L.Item) (e : Written L.State) (stepped : L.step z k s i ≡ ok e) (at b : ℕ) where
    -- the first entry ends by the cut
    cut_behind : (es : Entries L) → b + length e.bytes ≤ at → CutShort (k + 1) e.after at (b + length e.bytes) es → CutShort k s at b (entry L i e ∷ es)
    unfolding entries_of items_ending_by
    cut_behind es le r =
        let T : List ℕ = take (at - (b + length e.bytes)) (entry_bytes es) in
        let n : length e.bytes + (at - (b + length e.bytes)) ≡ at - b = omega arith in
        let tk : take (at - b) (e.bytes ++ entry_bytes es) ≡ e.bytes ++ T =
        subst (λ x. take x (e.bytes ++ entry_bytes es) ≡ e.bytes ++ T) n (take-append-add e.bytes (entry_bytes es) (at - (b + length e.bytes))) in
        let keep : items_ending_by L at b (entry L i e ∷ es) ≡ i ∷ items_ending_by L at (b + length e.bytes) es = rw (le-leb (b + length e.bytes) at le) in
        record {
          kept = entry L i e ∷ r.kept;
          read =
              ap (whole_entries L z) tk
              ∙ whole_next k s i e stepped T
              ∙ ap (λ x. e.bytes ∷ x) r.read;
          entries_are = rw keep (bind_is _ _ _ _ stepped (bind_is _ _ _ _ r.entries_are refl));
          items = rw keep (cc (W.item_back z k s i e stepped, r.items));
          lost = r.lost;
          joined = ap (λ x. entry L i e ∷ x) r.joined;
        }

    -- it does not
    cut_inside : (es : Entries L) → b ≤ at → at < b + length e.bytes → CutShort k s at b (entry L i e ∷ es)
    unfolding entries_of items_ending_by
    cut_inside es lo lt =
        let gone : items_ending_by L at b (entry L i e ∷ es) ≡ [] =
        rw (lt-leb (b + length e.bytes) at lt) (none_ending L at (b + length e.bytes) es lt) in
        record {
          kept = [];
          read =
              ap (whole_entries L z) (take-append-le (at - b) e.bytes (entry_bytes es) (omega arith))
              ∙ whole_none (take (at - b) e.bytes) (W.length_short z k s i e stepped (at - b) (omega arith));
          entries_are = rw gone refl;
          items = rw gone refl;
          lost = entry L i e ∷ es;
          joined = refl;
        }

  pub cut_short : (k : ℕ) (s : L.State) (is : List L.Item) (at b : ℕ) (es : Entries L) → entries_of L z k s is ≡ ok es → b ≤ at → CutShort k s at b es
  unfolding entries_of items_ending_by
  cut_short k s [] at b es h lo =
      subst (CutShort k s at b) (ok_inj h)
      (record {
        kept = [];
        read = ap (whole_entries L z) (take-nil (at - b)) ∙ whole_none [] length_nil;
        entries_are = refl;
        items = refl;
        lost = [];
        joined = refl;
      })
  cut_short k s (i ∷ is) at b es h lo =
      let c = entries_cons L z k s i is es h in
      subst (CutShort k s at b) c.joined
      (go c.e c.stepped c.others (leb (b + length c.e.bytes) at) refl
      (λ le. cut_short (k + 1) c.e.after is at (b + length c.e.bytes) c.others c.rest le))
    where
      go : (e : Written L.State) → L.step z k s i ≡ ok e → (es : Entries L) (t : Bool) → leb (b + length e.bytes) at ≡ t
          → (b + length e.bytes ≤ at → CutShort (k + 1) e.after at (b + length e.bytes) es) → CutShort k s at b (entry L i e ∷ es)
      go e st es true t rec = let le = leb-true (b + length e.bytes) at t in cut_behind k s i e st at b es le (rec le)
      go e st es false t rec = cut_inside k s i e st at b es lo (leb-false (b + length e.bytes) at t)
