-- What `read_book` says of bytes, against the plain book that they are taken up as: the refusal, or the contents, which are read back from the bytes.
use Rattle.std.proofs.Common.{ℕ, ◌≤◌, ◌≡◌, refl, sym, ap, subst, ◌∙◌, List, map, length, drop}
use Rattle.std.specs.Prelude.{Ok}
use Rattle.std.specs.Prelude as Rust
use Rattle.zone.specs.Promise.{ok, refused}
use Rattle.zone.specs.Inner.Head.{structured_head, head_read}
use Rattle.zone.specs.Record.BuildingElement.{standard_coefficients}
use Rattle.zone.specs.Check.ZoneTest.{zone_test}
use Rattle.zone.specs.Format.Head.{ReadHead, head_of}
use Rattle.zone.specs.Calls.StartUp.{init_node_temps}
use Rattle.zone.specs.declared.record.zone_record.Zone.{Zone}
use Rattle.zone.specs.declared.record.refusal.Refusal.{Refusal}
use Rattle.zone.specs.declared.calls.state.State.{State}
use Rattle.zone.proofs.Promise.{bind_ok, ok_inj, head_yes, head_as_tested, structured_within, structured_few}
use Rattle.book.specs.Model.Calls as Book
use Rattle.book.specs.Model.PlainTakeUp.{contents_in}
use Rattle.book.specs.Year.{Carried, carried, no_entry_version, start_up, year_interface}
use Rattle.book.specs.Inner.Reader.{start_in, state_in}
use Rattle.book.proofs.Model.Contents.{contents_taken, contents_refused}
use Rattle.book.proofs.Model.Laws.Entries.{Entries}
use Rattle.book.proofs.Laws.Interface.{year_laws}
use Rattle.book.proofs.Laws.Reader.{states_read}

-- an accepted book, as it is read
pub record ReadContents (bytes : List ℕ) (z : Zone) (n : ℕ) (start : State) : Type 0 where
  pub few : z.count ≤ 24
  pub inside : n ≤ length bytes
  pub es : Entries year_interface
  pub contents : contents_in year_interface bytes ≡ ok (record { zone = z; start = carried start no_entry_version; entries = es })
  pub states : map (λ c. (state_in z c).temps) (Book.whole_entries year_interface z (drop n bytes)) ≡ map (λ x. x.after.state.temps) es

-- start-up's state, and that no entry is held
start_is_carried : (z : Zone) (s : Carried) → start_up z ≡ ok s → s ≡ carried s.state no_entry_version
start_is_carried z s e = let a = bind_ok (init_node_temps standard_coefficients z) _ s e in subst (λ x. x ≡ carried x.state no_entry_version) (ok_inj a.2) refl

module _ (bytes : List ℕ) (n j : ℕ) (e : refused n j ≡ Book.take_up_res year_interface bytes) where
  pub book_refused : contents_in year_interface bytes ≡ refused n j
  book_refused = contents_refused year_interface year_laws bytes n j (sym e)

start_of : (bytes : List ℕ) (given : State) (h : ReadHead Zone) (s : Carried) → head_of bytes ≡ ok h → start_up h.zone ≡ ok s → s.state ≡ start_in given bytes
unfolding start_in
start_of bytes given h s p q = rw (p, q) refl

module _ (bytes : List ℕ) (v : Book.BookState Carried) (e : ok v ≡ Book.take_up_res year_interface bytes) (given : State) where
  -- the head is that whose structure is right, too
  record AcceptedBook : Type 0 where
    pub h : ReadHead Zone
    pub structured : structured_head bytes ≡ ok h
    pub read : ReadContents bytes h.zone h.length (start_in given bytes)

  accepted_book : AcceptedBook
  unfolding Book.take_up_res
  accepted_book =
      let h = bind_ok (head_of bytes) _ v (sym e) in
      let s = bind_ok (start_up h.0.zone) _ v h.2 in
      let t = bind_ok (structured_head bytes) _ h.0 (sym (head_as_tested bytes) ∙ h.1) in
      let structured : structured_head bytes ≡ ok h.0 = t.1 ∙ ap ok (ok_inj (bind_ok (zone_test t.0.zone) _ h.0 t.2).2) in
      let T = contents_taken year_interface year_laws bytes h.0.zone h.0.length s.0 v h.1 s.1 s.2 in
      let as_read : ReadContents bytes h.0.zone h.0.length s.0.state = record {
        few = structured_few bytes h.0 structured;
        inside = structured_within bytes h.0 structured;
        es = T.es;
        contents = T.contents ∙ ap (λ y. ok (record { zone = h.0.zone; start = y; entries = T.es })) (start_is_carried h.0.zone s.0 s.1);
        states = ap (λ y. map (λ c. (state_in h.0.zone c).temps) y) (sym T.same) ∙ states_read h.0.zone 0 s.0 _ T.es T.entries_are;
      } in
      record { h = h.0; structured = structured; read = subst (λ y. ReadContents bytes h.0.zone h.0.length y) (start_of bytes given h.0 s.0 h.1 s.1) as_read }

  module _ (r : Rust.Result ℕ Refusal) (z : Zone) (head_is : head_read r z ≡ structured_head bytes) (n : ℕ) (q : r ≡ Ok n) where
    pub book_taken : ReadContents bytes z n (start_in given bytes)
    book_taken =
        let a = accepted_book in
        let same : a.h ≡ record { zone = z; length = n } = ok_inj (sym a.structured ∙ head_yes (structured_head bytes) r z head_is n q) in
        subst (λ (y : ReadHead Zone). ReadContents bytes y.zone y.length (start_in given bytes)) same a.read
