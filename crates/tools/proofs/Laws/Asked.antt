-- A question that is asked of a book as it is read, against the plain book's contents.
use Rattle.std.proofs.Common.{ℕ, ◌-◌, ◌≡◌, refl, sym, ap, ◌∙◌, Bool, false, List, [], ◌∷◌, map, length, take, drop, Float, le-leb}
use Rattle.std.specs.Prelude.{Ok, Err}
use Rattle.std.specs.Prelude as Rust
use Rattle.solver.proofs.Promise.{part_to_end}
use Rattle.zone.specs.Promise.{Result, ok, refused, bind, require}
use Rattle.zone.specs.Calls.State.{operative_of}
use Rattle.zone.specs.Answers.{number_of as number_of_refusal, index_of as index_of_refusal}
use Rattle.zone.specs.Inner.Head.{structured_head, head_read}
use Rattle.zone.specs.declared.calls.state.State.{State}
use Rattle.zone.specs.declared.record.refusal.Refusal.{Refusal}
use Rattle.zone.specs.declared.record.zone_record.Zone.{Zone}
use Rattle.book.specs.Model.Calls.{whole_entries, take_up_res}
use Rattle.book.specs.Model.Plain.{Contents}
use Rattle.book.specs.Model.PlainTakeUp.{contents_in}
use Rattle.book.specs.Answers.{number_of, index_of, given_of}
use Rattle.book.specs.declared.book.BookState.{BookState}
use Rattle.book.specs.declared.book_error.BookError.{BookError}
use Rattle.book.specs.Inner.Answers.{values_in}
use Rattle.book.specs.Inner.Reader.{most_elements, start_in, state_in}
use Rattle.book.specs.Year.{year_interface}
use Rattle.book.proofs.TakeUp.{values_no_head}
use Rattle.book.proofs.Laws.Heads.{head_inside}
use Rattle.book.proofs.Laws.ReadBook.{ReadContents, book_refused, book_taken}
use Rattle.tools.specs.Numbers.{question_value}
use Rattle.tools.specs.Questions.{start_temperature, hour_temperatures, value_valid, band_valid, first_above, hours_within, nearest_hour, first_above_in, hours_within_in, nearest_hour_in}
use Rattle.tools.specs.Inner.Hours.{temperatures_in, hours_left}
use Rattle.tools.specs.declared.hours.Hours.{Hours}
use Rattle.tools.specs.Inner.Asked.{asked_of, answer_of}

map_twice : {A B C : Type 0} (f : B → C) (g : A → B) (l : List A) → map f (map g l) ≡ map (λ x. f (g x)) l
map_twice f g [] = refl
map_twice f g (x ∷ l) = ap (λ y. f (g x) ∷ y) (map_twice f g l)

-- ---- the book is refused

module _ (bytes : List ℕ) (number index : ℕ) (e : contents_in year_interface bytes ≡ refused number index) where
  pub above_refused : (value : Float) → first_above_in bytes value ≡ refused number index
  unfolding first_above_in
  above_refused value = rw e refl

  pub within_refused : (lower upper : Float) → hours_within_in bytes lower upper ≡ refused number index
  unfolding hours_within_in
  within_refused lower upper = rw e refl

  pub nearest_refused : (value : Float) → nearest_hour_in bytes value ≡ refused number index
  unfolding nearest_hour_in
  nearest_refused value = rw e refl

-- ---- it is accepted

module _ (bytes : List ℕ) (c : Contents year_interface) (e : contents_in year_interface bytes ≡ ok c) where
  pub above_invalid : (value : Float) → value_valid value ≡ false → first_above_in bytes value ≡ refused question_value 0
  unfolding first_above_in
  above_invalid value h = rw (e, h) refl

  pub within_invalid : (lower upper : Float) → band_valid lower upper ≡ false → hours_within_in bytes lower upper ≡ refused question_value 0
  unfolding hours_within_in
  within_invalid lower upper h = rw (e, h) refl

  pub nearest_invalid : (value : Float) → value_valid value ≡ false → nearest_hour_in bytes value ≡ refused question_value 0
  unfolding nearest_hour_in
  nearest_invalid value h = rw (e, h) refl

-- ---- a question is asked of the plain book's contents

module _ {A : Type 0} (valid : Bool) (question : Float → List Float → A) where
  asked_contents : (d : Result (Contents year_interface))
      → (bind {A = Float × List Float} (bind d λ c. ok (start_temperature c, hour_temperatures c)) λ b. bind (require valid question_value) λ _. ok (question b.0 b.1))
      ≡ (bind d λ c. bind (require valid question_value) λ _. ok (question (start_temperature c) (hour_temperatures c)))
  asked_contents (ok c) = refl
  asked_contents (refused number index) = refl

module _ (bytes : List ℕ) where
  pub above_asked : (value : Float) → first_above_in bytes value ≡ answer_of bytes (value_valid value) (first_above value)
  unfolding answer_of first_above_in
  above_asked value = sym (asked_contents (value_valid value) (first_above value) (contents_in year_interface bytes))

  pub within_asked : (lower upper : Float) → hours_within_in bytes lower upper ≡ answer_of bytes (band_valid lower upper) (λ _. hours_within lower upper)
  unfolding answer_of hours_within_in
  within_asked lower upper = sym (asked_contents (band_valid lower upper) (λ _. hours_within lower upper) (contents_in year_interface bytes))

  pub nearest_asked : (value : Float) → nearest_hour_in bytes value ≡ answer_of bytes (value_valid value) (λ _. nearest_hour value)
  unfolding answer_of nearest_hour_in
  nearest_asked value = sym (asked_contents (value_valid value) (λ _. nearest_hour value) (contents_in year_interface bytes))

-- ---- the book as it is read

module _ (bytes : List ℕ) (h : Rust.Result ℕ Refusal) (z : Zone) (head_is : head_read h z ≡ structured_head bytes) where
  pub asked_no_head : (i : Refusal) → h ≡ Err i → refused (number_of_refusal i) (index_of_refusal i) ≡ asked_of bytes
  asked_no_head i q = rw (book_refused bytes (number_of_refusal i) (index_of_refusal i) (values_no_head bytes h z head_is i q)) refl

module _ (bytes : List ℕ) (x : Rust.Result BookState BookError) (values_are : values_in x ≡ take_up_res year_interface bytes) where
  pub asked_no_book : (e : BookError) → x ≡ Err e → refused (number_of e) (index_of e) ≡ asked_of bytes
  asked_no_book e q = rw (book_refused bytes (number_of e) (index_of e) (sym (ap values_in q) ∙ values_are)) refl

  module _ (v : BookState) (accepted : x ≡ Ok v) (h : Rust.Result ℕ Refusal) (z : Zone) (head_is : head_read h z ≡ structured_head bytes) (n : ℕ) (read : h ≡ Ok n)
      (given start : State) (start_is : start ≡ start_in given bytes) where
    abbrev C : ReadContents bytes z n (start_in given bytes)
    C = book_taken bytes (given_of v) (sym (ap values_in accepted) ∙ values_are) given h z head_is n read

    -- the temperatures that stand in the bytes are those of the plain book's hours
    same_temperatures : temperatures_in z (drop n bytes) ≡ map (λ x. operative_of z x.after.state.temps) C.es
    same_temperatures =
        let cs = whole_entries year_interface z (drop n bytes) in
        sym (map_twice (operative_of z) (λ x. (state_in z x).temps) cs)
        ∙ ap (map (operative_of z)) C.states
        ∙ map_twice (operative_of z) (λ x. x.after.state.temps) C.es

    hours_are : (h : Hours) → h.zone.now ≡ z → h.entries.now ≡ take (length bytes - n) (drop n bytes) → hours_left h ≡ map (λ x. operative_of z x.after.state.temps) C.es
    unfolding hours_left
    hours_are h zone_is entries_are =
        rw (zone_is, entries_are, part_to_end bytes n, le-leb z.count most_elements C.few) same_temperatures

    pub asked_yes : (t : Float) → t ≡ operative_of z start.temps → (h : Hours) → h.zone.now ≡ z → h.entries.now ≡ take (length bytes - n) (drop n bytes) → ok (t, hours_left h) ≡ asked_of bytes
    asked_yes t t_is h zone_is entries_are = rw (C.contents, t_is, start_is, hours_are h zone_is entries_are) refl

-- the ways out of `asked_book`
pub ruleset asked_cases = (head_inside, asked_no_head, asked_no_book, asked_yes)
