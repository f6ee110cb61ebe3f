-- The converter's ways out: what it has read, against the definition.
use Rattle.std.proofs.Common.{ℕ, ◌+◌, ◌-◌, ◌<◌, ◌≤◌, ◌≡◌, refl, sym, ap, subst, ◌∙◌, Bool, true, false, List, ◌++◌, map, append_assoc, arith, length, take, drop, length-append, length-take-le, drop-drop, take_at, drop_at, le-leb}
use Rattle.std.specs.Prelude.{Ok, Err}
use Rattle.std.specs.Prelude as Rust
use borrow.Author.Tests.{lt-leb}
use Rattle.solver.proofs.Promise.{part_to_end}
use Rattle.zone.specs.Promise.{ok, refused}
use Rattle.zone.proofs.Promise.{bind_ok, head_as_tested, head_yes, ok_inj, structured_few, structured_within}
use Rattle.zone.specs.Answers.{number_of as number_of_refusal, index_of as index_of_refusal}
use Rattle.zone.specs.Check.ZoneTest.{zone_test}
use Rattle.zone.specs.Format.Head.{ReadHead}
use Rattle.zone.specs.Inner.Head.{structured_head, head_read}
use Rattle.zone.specs.declared.record.refusal.Refusal.{Refusal}
use Rattle.zone.specs.declared.record.zone_record.Zone.{Zone}
use Rattle.book.specs.Answers.{given_of}
use Rattle.book.specs.Answers as Book
use Rattle.book.specs.Inner.Answers.{values_in}
use Rattle.book.specs.Model.Bytes.{concat}
use Rattle.book.specs.Model.Calls.{whole_entries, take_up_res}
use Rattle.book.specs.Year.{year_interface}
use Rattle.book.specs.declared.book.BookState.{BookState}
use Rattle.book.specs.declared.book_error.BookError.{BookError}
use Rattle.book.proofs.TakeUp.{values_no_head}
use Rattle.book.proofs.Model.Contents.{plain_refused}
use Rattle.book.proofs.Laws.Interface.{year_laws}
use Rattle.tools.specs.Convert.{convert_in}
use Rattle.tools.specs.ConvertAnswers.{convert_outcome}
use Rattle.tools.specs.Inner.Convert.{converted_entry, converted_bytes, first_is_version_1, Known, Accepts}
use Rattle.tools.proofs.Laws.ConvertedBook.{conversion}
use Rattle.tools.proofs.Laws.ConvertLoop.{same_lengths}

module _ (bytes out : List ℕ) where
  pub convert_refused : (number index : ℕ) → refused number index ≡ take_up_res year_interface bytes → (refused number index, out) ≡ convert_outcome bytes out
  unfolding convert_in
  convert_refused number index e = rw (plain_refused year_interface year_laws bytes number index (sym e)) refl

-- ---- a book that is accepted

module _ (bytes : List ℕ) (x : Rust.Result BookState BookError) (values_are : values_in x ≡ take_up_res year_interface bytes) (v : BookState) (accepted : x ≡ Ok v)
    (h : Rust.Result ℕ Refusal) (z : Zone) (head_is : head_read h z ≡ structured_head bytes) (n : ℕ) (read : h ≡ Ok n) where
  pub known : Known bytes z n v
  known =
      let c = conversion bytes (given_of v) (sym (ap values_in accepted) ∙ values_are) in
      let t = bind_ok (structured_head bytes) _ c.h (sym (head_as_tested bytes) ∙ c.head_is) in
      let structured : structured_head bytes ≡ ok c.h = t.1 ∙ ap ok (ok_inj (bind_ok (zone_test t.0.zone) _ c.h t.2).2) in
      let same : c.h ≡ record { zone = z; length = n } = ok_inj (sym structured ∙ head_yes (structured_head bytes) h z head_is n read) in
      let here : Known bytes c.h.zone c.h.length v =
      record {
        few = structured_few bytes c.h structured;
        inside = structured_within bytes c.h structured;
        used_is = c.used_is;
        count_is = c.count_is;
        long = c.long;
        version = c.version;
        converts = c.converts;
      } in
      subst (λ (y : ReadHead Zone). Known bytes y.zone y.length v) same here

-- the ways out of `read_accepted`
module _ (bytes : List ℕ) where
  pub not_accepted_head : (h : Rust.Result ℕ Refusal) (z : Zone) → head_read h z ≡ structured_head bytes → (i : Refusal) → h ≡ Err i
      → refused (number_of_refusal i) (index_of_refusal i) ≡ take_up_res year_interface bytes
  not_accepted_head h z head_is i q = values_no_head bytes h z head_is i q

  pub not_accepted : (x : Rust.Result BookState BookError) → values_in x ≡ take_up_res year_interface bytes → (e : BookError) → x ≡ Err e
      → refused (Book.number_of e) (Book.index_of e) ≡ take_up_res year_interface bytes
  not_accepted x values_are e q = sym (ap values_in q) ∙ values_are

pub ruleset accepted_cases = (not_accepted_head, not_accepted, known)

module _ (bytes : List ℕ) (z : Zone) (n : ℕ) (v : BookState) (K : Known bytes z n v) (out : List ℕ) where
  abbrev cs : List (List ℕ)
  cs = whole_entries year_interface z (drop n bytes)

  made_long : length (converted_bytes z n bytes) ≡ v.used
  made_long =
      omega (
        arith,
        length-append (take n bytes) (concat (map converted_entry cs)),
        length-take-le n bytes K.inside,
        same_lengths cs K.long,
        K.used_is,
      )

  pub convert_version_1 : first_is_version_1 (whole_entries year_interface z (drop n bytes)) ≡ true → (refused 24 0, out) ≡ convert_outcome bytes out
  convert_version_1 t = rw (K.converts out, K.version, t) refl

  module _ (other : first_is_version_1 (whole_entries year_interface z (drop n bytes)) ≡ false) where
    pub convert_short : length out < v.used → (refused 16 0, out) ≡ convert_outcome bytes out
    convert_short t = rw (K.converts out, K.version, other, K.count_is, made_long, lt-leb v.used (length out) t) refl

    pub convert_done : v.used ≤ length out → (ok (v.count, v.used), converted_bytes z n bytes ++ drop v.used out) ≡ convert_outcome bytes out
    convert_done t =
        rw (K.converts out, K.version, other, K.count_is, made_long, le-leb v.used (length out) t)
        (λ u. (ok (v.count, sym made_long u), converted_bytes z n bytes ++ drop (sym made_long u) out))

-- ---- a refusal that `read_accepted` tells

module _ (bytes : List ℕ) (z : Zone) (r : Rust.Result (ℕ × BookState) BookError) (tells : Accepts bytes z r) where
  pub told_refused : (out : List ℕ) (e : BookError) → r ≡ Err e → (refused (Book.number_of e) (Book.index_of e), out) ≡ convert_outcome bytes out
  told_refused out e q = convert_refused bytes out (Book.number_of e) (Book.index_of e) (subst (Accepts bytes z) q tells)

-- ---- what is written: the head, and behind it the entries anew

module _ (bytes : List ℕ) (z : Zone) (n : ℕ) (v : BookState) (K : Known bytes z n v) (out : List ℕ) where
  abbrev made : List ℕ
  made = concat (map converted_entry (whole_entries year_interface z (drop n bytes)))

  used_after : n ≤ v.used
  used_after = omega (arith, K.used_is)

  pub written : (head : List ℕ) → head ≡ take n bytes → v.used ≤ length out
      → take n (head ++ drop n out) ++ (made ++ drop (v.used - n) (drop n (head ++ drop n out))) ≡ converted_bytes z n bytes ++ drop v.used out
  written head is room =
      let long : length head ≡ n = ap length is ∙ length-take-le n bytes K.inside in
      let at : n + (v.used - n) ≡ v.used = omega (arith, used_after) in
      (λ t. take_at head (drop n out) n long t ++ (made ++ drop (v.used - n) (drop_at head (drop n out) n long t)))
      ∙ (λ t. is t ++ (made ++ drop-drop (v.used - n) n out t))
      ∙ ap (λ m. take n bytes ++ (made ++ drop m out)) at
      ∙ sym (append_assoc (take n bytes) made (drop v.used out))

-- the first hour's version, in the part of the bytes that the code hands over
pub same_version : (z : Zone) (bytes : List ℕ) (n : ℕ) (b : Bool) → b ≡ first_is_version_1 (whole_entries year_interface z (take (length bytes - n) (drop n bytes)))
    → first_is_version_1 (whole_entries year_interface z (drop n bytes)) ≡ b
same_version z bytes n b e = sym (e ∙ ap (λ l. first_is_version_1 (whole_entries year_interface z l)) (part_to_end bytes n))

pub same_entries : (z : Zone) (bytes : List ℕ) (n : ℕ) (l : List ℕ) → l ≡ concat (map converted_entry (whole_entries year_interface z (take (length bytes - n) (drop n bytes))))
    → l ≡ concat (map converted_entry (whole_entries year_interface z (drop n bytes)))
same_entries z bytes n l e = e ∙ ap (λ x. concat (map converted_entry (whole_entries year_interface z x))) (part_to_end bytes n)
