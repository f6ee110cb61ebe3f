-- Which numbers and indices the questions and the converter are refused with.
use Rattle.std.proofs.Common.{ℕ, ◌≡◌, refl, sym, not, List, map, length, drop, leb, Float}
use Rattle.std.specs.List.{list_all}
use Rattle.zone.specs.Promise.{Result, ok, refused, RefusesOnly, accepts, refuses}
use Rattle.zone.proofs.Promise.{because, bind_ok, bind_refuses, refuses_also}
use Rattle.zone.specs.Format.Head.{head_of}
use Rattle.book.specs.Model.Calls.{BookState, whole_entries, take_up_res}
use Rattle.book.specs.Model.Plain.{Contents, last_state}
use Rattle.book.specs.Model.PlainTakeUp.{contents_in}
use Rattle.book.specs.Refusals.{TakeUpRefusal}
use Rattle.book.specs.Year.{Carried, start_up, item_in, year_interface}
use Rattle.book.proofs.Model.Contents.{contents_taken, contents_refused, plain_refused}
use Rattle.book.proofs.Laws.Interface.{year_laws}
use Rattle.book.proofs.Refusals.{take_up_refusals}
use Rattle.book.specs.Numbers.{buffer_short}
use Rattle.zone.specs.declared.record.zone_record.Zone.{Zone}
use Rattle.tools.specs.Numbers.{question_value, version_1_entry}
use Rattle.tools.specs.Convert.{is_version_1, convert_in}
use Rattle.tools.specs.Inner.Convert.{converted_bytes, conversion_of}
use Rattle.tools.proofs.Laws.ConvertedBook.{conversion}
use Rattle.tools.specs.Questions.{value_valid, band_valid, first_above_in, hours_within_in, nearest_hour_in}
use Rattle.tools.specs.Refusals.{QuestionRefusal, question_take_up, question_invalid, QuestionRefusals, ConvertRefusal, convert_take_up, convert_version_1, convert_buffer_short, ConvertRefusals}

-- what a take-up accepts has contents
pub contents_accepted : (bytes : List ℕ) (v : BookState Carried) → take_up_res year_interface bytes ≡ ok v
    → (c : Contents year_interface) × (contents_in year_interface bytes ≡ ok c) × (length c.entries ≡ v.count) × (last_state c.start c.entries ≡ v.state)
unfolding take_up_res
contents_accepted bytes v e =
    let a = bind_ok (head_of bytes) _ v e in
    let b = bind_ok (start_up a.0.zone) _ v a.2 in
    let T = contents_taken year_interface year_laws bytes a.0.zone a.0.length b.0 v a.1 b.1 b.2 in
    (record { zone = a.0.zone; start = b.0; entries = T.es }, T.contents, T.count_is, T.state_is)

contents_refusals : (bytes : List ℕ) → RefusesOnly TakeUpRefusal (contents_in year_interface bytes)
contents_refusals bytes = go (take_up_res year_interface bytes) refl (take_up_refusals bytes)
  where
    go : (d : Result (BookState Carried)) → take_up_res year_interface bytes ≡ d → RefusesOnly TakeUpRefusal d → RefusesOnly TakeUpRefusal (contents_in year_interface bytes)
    go (ok v) e r = let c = contents_accepted bytes v e in rw c.1 (accepts c.0)
    go (refused n j) e (refuses p) = rw (contents_refused year_interface year_laws bytes n j e) (refuses p)

contents_first : (bytes : List ℕ) → RefusesOnly QuestionRefusal (contents_in year_interface bytes)
contents_first bytes = refuses_also (λ n i p. question_take_up p) (contents_refusals bytes)

first_above_refusals : (bytes : List ℕ) (value : Float) → RefusesOnly QuestionRefusal (first_above_in bytes value)
unfolding first_above_in
first_above_refusals bytes value = bind_refuses _ (contents_first bytes) λ c _. because (value_valid value) question_value 0 _ (λ _. question_invalid) λ _. accepts _

hours_within_refusals : (bytes : List ℕ) (lower upper : Float) → RefusesOnly QuestionRefusal (hours_within_in bytes lower upper)
unfolding hours_within_in
hours_within_refusals bytes lower upper = bind_refuses _ (contents_first bytes) λ c _. because (band_valid lower upper) question_value 0 _ (λ _. question_invalid) λ _. accepts _

nearest_hour_refusals : (bytes : List ℕ) (value : Float) → RefusesOnly QuestionRefusal (nearest_hour_in bytes value)
unfolding nearest_hour_in
nearest_hour_refusals bytes value = bind_refuses _ (contents_first bytes) λ c _. because (value_valid value) question_value 0 _ (λ _. question_invalid) λ _. accepts _

pub convert_not_taken : (bytes out : List ℕ) (n j : ℕ) → take_up_res year_interface bytes ≡ refused n j → convert_in bytes out ≡ refused n j
unfolding convert_in
convert_not_taken bytes out n j e = rw (plain_refused year_interface year_laws bytes n j e) refl

conversion_refuses : (z : Zone) (n : ℕ) (bytes out : List ℕ) → RefusesOnly ConvertRefusal (conversion_of z n bytes out)
conversion_refuses z n bytes out =
    because (list_all (λ i. not (is_version_1 i)) (map (item_in z) (whole_entries year_interface z (drop n bytes)))) version_1_entry 0 _ (λ _. convert_version_1) λ _.
    because (leb (length (converted_bytes z n bytes)) (length out)) buffer_short 0 _ (λ _. convert_buffer_short) λ _.
    accepts _

pub question_refusals : QuestionRefusals
question_refusals = record { first_above = first_above_refusals; hours_within_lem = hours_within_refusals; nearest_hour_lem = nearest_hour_refusals }

-- ---- the converter

pub convert_refusals : ConvertRefusals
convert_refusals bytes out = go (take_up_res year_interface bytes) refl (take_up_refusals bytes)
  where
    go : (d : Result (BookState Carried)) → take_up_res year_interface bytes ≡ d → RefusesOnly TakeUpRefusal d → RefusesOnly ConvertRefusal (convert_in bytes out)
    go (ok v) e r = let c = conversion bytes v (sym e) in rw (c.converts out) (conversion_refuses c.h.zone c.h.length bytes out)
    go (refused n j) e (refuses p) = rw (convert_not_taken bytes out n j e) (refuses (convert_take_up p))
