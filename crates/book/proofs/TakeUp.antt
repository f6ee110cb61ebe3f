-- What take-up's functions answer at each return: one entry, the loop over the whole entries, and the call.
use Rattle.std.proofs.Common.{◌≡◌, refl, sym, ap, subst, ◌∙◌, true, false, List, ◌∷◌, ◌++◌, ℕ, ◌+◌, ◌-◌, ◌≤◌, ◌<◌, arith, length, take, drop, length-drop, length-take-le, take-add, drop-drop, lt-ltb, le-ltb, leb}
use Rattle.std.specs.Prelude.{None, Some, Ok, Err}
use Rattle.std.specs.Prelude as Rust
use mathlib.Core.Option.{some}
use native.Mathlib.Nat.{add-sub_cancel_left}
use Rattle.zone.specs.Promise.{Result, ok, refused}
use Rattle.zone.specs.Record.BuildingElement.{standard_coefficients}
use Rattle.zone.specs.Format.Head.{ReadHead}
use Rattle.zone.specs.Inner.Head.{structured_head, head_read}
use Rattle.zone.specs.Check.ZoneTest.{zone_test}
use Rattle.zone.specs.declared.record.zone_record.Zone.{Zone}
use Rattle.book.specs.declared.book_error.BookError.{BookError}
use Rattle.zone.proofs.Promise.{and_true}
use Rattle.zone.specs.Calls.Hour.{hour_version}
use Rattle.zone.specs.Calls.NextHour.{next_hour, next_hour_reply}
use Rattle.zone.specs.Calls.StartUp.{init_node_temps}
use Rattle.zone.specs.declared.calls.state.State.{State}
use Rattle.zone.specs.declared.calls.state.Demand.{Demand}
use Rattle.zone.specs.declared.calls.state.Reply.{Reply as HourReply}
use Rattle.zone.specs.declared.record.refusal.Refusal.{Refusal}
use Rattle.zone.specs.Answers.{number_of, index_of, answered}
use Rattle.zone.specs.Calls.Answers.{reply_in as stepped_in}
use Rattle.book.specs.Numbers.{book_full, false_entry}
use Rattle.book.specs.Model.Bytes.{equal_bytes}
use Rattle.book.specs.Model.Calls as Book
use Rattle.book.proofs.Model.Laws.Decode.{whole_none, whole_some}
use Rattle.zone.specs.Format.Layout.{length_size, version_in, conditions_length}
use Rattle.zone.specs.Format.Limits.{limits_in}
use Rattle.zone.specs.declared.format.conditions.FixedRate.TheVariants.{StillTaken}
use Rattle.zone.specs.declared.format.limits.Limits.{Limits}
use Rattle.book.specs.Layout.{front_size, limits_length, whole_length}
use Rattle.book.specs.Entry.{entry_of}
use Rattle.book.specs.Year.{hour, Carried, carried, no_entry_version, may_follow, hour_entry, entry_length, body_in, item_in, year_interface}
use Rattle.book.specs.Answers.{number_of as number_of_error, index_of as index_of_error, given_of, answer_of}
use Rattle.book.specs.Inner.Answers.{values_in}
use Rattle.book.specs.declared.book.Reply.{Reply}
use Rattle.book.specs.Inner.Checked.{checked_entry}
use Rattle.book.specs.Inner.Reader.{start_in}
use Rattle.book.specs.Inner.Record.{NextRecord}
use Rattle.book.specs.declared.record.Records.{Records}
use Rattle.std.specs.Borrow.{Bor}
use Rattle.book.specs.declared.book.BookState.{BookState}
use Rattle.book.specs.declared.checked_entry.CheckedEntry.{CheckedEntry}
use Rattle.book.proofs.Laws.Heads.{head_stops, head_goes_on, starts, starts_not}
use Rattle.book.proofs.Laws.Interface.{year_laws}
use Rattle.book.proofs.Laws.Rest.{begins, begins_within, begins_known, record_alone}
use Rattle.book.proofs.Laws.NextHour.{step_given, step_refused, step_not_next}

-- ---- one entry

-- a whole record has its front; of a version that may follow it has that version's length
pub entry_front : (z : Zone) (c : List ℕ) → entry_length z c ≡ some (length c) → length_size < length c
entry_front z c e = let h = (begins_within z c (length c) (begins z c (length c) e)).0 in omega (arith, h)

pub entry_known : (z : Zone) (last : ℕ) (c : List ℕ) → entry_length z c ≡ some (length c) → (version : ℕ) → version ≡ version_in c → may_follow last version ≡ true
    → length c ≡ whole_length z version
entry_known z last c e version v f =
    let k = (and_true (hour_version version) (leb last version) f).0 in
    begins_known z c (length c) (begins z c (length c) e) (ap hour_version (sym v) ∙ k) ∙ ap (whole_length z) (sym v)

module _ (z : Zone) (k : ℕ) (s : Carried) (c : List ℕ) (version : ℕ) (v : version ≡ version_in c) where
  -- of a version that may not follow
  pub entry_not_next : may_follow s.last_version version ≡ false → refused false_entry k ≡ Book.check_entry year_interface k c (hour_entry StillTaken z k s (item_in z c))
  unfolding item_in
  entry_not_next f = rw (step_not_next StillTaken z s (version_in c) (ap (may_follow s.last_version) (sym v) ∙ f) (body_in z (version_in c) c) k)

  -- of one that may: its hour
  pub entry_by_hour : (r : Result Carried) → r ≡ Book.check_entry year_interface k c (hour_entry StillTaken z k s (hour version (body_in z version c)))
      → r ≡ Book.check_entry year_interface k c (hour_entry StillTaken z k s (item_in z c))
  unfolding item_in
  entry_by_hour r q = q ∙ ap (λ (x : ℕ). Book.check_entry year_interface k c (hour_entry StillTaken z k s (hour x (body_in z x c)))) v

-- the parts of its body, as the code cuts them out: m and n bytes, the conditions and the limits
abbrev conditions_cut : (c : List ℕ) (m : ℕ) → List ℕ
conditions_cut c m = take (front_size + m - front_size) (drop front_size c)

abbrev limits_cut : (c : List ℕ) (m n : ℕ) → List ℕ
limits_cut c m n = take (front_size + m + n - (front_size + m)) (drop (front_size + m) c)

module _ (z : Zone) (version : ℕ) (c : List ℕ) (m : ℕ) (m_is : m ≡ conditions_length z.count) (n : ℕ) (n_is : n ≡ limits_length version) where
  cuts_are : body_in z version c ≡ conditions_cut c m ++ limits_cut c m n
  cuts_are =
      (λ t. take (sym m_is t + sym n_is t) (drop front_size c))
      ∙ take-add m n (drop front_size c)
      ∙ ap (λ (y : List ℕ). take m (drop front_size c) ++ take n y) (drop-drop m front_size c)
      ∙ (λ t. take (sym (add-sub_cancel_left front_size m) t) (drop front_size c) ++ take (sym (add-sub_cancel_left (front_size + m) n) t) (drop (front_size + m) c))

  pub limits_cut_lem : length c ≡ whole_length z version → length (limits_cut c m n) ≡ limits_length version
  limits_cut_lem whole =
      rw (add-sub_cancel_left (front_size + m) n) (length-take-le n (drop (front_size + m) c) (omega (arith, whole, m_is, n_is, length-drop (front_size + m) c)) ∙ n_is)

module _ (z : Zone) (tested : zone_test z ≡ ok tt) (k : ℕ) (s : Carried) (version : ℕ) (follows : may_follow s.last_version version ≡ true) (c : List ℕ) where
  abbrev Checks : Result Carried → Type 0
  Checks r = r ≡ Book.check_entry year_interface k c (hour_entry StillTaken z k s (hour version (body_in z version c)))

  module _ (whole : length c ≡ whole_length z version) (m : ℕ) (m_is : m ≡ conditions_length z.count) (n : ℕ) (n_is : n ≡ limits_length version)
      (l : Limits) (l_is : l ≡ limits_in (limits_cut c m n)) (x : HourReply Demand) (r : stepped_in x ≡ next_hour_reply s.state (next_hour StillTaken standard_coefficients z version l s.state (conditions_cut c m))) where
    abbrev i : List ℕ
    i = conditions_cut c m

    abbrev j : List ℕ
    j = limits_cut c m n

    long : length j ≡ limits_length version
    long = limits_cut_lem z version c m m_is n n_is whole

    by_part : hour_entry StillTaken z k s (hour version (body_in z version c)) ≡ hour_entry StillTaken z k s (hour version (i ++ j))
    by_part = ap (λ y. hour_entry StillTaken z k s (hour version y)) (cuts_are z version c m m_is n n_is)

    pub entry_refused : (a : Refusal) → x.answer ≡ Err a → Checks (refused false_entry k)
    entry_refused a f =
        let w : hour_entry StillTaken z k s (hour version (body_in z version c)) ≡ refused (number_of a) (index_of a) = by_part ∙ step_refused StillTaken z tested s version follows i j long l (λ _. sym l_is) x r a f k in
        rw w

    module _ (d : Demand) (f : x.answer ≡ Ok d) where
      gives : hour_entry StillTaken z k s (hour version (body_in z version c)) ≡ ok (record { bytes = entry_of z version (i ++ j) d x.state; after = carried x.state version })
      gives = by_part ∙ step_given StillTaken z tested s version follows i j long l (λ _. sym l_is) x r d f k

      pub entry_right : equal_bytes (entry_of z version (i ++ j) d x.state) c ≡ true → Checks (ok (carried x.state version))
      entry_right q = rw (gives, q)

      pub entry_other : equal_bytes (entry_of z version (i ++ j) d x.state) c ≡ false → Checks (refused false_entry k)
      entry_other q = rw (gives, q)

-- ---- the loop over the whole entries

module _ (z : Zone) (s : Records) (same : s.layout.zone.now ≡ z) (v : BookState) (J : Result (Book.BookState Carried))
    (inv : J ≡ Book.check_entries year_interface z v.count (given_of v).state v.used (Book.whole_entries year_interface z s.rest.now)) where
  -- no whole entry is left
  pub check_end : (t : Records) → NextRecord s None t → ok (given_of v) ≡ J
  unfolding Book.check_entries
  check_end t next = rw (inv, whole_none year_interface year_laws z s.rest.now (rw (← same) next.0))

  module _ (c : Bor (List ℕ)) (t : Records) (next : NextRecord s (Some c) t) where
    whole : entry_length z s.rest.now ≡ some (length c.now)
    whole = rw (← same) next.0

    pub entry_alone : entry_length z c.now ≡ some (length c.now)
    entry_alone = subst (λ (x : List ℕ). entry_length z x ≡ some (length x)) (sym next.1) (record_alone z s.rest.now (length c.now) (begins z s.rest.now (length c.now) whole))

    pub entry_long : length c.now + length t.rest.now ≡ length s.rest.now
    entry_long =
        omega (arith, (begins_within z s.rest.now (length c.now) (begins z s.rest.now (length c.now) whole)).1, ap length next.2 ∙ length-drop (length c.now) s.rest.now)

    opened : Book.whole_entries year_interface z s.rest.now ≡ c.now ∷ Book.whole_entries year_interface z t.rest.now
    opened = whole_some year_interface year_laws z s.rest.now (length c.now) whole ∙ λ i. sym next.1 i ∷ Book.whole_entries year_interface z (sym next.2 i)

    pub check_many : year_interface.limit ≤ v.count → refused book_full 0 ≡ J
    unfolding Book.check_entries
    check_many h = rw (inv, opened, le-ltb v.count year_interface.limit h)

    module _ (few : v.count < year_interface.limit) (x : Rust.Result CheckedEntry BookError)
        (checked : checked_entry x ≡ Book.check_entry year_interface v.count c.now (hour_entry StillTaken z v.count (given_of v).state (item_in z c.now))) where
      pub check_false : (e : BookError) → x ≡ Err e → refused (number_of_error e) (index_of_error e) ≡ J
      unfolding Book.check_entries
      check_false e f = rw (inv, opened, lt-ltb v.count year_interface.limit few, sym checked ∙ ap checked_entry f)

      pub check_right : (y : CheckedEntry) → x ≡ Ok y
          → J ≡ Book.check_entries year_interface z (v.count + 1) (carried y.state y.version) (v.used + length c.now) (Book.whole_entries year_interface z t.rest.now)
      unfolding Book.check_entries
      check_right y f = rw (inv, opened, lt-ltb v.count year_interface.limit few, sym checked ∙ ap checked_entry f)

-- ---- the call

-- what follows the start-up
abbrev entries : (bytes : List ℕ) → ReadHead Zone → Carried → Result (Book.BookState Carried)
entries bytes h s = Book.check_entries year_interface h.zone 0 s h.length (Book.whole_entries year_interface h.zone (drop h.length bytes))

abbrev started : ReadHead Zone → Carried → Result State
started h s = ok s.state

module _ (bytes : List ℕ) (x : Rust.Result ℕ Refusal) (z : Zone) (e : head_read x z ≡ structured_head bytes) where
  pub start_no_head : (given : State) → (i : Refusal) → x ≡ Err i → given ≡ start_in given bytes
  unfolding start_in
  start_no_head given i f = rw (head_stops bytes x z e started i f) refl

  pub values_no_head : (i : Refusal) → x ≡ Err i → refused (number_of i) (index_of i) ≡ Book.take_up_res year_interface bytes
  unfolding Book.take_up_res
  values_no_head i f = sym (head_stops bytes x z e (entries bytes) i f)

  pub head_is : (n : ℕ) → x ≡ Ok n → structured_head bytes ≡ ok (record { zone = z; length = n })
  head_is n f = sym e ∙ ap (λ r. head_read r z) f

module _ (bytes : List ℕ) (z : Zone) (n : ℕ) (e : structured_head bytes ≡ ok (record { zone = z; length = n }))
    (y : Rust.Result State Refusal) (a : answered y ≡ init_node_temps standard_coefficients z) where
  pub start_refused : (given : State) → (i : Refusal) → y ≡ Err i → given ≡ start_in given bytes
  unfolding start_in
  start_refused given i k = rw (head_goes_on bytes (Ok n) z (sym e) started n refl, starts_not z y a i k) refl

  pub values_no_start : (i : Refusal) → y ≡ Err i → refused (number_of i) (index_of i) ≡ Book.take_up_res year_interface bytes
  unfolding Book.take_up_res
  values_no_start i k = sym (head_goes_on bytes (Ok n) z (sym e) (entries bytes) n refl ∙ rw (starts_not z y a i k))

  module _ (s : State) (k : y ≡ Ok s) where
    pub start_read : (given : State) → s ≡ start_in given bytes
    unfolding start_in
    start_read given = rw (head_goes_on bytes (Ok n) z (sym e) started n refl, starts z y a s k) refl

    pub values_read : (d : Rust.Result BookState BookError) → values_in d ≡ entries bytes (record { zone = z; length = n }) (carried s no_entry_version)
        → values_in d ≡ Book.take_up_res year_interface bytes
    unfolding Book.take_up_res
    values_read d q = q ∙ sym (head_goes_on bytes (Ok n) z (sym e) (entries bytes) n refl ∙ rw (starts z y a s k) refl)

pub take_up_told : (bytes : List ℕ) (g : BookState) (x : Rust.Result BookState BookError) → values_in x ≡ Book.take_up_res year_interface bytes
    → (r : Reply) → answer_of r ≡ Book.answer_from (given_of g) (values_in x) → answer_of r ≡ Book.take_up year_interface (given_of g) bytes
unfolding Book.take_up
take_up_told bytes g x e r q = q ∙ ap (Book.answer_from (given_of g)) e

-- the ways out of `check_entry`, of `read_book` and of `start_and_check`
pub ruleset entry_cases = (entry_front, entry_known, entry_not_next, entry_by_hour)

pub ruleset head_cases = (start_no_head, values_no_head, head_is)

pub ruleset start_cases = (values_no_start, values_read)
