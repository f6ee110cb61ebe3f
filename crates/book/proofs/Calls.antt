-- What begin, append and take-up answer at each return, from the tests and the callees' answers on the way.
use Rattle.std.proofs.Common.{◌≡◌, refl, sym, ap, subst, ◌∙◌, Bool, true, false, List, ◌++◌, append_assoc, ℕ, ◌+◌, ◌≤◌, ◌<◌, arith, length, take, drop, length-append, length-take-le, drop-drop, T, leb, ltb, leb-true, le-leb, lt-ltb, le-ltb}
use Rattle.std.specs.Prelude.{Ok, Err, OnErr}
use Rattle.std.specs.Prelude as Rust
use lib.Ieee.{binary64, fits}
use borrow.Author.Tests.{lt-leb}
use Rattle.zone.specs.Promise.{Result, ok, refused, bind, require}
use Rattle.zone.specs.Record.BuildingElement.{standard_coefficients}
use Rattle.zone.specs.Format.Head.{ReadHead}
use Rattle.zone.specs.Inner.Head.{structured_head, head_read}
use Rattle.zone.specs.Check.ZoneTest.{zone_test}
use Rattle.zone.specs.declared.record.zone_record.Zone.{Zone}
use Rattle.zone.proofs.Promise.{answered_no, answered_yes}
use Rattle.zone.specs.Calls.NextHour.{next_hour, next_hour_reply}
use Rattle.zone.specs.Calls.StartUp.{init_node_temps}
use Rattle.zone.specs.declared.calls.state.State.{State}
use Rattle.zone.specs.declared.calls.state.Demand.{Demand}
use Rattle.zone.specs.declared.calls.state.Reply.{Reply as HourReply}
use Rattle.zone.specs.declared.record.refusal.Refusal.{Refusal}
use Rattle.zone.specs.Answers.{number_of, index_of, answered}
use Rattle.zone.specs.Calls.Answers.{reply_in as stepped_in}
use Rattle.book.specs.Numbers.{buffer_short, book_full, false_entry}
use Rattle.book.specs.Model.Interface.{Written}
use Rattle.book.specs.Model.Calls as Book
use Rattle.book.specs.Model.Session.{CallSpec}
use Rattle.book.specs.Inner.Start.{with_start}
use Rattle.zone.specs.Format.Layout.{conditions_length}
use Rattle.zone.specs.Format.Limits.{limits_in}
use Rattle.zone.specs.declared.format.conditions.FixedRate.{FixedRate}
use Rattle.zone.specs.declared.format.conditions.FixedRate.TheVariants.{Retired}
use Rattle.zone.specs.declared.format.limits.Limits.{Limits}
use Rattle.zone.specs.Calls.Hour.{has_limits}
use Rattle.book.specs.Layout.{limits_length, whole_length}
use Rattle.book.specs.Entry.{entry_of}
use Rattle.book.specs.Year.{Item, hour, limits_part, hour_item, Carried, carried, no_entry_version, may_follow, hour_entry, year_interface}
use Rattle.book.specs.Answers.{given_of, answer_of, rust_types}
use Rattle.book.specs.Inner.Answers.{values_in, written}
use Rattle.book.specs.declared.book_error.BookError.{BookError}
use Rattle.book.specs.declared.book.BookState.{BookState}
use Rattle.book.specs.declared.book.Reply.{Reply}
use Rattle.book.proofs.Laws.Start.{part_from, with_part, part_is, part_put}
use Rattle.book.proofs.Laws.Accepted.{hour_body}
use Rattle.book.proofs.Laws.Body.{part_length, part_back}
use Rattle.book.proofs.Laws.Heads.{head_inside, head_stops, head_goes_on, starts, starts_not}
use Rattle.book.proofs.Laws.Interface.{step_hour, step_length}
use Rattle.book.proofs.Laws.NextHour.{step_given, step_refused, step_not_next}

-- ---- the callees' answers, read back

module _ (z : Zone) where
  -- the conditions i of an hour that is accepted, before the bytes j of its limits
  pub step_size : (fixed : FixedRate) (k : ℕ) (s : Carried) (version : ℕ) (i j : List ℕ) → length j ≡ limits_length version → (e : Written Carried) → hour_entry fixed z k s (hour version (i ++ j)) ≡ ok e
      → length i ≡ conditions_length z.count
  step_size fixed k s version i j l e p =
      let a = step_hour fixed z k s version (i ++ j) e p in
      omega (arith, l, length-append i j, hour_body fixed z version s.state (i ++ j) a.result a.stepped)

  module _ (fixed : FixedRate) (tested : zone_test z ≡ ok tt) (s : Carried) (version : ℕ) (follows : may_follow s.last_version version ≡ true)
      (i j : List ℕ) (long : length j ≡ limits_length version) (l : Limits) (holds : has_limits version ≡ true → limits_in j ≡ l) (x : HourReply Demand)
      (e : stepped_in x ≡ next_hour_reply s.state (next_hour fixed standard_coefficients z version l s.state i)) (d : Demand) (f : x.answer ≡ Ok d) where
    pub hour_size : length i ≡ conditions_length z.count
    hour_size = step_size fixed 0 s version i j long _ (step_given fixed z tested s version follows i j long l holds x e d f 0)

    pub hour_written : length (entry_of z version (i ++ j) d x.state) ≡ whole_length z version
    hour_written = step_length fixed z 0 s version (i ++ j) _ (step_given fixed z tested s version follows i j long l holds x e d f 0)

  pub append_room : (version used m room : ℕ) (t : Bool) → m ≡ whole_length z version → t ≡ leb (used + m) room → t ≡ true → used + whole_length z version ≤ room
  append_room version used m room t l e f = let w = leb-true (used + m) room (sym e ∙ f) in omega arith

module _ (z : Zone) (x : Rust.Result (Unit {0}) Refusal) (e : answered x ≡ zone_test z) where
  pub zone_passed : (u : Unit {0}) → x ≡ Ok u → zone_test z ≡ ok tt
  zone_passed u f = answered_yes (zone_test z) x e u f

-- ---- the reply of a call with a buffer: its new values and what is written, or what was given and the buffer as it was

outcome_told : (g : BookState) (x : Rust.Result BookState BookError) (buf out : List ℕ) → OnErr x (out ≡ buf)
    → (r : Reply) → answer_of r ≡ Book.answer_from (given_of g) (values_in x) → CallSpec year_interface rust_types r out (Book.outcome_of (given_of g) buf (written x out))
outcome_told g (Ok v) buf out k r q = record { answer = q; bytes = refl }
outcome_told g (Err e) buf out k r q = record { answer = q; bytes = k }

module _ (g : BookState) (x : Rust.Result BookState BookError) (buf out : List ℕ) (kept : OnErr x (out ≡ buf)) (r : Reply) (told : answer_of r ≡ Book.answer_from (given_of g) (values_in x)) where
  pub begin_told : (head : List ℕ) → written x out ≡ Book.begin_res year_interface head buf
      → CallSpec year_interface rust_types r out (Book.begin year_interface head (given_of g) buf)
  unfolding Book.begin
  begin_told head e = subst (λ d. CallSpec year_interface rust_types r out (Book.outcome_of (given_of g) buf d)) e (outcome_told g x buf out kept r told)

  pub append_told : (z : Zone) (i : Item) → written x out ≡ Book.append_res year_interface z (given_of g) i buf
      → CallSpec year_interface rust_types r out (Book.append year_interface z (given_of g) i buf)
  unfolding Book.append
  append_told z i e = subst (λ d. CallSpec year_interface rust_types r out (Book.outcome_of (given_of g) buf d)) e (outcome_told g x buf out kept r told)

-- ---- begin

module _ (head : List ℕ) (x : Rust.Result ℕ Refusal) (z : Zone) (e : head_read x z ≡ structured_head head) (buf : List ℕ) where
  -- what follows the start-up
  abbrev begun : ReadHead Zone → Carried → Result (Book.BookState Carried × List ℕ)
  begun h s =
      bind (require (leb h.length (length buf)) buffer_short) λ _.
      ok (record { state = s; count = 0; used = h.length }, take h.length head ++ drop h.length buf)

  pub begin_no_head : (i : Refusal) → x ≡ Err i → refused (number_of i) (index_of i) ≡ Book.begin_res year_interface head buf
  unfolding Book.begin_res
  begin_no_head i f = sym (head_stops head x z e begun i f)

  -- the head's bytes lie within those that were given
  pub begin_inside : (n : ℕ) → x ≡ Ok n → n ≡ length (take n head)
  begin_inside n f = sym (length-take-le n head (head_inside head x z e n f))

  module _ (n : ℕ) (f : x ≡ Ok n) (y : Rust.Result State Refusal) (a : answered y ≡ init_node_temps standard_coefficients z) where
    pub begin_no_start : (i : Refusal) → y ≡ Err i → refused (number_of i) (index_of i) ≡ Book.begin_res year_interface head buf
    unfolding Book.begin_res
    begin_no_start i k = sym (head_goes_on head x z e begun n f ∙ rw (starts_not z y a i k))

    module _ (s : State) (k : y ≡ Ok s) where
      pub begin_short : length buf < n → refused buffer_short 0 ≡ Book.begin_res year_interface head buf
      unfolding Book.begin_res
      begin_short l = sym (head_goes_on head x z e begun n f ∙ rw (starts z y a s k, lt-leb n (length buf) l))

      pub begin_good : (v : Book.BookState Carried) → v ≡ record { state = carried s no_entry_version; count = 0; used = n }
          → n ≤ length buf → (out : List ℕ) → out ≡ with_start (take n head) buf → ok (v, out) ≡ Book.begin_res year_interface head buf
      unfolding Book.begin_res with_start
      begin_good v v_is l out o =
          let m : length (take n head) ≡ n = length-take-le n head (head_inside head x z e n f) in
          (λ t. ok (v_is t, (o ∙ ap (λ (i : ℕ). take n head ++ drop i buf) m) t))
          ∙ sym (head_goes_on head x z e begun n f ∙ rw (starts z y a s k, le-leb n (length buf) l))

-- ---- append

module _ (z : Zone) (g : BookState) (version : ℕ) (i : List ℕ) (l : Limits) (buf : List ℕ) where
  -- what the hour holds
  abbrev body : List ℕ
  body = i ++ limits_part version l

  abbrev Appends : Result (Book.BookState Carried × List ℕ) → Type 0
  Appends d = d ≡ Book.append_res year_interface z (given_of g) (hour_item version i l) buf

  pub append_no_zone : (x : Rust.Result (Unit {0}) Refusal) → answered x ≡ zone_test z → (e : Refusal) → x ≡ Err e → Appends (refused (number_of e) (index_of e))
  unfolding Book.append_res
  append_no_zone x a e f = rw (answered_no (zone_test z) x a e f)

  module _ (tested : zone_test z ≡ ok tt) where
    pub append_full : year_interface.limit ≤ g.count → Appends (refused book_full 0)
    unfolding Book.append_res
    append_full l = rw (tested, le-ltb g.count year_interface.limit l)

    module _ (few : g.count < year_interface.limit) where
      room : ltb g.count year_interface.limit ≡ true
      room = lt-ltb g.count year_interface.limit few

      pub append_version : may_follow g.last_version version ≡ false → Appends (refused false_entry g.count)
      unfolding Book.append_res
      append_version f = rw (tested, room, step_not_next Retired z (given_of g).state version f body g.count)

      -- the limits are read back from the bytes that they have
      module _ (follows : may_follow g.last_version version ≡ true) (heating : T (fits binary64 l.heating)) (cooling : T (fits binary64 l.cooling))
          (x : HourReply Demand) (e : stepped_in x ≡ next_hour_reply g.state (next_hour Retired standard_coefficients z version l g.state i)) where
        pub append_no_hour : (y : Refusal) → x.answer ≡ Err y → Appends (refused (number_of y) (index_of y))
        unfolding Book.append_res
        append_no_hour y f =
            rw (tested, room, step_refused Retired z tested (given_of g).state version follows i (limits_part version l) (part_length version l) l (part_back version l heating cooling) x e y f g.count)

        module _ (d : Demand) (f : x.answer ≡ Ok d) where
          gives : hour_entry Retired z g.count (given_of g).state (hour_item version i l) ≡ ok (record { bytes = entry_of z version body d x.state; after = carried x.state version })
          gives = step_given Retired z tested (given_of g).state version follows i (limits_part version l) (part_length version l) l (part_back version l heating cooling) x e d f g.count

          pub append_size : length i ≡ conditions_length z.count
          append_size = step_size z Retired g.count (given_of g).state version i (limits_part version l) (part_length version l) _ gives

          module _ (m : ℕ) (m_is : m ≡ whole_length z version) where
            abbrev bytes : List ℕ
            bytes = entry_of z version body d x.state

            long : length bytes ≡ m
            long = step_length Retired z g.count (given_of g).state version body _ gives ∙ sym m_is

            pub append_short : leb (g.used + m) (length buf) ≡ false → Appends (refused buffer_short 0)
            unfolding Book.append_res
            append_short t = rw (tested, room, gives, long, t)

            -- j is the limits' part, as the code cuts it out
            pub append_good : leb (g.used + m) (length buf) ≡ true → (j : List ℕ) → j ≡ limits_part version l
                → (w : List ℕ) → w ≡ with_start (entry_of z version (i ++ j) d x.state) (part_from g.used buf)
                → Appends (ok (record { state = carried x.state version; count = g.count + 1; used = g.used + m }, with_part g.used buf w))
            unfolding Book.append_res with_start
            append_good t j j_is w o =
                let behind : drop (length bytes) (part_from g.used buf) ≡ drop (g.used + m) buf =
                (λ y. drop (long y) (part_is g.used buf y)) ∙ drop-drop m g.used buf in
                let whole : with_part g.used buf w ≡ take g.used buf ++ bytes ++ drop (g.used + m) buf =
                part_put g.used buf w
                ∙ ap (λ y. take g.used buf ++ y) (o ∙ ap (λ y. with_start (entry_of z version (i ++ y) d x.state) (part_from g.used buf)) j_is ∙ ap (λ y. bytes ++ y) behind)
                ∙ sym (append_assoc (take g.used buf) bytes (drop (g.used + m) buf)) in
                rw (tested, room, gives, long, t) (λ y. ok (record { state = carried x.state version; count = g.count + 1; used = g.used + m }, whole y))

-- the ways out of `appended`
pub ruleset append_cases = (zone_passed, append_no_zone, append_full, append_version, append_no_hour, append_size, append_short, append_room)
