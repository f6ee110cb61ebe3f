-- Small layers that meet the laws, and a list of calls of each kind, computed by both runs: the claims speak of something.
-- Head: version byte 1 and n, not 0. Hour: one byte, at most 200. Entry: version byte 1, the hour, the state after it. At most 2 entries.
-- An append refuses the hour 0, which a take-up accepts.
use Rattle.std.proofs.Common.{◌≡◌, refl, sym, ap, ◌∙◌, subst, Bool, true, false, not, cond, List, [], ◌∷◌, ◌++◌, ℕ, suc, ◌+◌, ◌*◌, ◌≤◌, ◌<◌, arith, length, take, drop, get_or, length-append, length-take, take_at, leb, ltb, eqb, leb-true, eqb-true, le-leb}
use mathlib.Core.Option.{Option, none, some}
use borrow.Author.Tests.{lt-leb}
use Rattle.zone.specs.Promise.{Result, ok, refused, bind, require}
use Rattle.zone.proofs.Promise.{bind_ok, require_ok, ok_inj, ok_not_refused}
use Rattle.zone.specs.Format.Head.{ReadHead}
use Rattle.book.specs.Model.Bytes.{first_from}
use Rattle.book.specs.Model.Interface.{Interface, Written}
use Rattle.book.proofs.Model.InterfaceLaws.{Laws}
use Rattle.book.specs.Model.Calls.{BookState, Answer, accepted, refused_with, begin_res, begin, append_res, append, whole_entries_up_to, whole_entries, check_entries, take_up_res, take_up}
use Rattle.book.specs.Model.Plain.{empty, entries_of, contents_of, snapshot, begin_plain, append_plain, items_ending_by, cut_plain}
use Rattle.book.specs.Model.PlainTakeUp.{rest_at, entry_at, number_of_entries, items_before, step_at, false_at, first_invalid, test_entries, take_up_plain}
use Rattle.book.specs.Model.Run.{call_begin, call_append, call_take_up, call_cut, Calls, Event, plain_make, plain_event, plain_run}
use Rattle.book.proofs.Model.Caller.{make, run}

unfoldable head_of : List ℕ → Result (ReadHead ℕ)
head_of [] = refused 1 0
head_of (v ∷ []) = refused 1 0
head_of (v ∷ (n ∷ bs)) =
    bind (require (eqb v 1) 3) λ _.
    bind (require (ltb 0 n) 5) λ _.
    ok (record { zone = n; length = 2 })

unfoldable step : ℕ → ℕ → ℕ → List ℕ → Result (Written ℕ)
step z k s i =
    bind (require (eqb (length i) 1) 7) λ _.
    bind (require (leb (get_or i 0 0) 200) 9) λ _.
    ok (record { bytes = 1 ∷ (i ++ ((s + z + get_or i 0 0) ∷ [])); after = s + z + get_or i 0 0 })

unfoldable append_step : ℕ → ℕ → ℕ → List ℕ → Result (Written ℕ)
append_step z k s i =
    bind (require (not (eqb (get_or i 0 0) 0)) 8) λ _.
    step z k s i

abbrev example : Interface
example =
    record {
      Zone = ℕ;
      State = ℕ;
      Item = List ℕ;
      limit = 2;
      head_of = head_of;
      given_test = λ z s. ok tt;
      start_up = λ z. cond (eqb z 7) (refused 15 0) (ok (z * 10));
      step = step;
      append_step = append_step;
      entry_length = λ z bs. cond (leb 3 (length bs)) (some 3) none;
      item_of = λ z c. take 1 (drop 1 c);
    }

-- ---- the laws

head_two : (bs cs : List ℕ) (z n : ℕ) → head_of bs ≡ ok (record { zone = z; length = n }) → (n ≤ length bs) × (head_of (take n bs ++ cs) ≡ ok (record { zone = z; length = n }))
unfolding head_of
head_two [] cs z n e = ok_not_refused (record { zone = z; length = n }) 1 0 (sym e)
head_two (v ∷ []) cs z n e = ok_not_refused (record { zone = z; length = n }) 1 0 (sym e)
head_two (v ∷ (m ∷ bs)) cs z n e =
    let a = bind_ok (require (eqb v 1) 3) _ _ e in
    let b = bind_ok (require (ltb 0 m) 5) _ _ a.2 in
    let q : 2 ≡ n = ap (λ x. x.length) (ok_inj b.2) in
    (omega arith, subst (λ x. head_of (take x (v ∷ (m ∷ bs)) ++ cs) ≡ ok (record { zone = z; length = n })) q e)

one_byte : (i : List ℕ) (t : ℕ) → length i ≡ 1 → (length (i ++ (t ∷ [])) ≡ 2) × (take 1 (i ++ (t ∷ [])) ≡ i)
one_byte i t e = (length-append i (t ∷ []) ∙ ap (λ x. x + 1) e, take_at i (t ∷ []) 1 e)

module _ (z k s : ℕ) (i : List ℕ) (e : Written ℕ) (h : step z k s i ≡ ok e) where
  entry_is : (length e.bytes ≡ 3) × (take 1 (drop 1 e.bytes) ≡ i)
  unfolding step
  entry_is =
      let a = bind_ok (require (eqb (length i) 1) 7) _ e h in
      let b = bind_ok (require (leb (get_or i 0 0) 200) 9) _ e a.2 in
      let o = one_byte i (s + z + get_or i 0 0) (eqb-true (length i) 1 (require_ok _ _ _ _ a.1)) in
      subst (λ x. (length x.bytes ≡ 3) × (take 1 (drop 1 x.bytes) ≡ i)) (ok_inj b.2) (ap suc o.0, o.1)

length_in : (bs : List ℕ) (n : ℕ) → cond (leb 3 (length bs)) (some 3) none ≡ some n → (0 < n) × (n ≤ length bs)
length_in bs n e = go (leb 3 (length bs)) refl e
  where
    go : (b : Bool) → leb 3 (length bs) ≡ b → cond b (some 3) none ≡ some n → (0 < n) × (n ≤ length bs)
    go true t q = let m : 3 ≡ n = cc in (omega arith, omega (arith, leb-true 3 (length bs) t))
    go false t q = let m : ◌≡◌ {A = ℕ} 0 1 = cc in absurd (omega arith)

step_of_append : (z k s : ℕ) (i : List ℕ) (e : Written ℕ) → append_step z k s i ≡ ok e → step z k s i ≡ ok e
unfolding append_step
step_of_append z k s i e h = (bind_ok (require (not (eqb (get_or i 0 0) 0)) 8) _ e h).2

example_laws : Laws example
example_laws =
    record {
      head_within = λ bs h e. (head_two bs [] h.zone h.length e).0;
      head_own = λ bs cs h e. (head_two bs cs h.zone h.length e).1;
      start_tested = λ bs h s e f. refl;
      step_tested = λ z k s i e t h. refl;
      append_step_lem = step_of_append;
      length_within = λ z bs n e. length_in bs n e;
      length_whole = λ z k s i e h rest.
          let l = (entry_is z k s i e h).0 in
          rw (le-leb 3 (length (e.bytes ++ rest)) (omega (arith, l, length-append e.bytes rest))) (ap some (sym l));
      length_short = λ z k s i e h m lt.
          let l = (entry_is z k s i e h).0 in
          rw (lt-leb 3 (length (take m e.bytes)) (omega (arith, l, length-take m e.bytes)));
      item_back = λ z k s i e h. (entry_is z k s i e h).1;
    }

-- ---- a list of calls

abbrev values : ℕ → ℕ → ℕ → BookState ℕ
values s k u = record { state = s; count = k; used = u }

abbrev given : BookState ℕ
given = values 77 5 9

calls : Calls example
calls =
    call_append (1 ∷ []) []
    ∷ call_cut 2
    ∷ call_begin (1 ∷ 7 ∷ []) given (9 ∷ 9 ∷ 9 ∷ [])
    ∷ call_begin (1 ∷ 3 ∷ []) given (9 ∷ [])
    ∷ call_begin (1 ∷ 3 ∷ 99 ∷ []) given (9 ∷ 8 ∷ 7 ∷ 6 ∷ [])
    ∷ call_append (10 ∷ []) (5 ∷ 5 ∷ 5 ∷ 5 ∷ [])
    ∷ call_append (201 ∷ []) (5 ∷ 5 ∷ 5 ∷ 5 ∷ [])
    ∷ call_append (20 ∷ []) (5 ∷ 5 ∷ 5 ∷ [])
    ∷ call_append (5 ∷ []) (5 ∷ 5 ∷ 5 ∷ [])
    ∷ call_cut 7
    ∷ call_append (20 ∷ []) (4 ∷ 4 ∷ [])
    ∷ call_append (0 ∷ []) (4 ∷ 4 ∷ 4 ∷ [])
    ∷ call_append (20 ∷ []) (4 ∷ 4 ∷ 4 ∷ [])
    ∷ call_cut 5
    ∷ call_cut 1
    ∷ call_take_up given (1 ∷ 3 ∷ 1 ∷ 10 ∷ 43 ∷ 1 ∷ 20 ∷ 67 ∷ [])
    ∷ call_take_up given (1 ∷ 3 ∷ 1 ∷ 10 ∷ 43 ∷ 1 ∷ 20 ∷ 66 ∷ 1 ∷ 1 ∷ 70 ∷ [])
    ∷ call_take_up given (1 ∷ 3 ∷ 2 ∷ 10 ∷ 43 ∷ 1 ∷ 20 ∷ 66 ∷ 1 ∷ 1 ∷ 70 ∷ [])
    ∷ call_take_up given (2 ∷ 3 ∷ [])
    ∷ call_take_up given (1 ∷ 3 ∷ 1 ∷ 0 ∷ 33 ∷ 1 ∷ 20 ∷ [])
    ∷ call_take_up given (1 ∷ 3 ∷ 1 ∷ 201 ∷ 234 ∷ [])
    ∷ call_take_up given (1 ∷ 7 ∷ [])
    ∷ call_begin (1 ∷ 0 ∷ []) given (9 ∷ 9 ∷ 9 ∷ [])
    ∷ call_cut 5
    ∷ call_cut 6
    ∷ call_cut 2
    ∷ call_append (10 ∷ []) (5 ∷ 5 ∷ 5 ∷ [])
    ∷ call_append (20 ∷ []) (5 ∷ 5 ∷ 5 ∷ [])
    ∷ call_append (201 ∷ []) (5 ∷ 5 ∷ 5 ∷ [])
    ∷ call_begin (1 ∷ 4 ∷ []) given (9 ∷ 9 ∷ [])
    ∷ []

abbrev not_made : Option (List ℕ × BookState ℕ) → Event ℕ
not_made none = record { answer = none; buffer = none; held = none }
not_made (some h) = record { answer = none; buffer = none; held = some (record { bytes = h.0; values = h.1 }) }

-- answer, buffer, used bytes and values held
abbrev event : Answer ℕ → Option (List ℕ) → List ℕ → BookState ℕ → Event ℕ
event a buf bs v = record { answer = some a; buffer = buf; held = some (record { bytes = bs; values = v }) }

abbrev one : List ℕ
one = 1 ∷ 3 ∷ 1 ∷ 10 ∷ 43 ∷ []

abbrev two : List ℕ
two = 1 ∷ 3 ∷ 1 ∷ 10 ∷ 43 ∷ 1 ∷ 20 ∷ 66 ∷ []

-- the hour 0 alone
abbrev zero : List ℕ
zero = 1 ∷ 3 ∷ 1 ∷ 0 ∷ 33 ∷ []

events : List (Event ℕ)
events =
    not_made none
    ∷ not_made none
    -- start-up's 15; then 16
    ∷ record { answer = some (refused_with 15 0 given); buffer = some (9 ∷ 9 ∷ 9 ∷ []); held = none }
    ∷ record { answer = some (refused_with 16 0 given); buffer = some (9 ∷ []); held = none }
    -- a begin, its head alone written
    ∷ event (accepted (values 30 0 2)) (some (1 ∷ 3 ∷ 7 ∷ 6 ∷ [])) (1 ∷ 3 ∷ []) (values 30 0 2)
    -- an hour; one that is refused; a second; and a third, 17
    ∷ event (accepted (values 43 1 5)) (some (one ++ (5 ∷ []))) one (values 43 1 5)
    ∷ event (refused_with 9 0 (values 43 1 5)) (some (one ++ (5 ∷ 5 ∷ 5 ∷ 5 ∷ []))) one (values 43 1 5)
    ∷ event (accepted (values 66 2 8)) (some two) two (values 66 2 8)
    ∷ event (refused_with 17 0 (values 66 2 8)) (some (two ++ (5 ∷ 5 ∷ 5 ∷ []))) two (values 66 2 8)
    -- a cut inside the second entry; the hour anew with too little room, an hour that an append no longer accepts, and the hour with room
    ∷ event (accepted (values 43 1 5)) none one (values 43 1 5)
    ∷ event (refused_with 16 0 (values 43 1 5)) (some (one ++ (4 ∷ 4 ∷ []))) one (values 43 1 5)
    ∷ event (refused_with 8 0 (values 43 1 5)) (some (one ++ (4 ∷ 4 ∷ 4 ∷ []))) one (values 43 1 5)
    ∷ event (accepted (values 66 2 8)) (some two) two (values 66 2 8)
    -- a cut at the first entry's end; a cut in the head
    ∷ event (accepted (values 43 1 5)) none one (values 43 1 5)
    ∷ not_made (some (one, values 43 1 5))
    -- take-ups: the second entry false; one entry too many; the same with a false first one; a bad head; an hour 0 and a rest that is dropped
    ∷ event (refused_with 18 1 given) none one (values 43 1 5)
    ∷ event (refused_with 17 0 given) none one (values 43 1 5)
    ∷ event (refused_with 18 0 given) none one (values 43 1 5)
    ∷ event (refused_with 3 0 given) none one (values 43 1 5)
    ∷ event (accepted (values 33 1 5)) none zero (values 33 1 5)
    -- take-ups: an entry whose hour is refused; a head whose start-up is; a begin with a bad head
    ∷ event (refused_with 18 0 given) none zero (values 33 1 5)
    ∷ event (refused_with 15 0 given) none zero (values 33 1 5)
    ∷ event (refused_with 5 0 given) (some (9 ∷ 9 ∷ 9 ∷ [])) zero (values 33 1 5)
    -- cuts at the used length, behind it and at the head's end
    ∷ event (accepted (values 33 1 5)) none zero (values 33 1 5)
    ∷ not_made (some (zero, values 33 1 5))
    ∷ event (accepted (values 30 0 2)) none (1 ∷ 3 ∷ []) (values 30 0 2)
    -- two hours; a bad third, 17; and a begin that replaces the book
    ∷ event (accepted (values 43 1 5)) (some one) one (values 43 1 5)
    ∷ event (accepted (values 66 2 8)) (some two) two (values 66 2 8)
    ∷ event (refused_with 17 0 (values 66 2 8)) (some (two ++ (5 ∷ 5 ∷ 5 ∷ []))) two (values 66 2 8)
    ∷ event (accepted (values 40 0 2)) (some (1 ∷ 4 ∷ [])) (1 ∷ 4 ∷ []) (values 40 0 2)
    ∷ []

calls_run : run example none calls ≡ events
unfolding run make begin begin_res append append_res take_up take_up_res check_entries whole_entries whole_entries_up_to head_of step append_step calls events
calls_run = refl

calls_plain : plain_run example empty calls ≡ events
unfolding plain_run plain_make plain_event snapshot contents_of entries_of begin_plain append_plain items_ending_by cut_plain take_up_plain test_entries first_invalid false_at step_at items_before number_of_entries entry_at rest_at first_from head_of step append_step calls events
calls_plain = refl
