-- What begin, append and take-up answer, and what they leave in the lent buffer: the definitions that the functions' contracts cite.
-- Specification, Values of a book; Begin; Append; Take-up; What a refusal is.
use Rattle.std.specs.Prelude.{cond, List, [], ◌∷◌, ◌++◌, ℕ, zero, suc, ◌+◌, length, take, drop, leb, ltb}
use Rattle.zone.specs.Promise.{Result, ok, refused, bind, require}
use Rattle.book.specs.Numbers.{buffer_short, book_full, false_entry}
use Rattle.book.specs.Model.Bytes.{from_option, equal_bytes}
use Rattle.book.specs.Model.Interface.{Interface, Written}

-- what a call is given and hands back: the temperatures, count and used length, and the version of the last entry, which `State` has with the temperatures
pub record BookState (State : Type 0) : Type 0 where
  pub state : State
  pub count : ℕ
  pub used : ℕ

-- Answers are acceptance, or number and index, with the values handed back.
pub data Answer (State : Type 0) : Type 0 where
  accepted : BookState State → Answer State
  refused_with : (number index : ℕ) → BookState State → Answer State

abbrev pub handed_back : {State : Type 0} → Answer State → BookState State
handed_back (accepted v) = v
handed_back (refused_with c j v) = v

-- an answer, and the whole lent buffer after the call
pub record Outcome (State : Type 0) : Type 0 where
  pub answer : Answer State
  pub buffer : List ℕ

module _ {State : Type 0} where
  -- a refusal gives its number and an index, and hands back unchanged the values that it was given
  abbrev pub answer_from : (given : BookState State) → Result (BookState State) → Answer State
  answer_from g (ok v) = accepted v
  answer_from g (refused c j) = refused_with c j g

  -- a refusal changes no byte of the buffer either
  abbrev pub outcome_of : (given : BookState State) → (buf : List ℕ) → Result (BookState State × List ℕ) → Outcome State
  outcome_of g buf (ok r) = record { answer = accepted r.0; buffer = r.1 }
  outcome_of g buf (refused c j) = record { answer = refused_with c j g; buffer = buf }

module _ (L : Interface) where
  -- Begin: the head's refusals, start-up's, then 16, the buffer too short.
  unfoldable pub begin_res : (head buf : List ℕ) → Result (BookState L.State × List ℕ)
  begin_res head buf =
      bind (L.head_of head) λ h.
      bind (L.start_up h.zone) λ s.
      bind (require (leb h.length (length buf)) buffer_short) λ _.
      ok (record { state = s; count = 0; used = h.length }, take h.length head ++ drop h.length buf)

  unfoldable pub begin : (head : List ℕ) → (given : BookState L.State) → (buf : List ℕ) → Outcome L.State
  begin head g buf = outcome_of g buf (begin_res head buf)

  -- Append: the zone's refusals; 17, a count of 8,784 or more; 18 of the version, then the hour step's; 16, the buffer too short.
  unfoldable pub append_res : L.Zone → (given : BookState L.State) → L.Item → (buf : List ℕ) → Result (BookState L.State × List ℕ)
  append_res z g i buf =
      bind (L.given_test z g.state) λ _.
      bind (require (ltb g.count L.limit) book_full) λ _.
      bind (L.append_step z g.count g.state i) λ e.
      bind (require (leb (g.used + length e.bytes) (length buf)) buffer_short) λ _.
      ok (
        record { state = e.after; count = g.count + 1; used = g.used + length e.bytes },
        take g.used buf ++ e.bytes ++ drop (g.used + length e.bytes) buf,
      )

  unfoldable pub append : L.Zone → (given : BookState L.State) → L.Item → (buf : List ℕ) → Outcome L.State
  append z g i buf = outcome_of g buf (append_res z g i buf)

  -- the whole entries with which bytes begin, one behind the other, at most so many
  unfoldable pub whole_entries_up_to : L.Zone → (most : ℕ) → List ℕ → List (List ℕ)
  whole_entries_up_to z zero bs = []
  whole_entries_up_to z (suc most) bs = from_option [] (λ n. take n bs ∷ whole_entries_up_to z most (drop n bs)) (L.entry_length z bs)

  -- all of them: each has at least a byte. What is behind the last is dropped.
  unfoldable pub whole_entries : L.Zone → List ℕ → List (List ℕ)
  whole_entries z bs = whole_entries_up_to z (length bs) bs

  -- the whole entry c with index k against what the hour step gives for its item: the state after it, or 18
  abbrev pub check_entry : (k : ℕ) → (c : List ℕ) → Result (Written L.State) → Result L.State
  check_entry k c (ok e) = cond (equal_bytes e.bytes c) (ok e.after) (refused false_entry k)
  check_entry k c (refused n j) = refused false_entry k

  -- entry by entry 17 for the 8,785th, else 18 for a false one: from index k, state s and used length u on
  unfoldable pub check_entries : L.Zone → (k : ℕ) → L.State → (u : ℕ) → List (List ℕ) → Result (BookState L.State)
  check_entries z k s u [] = ok (record { state = s; count = k; used = u })
  check_entries z k s u (c ∷ cs) =
      bind (require (ltb k L.limit) book_full) λ _.
      bind (check_entry k c (L.step z k s (L.item_of z c))) λ t.
      check_entries z (k + 1) t (u + length c) cs

  -- take up: head; start-up; then entry by entry
  unfoldable pub take_up_res : List ℕ → Result (BookState L.State)
  take_up_res bytes =
      bind (L.head_of bytes) λ h.
      bind (L.start_up h.zone) λ s.
      check_entries h.zone 0 s h.length (whole_entries h.zone (drop h.length bytes))

  -- take-up borrows its bytes as `&[u8]`: it can change none
  unfoldable pub take_up : (given : BookState L.State) → (bytes : List ℕ) → Answer L.State
  take_up g bytes = answer_from g (take_up_res bytes)
