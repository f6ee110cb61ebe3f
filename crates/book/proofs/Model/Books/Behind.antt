-- The bytes behind the used ones stay as they were, whatever a begin or an append answers.
use Rattle.std.proofs.Common.{◌≡◌, refl, ap, ◌∙◌, subst, List, ◌++◌, ℕ, ◌+◌, ◌≤◌, arith, length, take, drop, length-append, drop_at, length-take-le, leb, ltb, leb-true}
use Rattle.zone.specs.Promise.{Result, ok, refused, require}
use Rattle.zone.proofs.Promise.{bind_ok, require_ok, ok_inj}
use Rattle.book.specs.Numbers.{buffer_short, book_full}
use Rattle.book.specs.Model.Interface.{Interface}
use Rattle.book.proofs.Model.InterfaceLaws.{Laws}
use Rattle.book.specs.Model.Calls.{BookState, handed_back, outcome_of, begin_res, begin, append_res, append}
use Rattle.book.specs.Model.Claims.{BeginLeavesBehind, AppendLeavesBehind}

module _ (L : Interface) (W : Laws L) where
  -- an outcome leaves them if an accepted one does
  outcome_behind : (g : BookState L.State) (buf : List ℕ) (x : Result (BookState L.State × List ℕ))
      → ((r : BookState L.State × List ℕ) → x ≡ ok r → drop r.0.used r.1 ≡ drop r.0.used buf)
      → drop (handed_back (outcome_of g buf x).answer).used (outcome_of g buf x).buffer ≡ drop (handed_back (outcome_of g buf x).answer).used buf
  outcome_behind g buf (ok r) h = h r refl
  outcome_behind g buf (refused c j) h = refl

  pub begin_leaves_behind : BeginLeavesBehind L
  unfolding begin begin_res
  begin_leaves_behind head g buf = outcome_behind g buf (begin_res L head buf) accepted
    where
      accepted : (r : BookState L.State × List ℕ) → begin_res L head buf ≡ ok r → drop r.0.used r.1 ≡ drop r.0.used buf
      accepted r e =
          let a = bind_ok (L.head_of head) _ r e in
          let b = bind_ok (L.start_up a.0.zone) _ r a.2 in
          let c = bind_ok (require (leb a.0.length (length buf)) buffer_short) _ r b.2 in
          subst (λ x. drop x.0.used x.1 ≡ drop x.0.used buf) (ok_inj c.2)
          (drop_at (take a.0.length head) _ a.0.length (length-take-le a.0.length head (W.head_within head a.0 a.1)))

  pub append_leaves_behind : AppendLeavesBehind L
  unfolding append append_res
  append_leaves_behind z g i buf = outcome_behind g buf (append_res L z g i buf) accepted
    where
      accepted : (r : BookState L.State × List ℕ) → append_res L z g i buf ≡ ok r → drop r.0.used r.1 ≡ drop r.0.used buf
      accepted r e =
          let a = bind_ok (L.given_test z g.state) _ r e in
          let b = bind_ok (require (ltb g.count L.limit) book_full) _ r a.2 in
          let c = bind_ok (L.append_step z g.count g.state i) _ r b.2 in
          let d = bind_ok (require (leb (g.used + length c.0.bytes) (length buf)) buffer_short) _ r c.2 in
          let room = leb-true (g.used + length c.0.bytes) (length buf) (require_ok _ buffer_short 0 d.0 d.1) in
          let fits : g.used ≤ length buf = omega (arith, room) in
          subst (λ x. drop x.0.used x.1 ≡ drop x.0.used buf) (ok_inj d.2)
          (drop_at (take g.used buf ++ c.0.bytes) _ (g.used + length c.0.bytes)
          (length-append (take g.used buf) c.0.bytes ∙ ap (λ x. x + length c.0.bytes) (length-take-le g.used buf fits)))
