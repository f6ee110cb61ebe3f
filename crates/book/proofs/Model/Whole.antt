-- Every call on what is seen of a well-formed plain book has the event that the plain book has for it, and leaves a well-formed one.
use Rattle.std.proofs.Common.{refl, subst, [], ◌∷◌}
use Rattle.book.specs.Model.Interface.{Interface}
use Rattle.book.proofs.Model.InterfaceLaws.{Laws}
use Rattle.book.specs.Model.Plain.{Plain, empty, book, snapshot}
use Rattle.book.proofs.Model.Formed.{PlainFormed}
use Rattle.book.specs.Model.Run.{Call, call_begin, call_append, call_take_up, call_cut, Calls, plain_make, plain_event, plain_after}
use Rattle.book.proofs.Model.Caller.{make}
use Rattle.book.specs.Model.Claims.{WellFormedAfter}
use Rattle.book.proofs.Model.Agreement.{begin_agrees, take_up_agrees}
use Rattle.book.proofs.Model.AppendCut.{Agrees, append_agrees, cut_agrees}

module _ (L : Interface) (W : Laws L) where
  pub agrees : (p : Plain L.Item) → PlainFormed L p → (c : Call L.State L.Item) → Agrees L W p c
  unfolding make plain_make plain_event snapshot
  agrees p pp (call_begin head g buf) = begin_agrees L W p pp g head buf
  agrees p pp (call_take_up g bytes) = take_up_agrees L W p pp g bytes
  agrees empty pp (call_append i spare) = (refl, pp)
  agrees (book head is) S (call_append i spare) = append_agrees L W head is S i spare
  agrees empty pp (call_cut at) = (refl, pp)
  agrees (book head is) S (call_cut at) = cut_agrees L W head is S at

  -- the plain book after a list of calls is well-formed
  pub after_formed : (p : Plain L.Item) → PlainFormed L p → (cs : Calls L) → PlainFormed L (plain_after L p cs)
  unfolding plain_after
  after_formed p pp [] = pp
  after_formed p pp (c ∷ cs) = after_formed (plain_make L p c).next (agrees p pp c).1 cs

  pub well_formed_after : WellFormedAfter L
  well_formed_after cs head is e = subst (PlainFormed L) e (after_formed empty tt cs)
