-- What the book needs of the layers below it: the head's reader, start-up, the hour step and the bytes of an entry.
-- `Item` is what a book holds in order: an hour, as its version and the bytes of its conditions and limits. `State` is what is carried from entry to
-- entry and handed back: the node temperatures and the last version. Nothing of specs/Model depends on what zones, states and items are.
-- Specification, Plain book; Where an entry ends; Head; A zone as a record; Fixed rate.
use Rattle.std.specs.Prelude.{List, ℕ}
use Rattle.std.proofs.Math.Option.{Option}
use Rattle.zone.specs.Promise.{Result}
use Rattle.zone.specs.Format.Head.{ReadHead}

-- an entry that the hour step gives: its bytes, and the state after it
pub record Written (State : Type 0) : Type 0 where
  pub bytes : List ℕ
  pub after : State

pub record Interface : Type 1 where
  pub Zone : Type 0
  pub State : Type 0
  pub Item : Type 0
  -- the most entries that a book holds: 8,784
  pub limit : ℕ
  -- the zone of the head with which bytes begin, and the head's length. Bytes after the length are not the head's.
  pub head_of : List ℕ → Result (ReadHead Zone)
  -- the first test of an append: of the zone, as of its head; it may look at what is carried too, and that of the year book does not
  pub given_test : Zone → State → Result (Unit {0})
  pub start_up : Zone → Result State
  -- the hour step: the entry (its bytes) that an item has behind `count` others and from the state before it, and the state after it
  pub step : Zone → (count : ℕ) → State → Item → Result (Written State)
  -- the hour step as an append asks it: the same, or a refusal. It is apart from `step` because an append may refuse an item that a take-up still
  -- accepts: an entry written earlier stays true, though no such item may be added any more. Where there are no such items the two are equal.
  pub append_step : Zone → (count : ℕ) → State → Item → Result (Written State)
  -- the length of the whole entry with which a rest of the book begins (all of the rest, where its version byte is no version); none where the rest is too
  -- short to begin with one
  pub entry_length : Zone → (rest : List ℕ) → Option ℕ
  -- the item (an hour's version, conditions and limits) that a whole entry holds, be the entry true or false
  pub item_of : Zone → (entry : List ℕ) → Item
