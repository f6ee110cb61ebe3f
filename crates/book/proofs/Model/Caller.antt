-- The calls that a caller may make, each with its event by the definitions that the contracts cite: `Made` as a function. No answer where there is none.
use Rattle.std.proofs.Common.{◌&&◌, cond, List, [], ◌∷◌, ◌++◌, ℕ, take, leb}
use mathlib.Core.Option.{none, some}
use Rattle.zone.specs.Promise.{Result, ok, refused}
use Rattle.zone.specs.Format.Head.{ReadHead}
use Rattle.book.specs.Model.Interface.{Interface}
use Rattle.book.specs.Model.Calls.{begin, append, take_up}
use Rattle.book.specs.Model.Plain.{Snapshot}
use Rattle.book.specs.Model.Run.{Call, call_begin, call_append, call_take_up, call_cut, Calls, Event}
use Rattle.book.specs.Model.Session.{HeldBook, after_begin, after_take_up, after_append}

module _ (L : Interface) where
  abbrev pub not_made_event : HeldBook L → Event L.State
  not_made_event h = record { answer = none; buffer = none; held = h }

  abbrev pub make_append : Snapshot L.State → L.Item → (spare : List ℕ) → Result (ReadHead L.Zone) → Event L.State
  make_append v i spare (ok h) = after_append L (append L h.zone v.values i (v.bytes ++ spare))
  make_append v i spare (refused c j) = not_made_event (some v)

  abbrev pub make_cut : Snapshot L.State → (at : ℕ) → Result (ReadHead L.Zone) → Event L.State
  make_cut v at (ok h) =
      cond
      (leb h.length at && leb at v.values.used)
      (after_take_up L (some v) (take at v.bytes) (take_up L v.values (take at v.bytes)))
      (not_made_event (some v))
  make_cut v at (refused c j) = not_made_event (some v)

  unfoldable pub make : HeldBook L → Call L.State L.Item → Event L.State
  make h (call_begin head g buf) = after_begin L h (begin L head g buf)
  make h (call_take_up g bytes) = after_take_up L h bytes (take_up L g bytes)
  make none (call_append i spare) = not_made_event none
  make (some v) (call_append i spare) = make_append v i spare (L.head_of v.bytes)
  make none (call_cut at) = not_made_event none
  make (some v) (call_cut at) = make_cut v at (L.head_of v.bytes)

  unfoldable pub run : HeldBook L → Calls L → List (Event L.State)
  run h [] = []
  run h (c ∷ cs) = make h c ∷ run (make h c).held cs
