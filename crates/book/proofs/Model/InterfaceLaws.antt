-- The laws that layers meet, from which everything claimed of books is proved. The year book's layers meet them: `year_laws`.
use Rattle.std.proofs.Common.{◌≡◌, List, ◌++◌, ℕ, ◌≤◌, ◌<◌, length, take}
use mathlib.Core.Option.{none, some}
use Rattle.zone.specs.Promise.{ok}
use Rattle.zone.specs.Format.Head.{ReadHead}
use Rattle.book.specs.Model.Interface.{Interface, Written}

pub record Laws (L : Interface) : Type 0 where
  -- a head lies within the bytes, and depends on its own bytes only
  pub head_within : (bs : List ℕ) (h : ReadHead L.Zone) → L.head_of bs ≡ ok h → h.length ≤ length bs
  pub head_own : (bs cs : List ℕ) (h : ReadHead L.Zone) → L.head_of bs ≡ ok h → L.head_of (take h.length bs ++ cs) ≡ ok h
  -- what a head and its start-up give passes `given_test`, and so does what the hour step makes of it
  pub start_tested : (bs : List ℕ) (h : ReadHead L.Zone) (s : L.State) → L.head_of bs ≡ ok h → L.start_up h.zone ≡ ok s
      → L.given_test h.zone s ≡ ok tt
  pub step_tested : (z : L.Zone) (k : ℕ) (s : L.State) (i : L.Item) (e : Written L.State) → L.given_test z s ≡ ok tt → L.step z k s i ≡ ok e
      → L.given_test z e.after ≡ ok tt
  -- an append accepts only what the hour step gives
  pub append_step_lem : (z : L.Zone) (k : ℕ) (s : L.State) (i : L.Item) (e : Written L.State) → L.append_step z k s i ≡ ok e → L.step z k s i ≡ ok e
  -- a whole entry has at least a byte and lies within the rest
  pub length_within : (z : L.Zone) (bs : List ℕ) (n : ℕ) → L.entry_length z bs ≡ some n → (0 < n) × (n ≤ length bs)
  -- an entry that the hour step gives is a whole entry, whatever follows it; less of it is none; and its item is read back from it
  pub length_whole : (z : L.Zone) (k : ℕ) (s : L.State) (i : L.Item) (e : Written L.State) → L.step z k s i ≡ ok e
      → (rest : List ℕ) → L.entry_length z (e.bytes ++ rest) ≡ some (length e.bytes)
  pub length_short : (z : L.Zone) (k : ℕ) (s : L.State) (i : L.Item) (e : Written L.State) → L.step z k s i ≡ ok e
      → (m : ℕ) → m < length e.bytes → L.entry_length z (take m e.bytes) ≡ none
  pub item_back : (z : L.Zone) (k : ℕ) (s : L.State) (i : L.Item) (e : Written L.State) → L.step z k s i ≡ ok e → L.item_of z e.bytes ≡ i
