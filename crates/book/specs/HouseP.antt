-- House P's book: a head of 180 bytes and an entry of 216; cut at 395 it has no entry, at 396 one.
-- Specification, House P; Fixed rate.
use Rattle.std.specs.Prelude.{◌≡◌, List, ◌++◌, ℕ, ◌+◌, ◌≤◌, length, take, drop}
use Rattle.zone.specs.Promise.{ok, zero64}
use Rattle.zone.specs.Format.Limits.{limits_bytes}
use Rattle.zone.specs.declared.format.limits.Limits.{Limits}
use Rattle.zone.specs.Claims.HouseP.{house_p, head_of_p, hour_of_p, old_hour_of_p, twenty}
use Rattle.book.specs.Model.Interface.{Written}
use Rattle.book.specs.Model.Calls.{BookState, accepted, begin_res, take_up}
use Rattle.book.specs.Year.{hour, Carried, carried, no_entry_version, year_interface}

-- a begin: the head's 180 bytes stand in front of the buffer; temperatures 20, 20, 20
abbrev pub begun : BookState Carried
begun = record { state = carried twenty no_entry_version; count = 0; used = 180 }

abbrev pub BeginOfP : Type 0
BeginOfP = (buf : List ℕ) → 180 ≤ length buf → begin_res year_interface head_of_p buf ≡ ok (begun, head_of_p ++ drop 180 buf)

-- its hour with setpoints 20 and 24, by a version: an entry of so many bytes, temperatures as before it; and the cuts, a byte before its end and at it
pub record BookOfP (version : ℕ) (body : List ℕ) (size : ℕ) : Type 0 where
  pub entry : Written Carried
  pub gives : year_interface.step house_p 0 (carried twenty no_entry_version) (hour version body) ≡ ok entry
  pub long : length entry.bytes ≡ size
  pub kept : entry.after ≡ carried twenty version
  pub cut_before : (g : BookState Carried) → take_up year_interface g (take (179 + size) (head_of_p ++ entry.bytes)) ≡ accepted begun
  pub cut_at_end : (g : BookState Carried) → take_up year_interface g (take (180 + size) (head_of_p ++ entry.bytes)) ≡ accepted (record { state = carried twenty version; count = 1; used = 180 + size })

-- limits of 0: an hour that wants nothing is beyond neither
abbrev pub no_power : Limits
no_power = record { heating = zero64; cooling = zero64 }

-- of versions 1 and 2 216 bytes, cut at 395 and at 396; of version 3 16 more, cut at 411 and at 412. An entry of the same hour with the fixed rate 0, which an
-- append would refuse, is still taken up.
pub record BooksOfP : Type 0 where
  pub version_1 : BookOfP 1 hour_of_p 216
  pub old_hour : BookOfP 1 old_hour_of_p 216
  pub version_2 : BookOfP 2 hour_of_p 216
  pub version_3 : BookOfP 3 (hour_of_p ++ limits_bytes no_power) 232
