-- Blocks whose processes have ended, and are joined one after the other.
-- Source: the Fortran M report (process blocks), with this profile's order of copying back.
use Rattle.std.specs.Prelude.{◌≡◌, ℕ, ◌+◌, Some, List, [], map}
use Rattle.std.specs.FinMap.{get, insert}
use Rattle.fm_net.specs.Machine.{Place, Procs, gathered}
use Rattle.fm_proc_language.specs.Processes.{CodeProc, has_ended}
use Rattle.fm_procs.specs.declared.opening.OpenJoin.{OpenJoin}
use Rattle.fm_procs.specs.Joinings.{HasJoined, HasRoomToJoin}
use Rattle.fm_procs.specs.Lefts.{left_by}
use Rattle.fm_procs.specs.Rooms.{lefts_room}
use Rattle.fm_net.specs.declared.kids.Family.{Family}
use Rattle.fm_procs.specs.Kept.{AreChildren}
use Rattle.fm_procs.specs.Readings.{Entries, order_of, procs_of}

-- these are the children of a block of the process that stands at a place, and all have ended
pub record HaveEnded (x : Entries) (p : Place) (f : Family) : Type 0 where
  pub parent : CodeProc
  pub is : get (procs_of x) p ≡ Some parent
  pub block : ℕ
  pub children : List CodeProc
  pub stand : AreChildren (order_of x) f.first p block f.count
  pub ended : gathered has_ended (procs_of x) p block 1 f.count ≡ Some children

-- a join has room for the children of a block that stand behind so many, which have all ended
pub record HasRoomFrom (x : Entries) (f : Family) (n : ℕ) (j : OpenJoin) : Type 0 where
  pub place : Place
  pub block : ℕ
  pub others : ℕ
  pub children : List CodeProc
  pub all : n + others ≡ f.count
  pub stand : AreChildren (order_of x) f.first place block f.count
  pub ended : gathered has_ended (procs_of x) place block (n + 1) others ≡ Some children
  pub room : HasRoomToJoin j (lefts_room (map left_by children))

-- the process at a place began its join, and it alone changed
pub record OpensAt (place : Place) (y : CodeProc) (j : OpenJoin) (old new : Procs CodeProc) : Type 0 where
  pub after : CodeProc
  pub joined : HasJoined y [] after j
  pub procs_are : new ≡ insert old place after
