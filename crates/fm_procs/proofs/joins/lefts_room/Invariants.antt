use Rattle.std.proofs.Common.{◌≡◌, ℕ, List, map}
use Rattle.std.specs.Prelude.{Some}
use Rattle.fm_net.specs.Machine.{Place, gathered}
use Rattle.fm_proc_language.specs.Processes.{CodeProc, has_ended}
use Rattle.fm_procs.specs.Lefts.{left_by}
use Rattle.fm_procs.specs.Rooms.{lefts_room}
use Rattle.fm_procs.specs.Kept.{AreChildren}
use Rattle.fm_procs.specs.Readings.{order_of, procs_of}
use Rattle.fm_procs.proofs.joins.lefts_room.Given as goal

abbrev pub invariant-children : goal.invariant-children
invariant-children l = (q : Place) (b : ℕ) (children : List CodeProc) → AreChildren (order_of l.entries) l.family.first q b l.family.count → gathered has_ended (procs_of l.entries) q b 1 l.place ≡ Some children
    → l.room ≡ lefts_room (map left_by children)
