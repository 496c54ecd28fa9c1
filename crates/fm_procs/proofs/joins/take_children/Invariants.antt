use Rattle.std.proofs.Common.{◌≡◌, ℕ, List, [], map}
use Rattle.std.specs.Prelude.{Some}
use Rattle.fm_finmap.specs.Changes.{alters}
use Rattle.fm_net.specs.Machine.{Place, child_changes, gathered}
use Rattle.fm_proc_language.specs.Processes.{CodeProc, emptied, has_ended}
use Rattle.fm_procs.specs.Joinings.{HasJoined}
use Rattle.fm_procs.specs.Lefts.{left_by}
use Rattle.fm_procs.specs.Blocks.{HasRoomFrom}
use Rattle.fm_procs.specs.Kept.{AreChildren, AreFamilies, AreToldBut}
use Rattle.fm_procs.specs.Readings.{order_of, procs_of}
use Rattle.fm_procs.proofs.joins.take_children.Given as goal

abbrev pub invariant-children : goal.invariant-children
invariant-children l = record {
  order : order_of l.entries ≡ order_of l.initial.entries;
  processes : (q : Place) (b : ℕ) → AreChildren (order_of l.initial.entries) l.family.first q b l.family.count → procs_of l.entries ≡ alters (child_changes emptied q b 1 l.place) (procs_of l.initial.entries);
  joined : (q : Place) (b : ℕ) (children : List CodeProc) (y z : CodeProc) → AreChildren (order_of l.initial.entries) l.family.first q b l.family.count → gathered has_ended (procs_of l.initial.entries) q b 1 l.place ≡ Some children
      → HasJoined y [] z l.initial.join → HasJoined y (map left_by children) z l.join;
  told : (own q : Place) (b : ℕ) (children : List CodeProc) → AreChildren (order_of l.initial.entries) l.family.first q b l.family.count → gathered has_ended (procs_of l.initial.entries) q b 1 l.place ≡ Some children
      → AreToldBut own l.initial.entries → AreToldBut own l.entries;
  families : AreFamilies l.initial.entries → AreFamilies l.entries;
  room : HasRoomFrom l.initial.entries l.family l.place l.join;
}
