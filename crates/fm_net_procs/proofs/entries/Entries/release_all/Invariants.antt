use Rattle.std.proofs.Common.{◌≡◌, ℕ, List, map}
use Rattle.std.specs.Prelude.{Some}
use Rattle.fm_finmap.specs.Changes.{alters}
use Rattle.fm_net.specs.Machine.{Place, child_changes, gathered}
use Rattle.fm_net_procs.specs.Kept.{AreChildren, AreFamilies, AreToldBut}
use Rattle.fm_net_procs.specs.Readings.{order_of, procs_of}
use Rattle.fm_net_procs.proofs.entries.Entries.release_all.Given as goal

abbrev pub invariant-children : goal.invariant-children
invariant-children g l = record {
  order : order_of l.self ≡ order_of l.initial.self;
  processes : (p : g.row.P-Program.Denot) (q : Place) (b : ℕ) → AreChildren (order_of l.initial.self) l.family.first q b l.family.count → procs_of (g.P.Proc.seen p) l.self ≡ alters (child_changes (g.P.Proc.language p).emptied q b 1 l.place) (procs_of (g.P.Proc.seen p) l.initial.self);
  left : (p : g.row.P-Program.Denot) (q : Place) (b : ℕ) (kids : List g.P.Proc.Seen) → AreChildren (order_of l.initial.self) l.family.first q b l.family.count → gathered (g.P.Proc.language p).has_ended (procs_of (g.P.Proc.seen p) l.initial.self) q b 1 l.place ≡ Some kids → map g.P.Proc.left_by kids ≡ map (g.P.Proc.left_of p) l.all.items;
  told : (p : g.row.P-Program.Denot) (own q : Place) (b : ℕ) (kids : List g.P.Proc.Seen) → AreChildren (order_of l.initial.self) l.family.first q b l.family.count → gathered (g.P.Proc.language p).has_ended (procs_of (g.P.Proc.seen p) l.initial.self) q b 1 l.place ≡ Some kids → AreToldBut (g.P.Proc.seen p) (g.P.Proc.IsNext p) own l.initial.self → AreToldBut (g.P.Proc.seen p) (g.P.Proc.IsNext p) own l.self;
  families : (p : g.row.P-Program.Denot) → AreFamilies (g.P.Proc.seen p) g.P.Proc.awaits l.initial.self → AreFamilies (g.P.Proc.seen p) g.P.Proc.awaits l.self;
}
