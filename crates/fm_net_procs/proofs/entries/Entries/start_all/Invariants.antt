use Rattle.std.proofs.Common.{◌≡◌, ◌++◌, length, map}
use Rattle.std.specs.Prelude.{Some, None}
use Rattle.std.specs.FinMap.{get}
use Rattle.std.specs.List.{AllByRecursion}
use Rattle.std.specs.Vec.Iter.{into_iter_items}
use Rattle.fm_finmap.specs.Changes.{alters}
use Rattle.fm_finmap.specs.Rows.{numbered_map}
use Rattle.fm_net.specs.Machine.{State, start_changes}
use Rattle.fm_net.specs.Starts.{child_places}
use Rattle.fm_net_procs.specs.declared.entries.Entry.{Entry}
use Rattle.fm_net_procs.specs.Kept.{AreFamiliesBut, AreToldBut}
use Rattle.fm_net_procs.specs.Readings.{actor_place, order_of, procs_of}
use Rattle.fm_net_procs.proofs.entries.Entries.start_all.Given as goal

abbrev pub invariant-children : goal.invariant-children
invariant-children g l = record {
  processes : procs_of (g.P.Proc.seen l.program) l.self ≡ alters (start_changes (actor_place l.actor) l.block 1 (map (g.P.Proc.seen l.program) l.yielded)) (procs_of (g.P.Proc.seen l.program) l.initial.self);
  order : order_of l.self ≡ order_of l.initial.self ++ child_places (actor_place l.actor) l.block 1 (length l.yielded);
  count : l.place ≡ length l.yielded;
  told : AreToldBut (g.P.Proc.seen l.program) (g.P.Proc.IsNext l.program) (actor_place l.actor) l.initial.self → AreToldBut (g.P.Proc.seen l.program) (g.P.Proc.IsNext l.program) (actor_place l.actor) l.self;
  families : AreFamiliesBut (g.P.Proc.seen l.program) g.P.Proc.awaits (actor_place l.actor) l.initial.self → AreFamiliesBut (g.P.Proc.seen l.program) g.P.Proc.awaits (actor_place l.actor) l.self;
  run : AllByRecursion (λ y. g.P.Proc.awaits y ≡ None) (map (g.P.Proc.seen l.program) (into_iter_items l.process-iterator));
  whole : l.yielded ++ into_iter_items l.process-iterator ≡ l.fn.children.items;
  fits : (s : State g.P.Proc.Seen) → g.P.Proc.Fits l.program l.initial.work s → g.P.Proc.Fits l.program l.work s;
  own : (e : Entry g.row.P.Denot g.row.L.Denot) → get (numbered_map l.self.rows) (actor_place l.actor) ≡ Some e → get (numbered_map l.initial.self.rows) (actor_place l.actor) ≡ Some e;
}
