use Rattle.std.proofs.Common.{◌≡◌, ◌<◌, ◌≤◌, ◌-◌, ℕ, length}
use Rattle.fm_chan.specs.Woken.{WakesAll}
use Rattle.fm_run.specs.Entries.{turn_of}
use Rattle.fm_run.specs.Orders.{Among}
use Rattle.fm_run.specs.Runs.{AreNumbered, IsEntry, IsPlayedBy}
use Rattle.fm_run.proofs.player.Player.keep_steps.Given as goal

-- so many steps were made, and are one entry
abbrev pub invariant-pieces : goal.invariant-pieces
invariant-pieces g l =
    let old = l.fn.self in
    let now = l.self in
    let P = g.N.Net.play l.program in
    record {
      sound : g.N.Net.IsSound l.program now.net;
      kept : IsPlayedBy P (g.N.Net.history now.net) (g.N.Net.order now.net) (g.N.Net.state l.program now.net) now.used;
      used : old.used < now.used;
      entry : IsEntry P (turn_of l.number l.done) (g.N.Net.state l.program old.net) (g.N.Net.order old.net) (g.N.Net.history old.net) (g.N.Net.state l.program now.net) (g.N.Net.order now.net) (g.N.Net.history now.net);
      some : 1 ≤ l.done;
      few : l.done ≤ l.steps;
      able : now.able.numbers.items ≡ old.able.numbers.items;
      within : (n : ℕ) → Among n now.able.numbers.items → n < length (g.N.Net.order now.net);
      numbered : AreNumbered (g.N.Net.order now.net) now.parents.items now.able.marks.items now.able.numbers.items;
      waking : WakesAll (g.N.Net.channels old.net) (g.N.Net.channels now.net);
    }

abbrev pub decreases-pieces : goal.decreases-pieces
decreases-pieces g l = l.steps - l.done
