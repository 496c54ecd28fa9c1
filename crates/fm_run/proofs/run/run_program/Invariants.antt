use Rattle.std.proofs.Common.{◌≤◌, ◌-◌}
use Rattle.fm_run.specs.Runs.{IsFrontWithin, IsPlayed, stand_at}
use Rattle.fm_run.proofs.Following.{IsFollowed}
use Rattle.fm_run.proofs.run.run_program.Given as goal

abbrev pub invariant-pieces : goal.invariant-pieces
invariant-pieces g l =
    let net = l.player.net in
    let stand = stand_at (g.N.Net.state l.program net) (g.N.Net.order net) l.player.able.numbers.items in
    record {
      sound : g.N.Net.IsSound l.program net;
      played : IsPlayed (g.N.Net.play l.program) stand (g.N.Net.channels net) (g.N.Net.history net) l.player.parents.items l.player.able.marks.items l.player.used;
      within : l.player.used ≤ l.turns;
      front : IsFrontWithin (g.N.Net.play l.program) l.turns (g.N.Net.history net) (g.N.Net.order net);
      followed : IsFollowed (g.N.Net.play l.program) l.slice l.choices (g.N.Net.history net) stand;
    }

abbrev pub decreases-pieces : goal.decreases-pieces
decreases-pieces g l = l.turns - l.player.used
