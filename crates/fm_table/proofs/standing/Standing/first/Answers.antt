use Rattle.std.proofs.Common.{List, ap, refl, sym}
use Rattle.std.specs.declared.alloc.Global.{Global}
use Rattle.std.specs.declared.sync.Arc.{Arc}
use Rattle.fm_base.specs.declared.path.Path.{Path}
use Rattle.fm_run.specs.Orders.{places_of}
use Rattle.fm_run.specs.Programs.{Stand}
use Rattle.fm_table.specs.Inside.{stand_in}
use Rattle.std.specs.Prelude.{◌++◌}
use Rattle.fm_table.proofs.Standings.{first_live, live_standing}
use Rattle.fm_table.proofs.standing.Standing.first.Goals as goal

pub returns-clause-standing : goal.returns-clause-standing
returns-clause-standing c =
    let P = c.args.program.now in
    let player = c.in_ok-player.player in
    let e = c.in_ok-player.ensures in
    let live = first_live P player e.sound e.played e.stand e.history in
    let places = (stand_in P player).places in
    live_standing P player live _ refl refl places (ap (λ (ps : List (Arc Path Global)). places_of ps ++ places) (sym c.new-paths.ensures.items)) (sym e.used) c.has_some-is_ready.ensures

pub returns-clause-queue : goal.returns-clause-queue
returns-clause-queue c = ap (λ (b : Stand). b.able) c.in_ok-player.ensures.stand
