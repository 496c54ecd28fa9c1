use Rattle.fm_run.specs.Programs.{play_of}
use Rattle.fm_run.proofs.Playing.{known_place}
use Rattle.fm_table.specs.Inside.{stand_in}
use Rattle.fm_table.proofs.Standings.{all_made, steps_live}
use Rattle.fm_table.proofs.making.give.Goals as goal

pub returns-clause-live : goal.returns-clause-live
returns-clause-live c =
    let P = c.args.program.now in
    let old = c.args.player.now in
    let new = c.give.new.self in
    let n = c.args.number in
    let a = stand_in P old in
    let e = c.give.ensures in
    steps_live P old new n c.give.result c.requires.live (all_made P old new n c.give.result (known_place (play_of P) a.state a.places n (c.requires.live.played.able.within n c.requires.able)) e.entry e.able e.some_steps e.front e.used) e.sound e.played
