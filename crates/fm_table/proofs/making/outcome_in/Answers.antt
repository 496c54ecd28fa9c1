use Rattle.fm_run.specs.Programs.{play_of}
use Rattle.fm_run.proofs.Playing.{main_first}
use Rattle.fm_table.specs.Inside.{stand_in}
use Rattle.fm_table.proofs.making.outcome_in.Goals as goal

pub outcome-requires-clause-sound : goal.outcome-requires-clause-sound
outcome-requires-clause-sound c = c.requires.sound

pub outcome-requires-clause-main : goal.outcome-requires-clause-main
outcome-requires-clause-main c =
    let player = c.args.player.now in
    let a = stand_in c.args.program.now player in
    main_first (play_of c.args.program.now) player.net.history a.places a.state player.used c.requires.played.history
