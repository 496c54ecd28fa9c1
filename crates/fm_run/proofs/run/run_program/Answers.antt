use Rattle.std.proofs.Common.{List, sym, subst, arith}
use Rattle.fm_base.specs.declared.schedule.Turn.{Turn}
use Rattle.fm_run.specs.Entries.{turn_of}
use Rattle.fm_run.specs.Runs.{Follows, stand_at}
use Rattle.fm_run.proofs.Following.{followed_first, followed_more}
use Rattle.fm_run.proofs.Numbers.{among_get}
use Rattle.fm_run.proofs.Results.{if_ok_all}
use Rattle.std.proofs.lemmas.Result.{IfOk-weaker}
use Rattle.fm_run.proofs.Playing.{front_none, main_first, none_left, run_ended, run_spent}
use Rattle.fm_run.proofs.run.run_program.Goals as goal

pub returns-clause-run : goal.returns-clause-run
returns-clause-run g c =
    let P = g.N.Net.play c.args.program.now in
    let player = c.pieces.player in
    let played = c.pieces.invariant.played in
    if_ok_all c.ended-2.result c.ended-2.ensures.history c.ended-2.ensures.paths c.ended-2.ensures.ending (λ r hs ps is.
    run_ended P c.args.turns (g.N.Net.history player.net) (g.N.Net.order player.net) (g.N.Net.state c.args.program.now player.net) player.able.numbers.items player.used played.history played.able
    (none_left _ player.able.numbers.items c.next.result c.next.ensures c.in_default.not-Some) c.pieces.invariant.within c.pieces.invariant.front c.in_ok-outcome.outcome c.in_ok-outcome.ensures
    r hs ps is)

pub returns-then-player-turns-clause-run : goal.returns-then-player-turns-clause-run
returns-then-player-turns-clause-run g c =
    let P = g.N.Net.play c.args.program.now in
    let player = c.play.new.self in
    if_ok_all c.ended.result c.ended.ensures.history c.ended.ensures.paths c.ended.ensures.ending (λ r hs ps is.
    run_spent P c.args.turns (g.N.Net.history player.net) (g.N.Net.order player.net) (g.N.Net.state c.args.program.now player.net) player.used c.in_ok-play.ensures.played.history (omega arith) (c.in_ok-play.ensures.front c.args.turns c.pieces.invariant.within)
    r hs ps is)

pub pieces-init : goal.pieces-init
pieces-init g c =
    let P = g.N.Net.play c.args.program.now in
    let player = c.in_ok-player.player in
    record {
      sound = c.in_ok-player.ensures.sound;
      played = c.in_ok-player.ensures.played;
      within = omega (arith, c.in_ok-player.ensures.used);
      front = front_none P c.args.turns (g.N.Net.history player.net) (g.N.Net.order player.net) c.in_ok-player.ensures.history;
      followed = followed_first P _ c.args.choices.now (g.N.Net.history player.net) (stand_at (g.N.Net.state c.args.program.now player.net) (g.N.Net.order player.net) player.able.numbers.items) c.in_ok-player.ensures.history c.in_ok-player.ensures.stand;
    }

pub pieces-preserved : goal.pieces-preserved
pieces-preserved g c =
    let P = g.N.Net.play c.args.program.now in
    let player = c.pieces.player in
    let later = c.play.new.self in
    record {
      sound = c.in_ok-play.ensures.sound;
      played = c.in_ok-play.ensures.played;
      within = omega arith;
      front = c.in_ok-play.ensures.front c.args.turns c.pieces.invariant.within;
      followed =
          followed_more P _ c.args.choices.now (g.N.Net.history player.net) (stand_at (g.N.Net.state c.args.program.now player.net) (g.N.Net.order player.net) player.able.numbers.items) c.pieces.invariant.followed
          (turn_of c.in-Some.number c.in_ok-play.field-0) (sym c.in-Some.ensures) c.in_ok-play.ensures.full
          (g.N.Net.history later.net) (stand_at (g.N.Net.state c.args.program.now later.net) (g.N.Net.order later.net) later.able.numbers.items) c.in_ok-play.ensures.entry c.in_ok-play.ensures.able;
    }

pub play-requires-clause-able : goal.play-requires-clause-able
play-requires-clause-able g c = among_get c.pieces.player.able.numbers.items _ c.in-Some.number (sym c.in-Some.ensures)

pub returns-clause-follows : goal.returns-clause-follows
returns-clause-follows g c = IfOk-weaker c.ended-2.result _ _ (λ r hs. subst (λ (ts : List Turn). Follows (g.N.Net.play c.args.program.now) c.args.slice c.args.choices.now ts) (sym hs) c.pieces.invariant.followed.follows) c.ended-2.ensures.history

pub returns-then-player-turns-clause-follows : goal.returns-then-player-turns-clause-follows
returns-then-player-turns-clause-follows g c =
    let P = g.N.Net.play c.args.program.now in
    let player = c.pieces.player in
    let later = c.play.new.self in
    let followed =
    followed_more P c.args.slice c.args.choices.now (g.N.Net.history player.net) (stand_at (g.N.Net.state c.args.program.now player.net) (g.N.Net.order player.net) player.able.numbers.items) c.pieces.invariant.followed
    (turn_of c.in-Some.number c.in_ok-play.field-0) (sym c.in-Some.ensures) c.in_ok-play.ensures.full
    (g.N.Net.history later.net) (stand_at (g.N.Net.state c.args.program.now later.net) (g.N.Net.order later.net) later.able.numbers.items) c.in_ok-play.ensures.entry c.in_ok-play.ensures.able in
    IfOk-weaker c.ended.result _ _ (λ r hs. subst (λ (ts : List Turn). Follows (g.N.Net.play c.args.program.now) c.args.slice c.args.choices.now ts) (sym hs) followed.follows) c.ended.ensures.history

pub outcome-requires-clause-main : goal.outcome-requires-clause-main
outcome-requires-clause-main g c =
    let P = g.N.Net.play c.args.program.now in
    let player = c.pieces.player in
    main_first P (g.N.Net.history player.net) (g.N.Net.order player.net) (g.N.Net.state c.args.program.now player.net) player.used c.pieces.invariant.played.history
