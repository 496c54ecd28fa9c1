use Rattle.std.proofs.Common.{◌+◌, ◌++◌, length, take, ap, sym, ◌∙◌, arith, refl, rules}
use Rattle.fm_table.specs.Told.{cost_of as told_cost}
use Rattle.fm_table.proofs.Tables.{over_turns, within_turns}
use Rattle.fm_trace.specs.Texts.{each_time}
use Rattle.fmc.specs.Replay.{told_after}
use Rattle.fmc.proofs.ReplayLaws.{at_time, come_all, come_lacking, come_more, come_spent, length_times, take_front}
use Rattle.fmc.proofs.replaying.play_run.Goals as goal

pub times-init : goal.times-init
times-init c = let a = c.args.table.now in c.requires.told ∙ ap (told_after a.program a.setup) (sym (take_front a.history (each_time c.args.run)))

pub lacks_step-requires : goal.lacks_step-requires
lacks_step-requires c = let now = c.times.table in within_turns now.setup.turns (told_cost now) c.is_spent.result c.is_spent.ensures c.if-is_spent.false

pub times-preserved : goal.times-preserved
times-preserved c =
    let a = c.args.table.now in
    let ts = a.history ++ each_time c.args.run in
    let low = c.times-test.true in
    let made = come_more a.program a.setup ts (length a.history + c.times.made) c.args.run.turn c.times.table c.lacks_step.new.table (omega (arith, length_times a.history c.args.run.times c.args.run.turn, low))
    (at_time a.history c.args.run.times c.times.made (length a.history + c.times.made) c.args.run.turn low refl) c.requires.steps c.times.invariant (c.in_ok-lacks.ensures.none (search rules)) in
    made ∙ ap (λ n. told_after a.program a.setup (take n ts)) (omega arith)

pub returns-then-is_spent-clause-come : goal.returns-then-is_spent-clause-come
returns-then-is_spent-clause-come c =
    let a = c.args.table.now in
    let low = c.times-test.true in
    let now = c.times.table in
    come_spent a.program a.setup (a.history ++ each_time c.args.run) (length a.history + c.times.made) now (omega (arith, length_times a.history c.args.run.times c.args.run.turn, low)) c.times.invariant
    (over_turns now.setup.turns (told_cost now) c.is_spent.result c.is_spent.ensures c.if-is_spent.true)

pub returns-then-lacks-clause-come : goal.returns-then-lacks-clause-come
returns-then-lacks-clause-come c =
    let a = c.args.table.now in
    let low = c.times-test.true in
    come_lacking a.program a.setup (a.history ++ each_time c.args.run) (length a.history + c.times.made) c.times.table c.lacks_step.new.table c.args.run.turn
    (at_time a.history c.args.run.times c.times.made (length a.history + c.times.made) c.args.run.turn low refl) c.times.invariant (c.in_ok-lacks.ensures.some (search rules))

pub returns-clause-come : goal.returns-clause-come
returns-clause-come c =
    let a = c.args.table.now in
    let high = c.times-test.false in
    come_all a.program a.setup (a.history ++ each_time c.args.run) (length a.history + c.times.made) c.times.table (omega (arith, length_times a.history c.args.run.times c.args.run.turn, high)) c.times.invariant
