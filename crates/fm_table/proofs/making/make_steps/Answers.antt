use Rattle.std.proofs.Common.{◌≡◌, false, true, refl, sym, ◌∙◌, rules}
use Rattle.fm_run.specs.Programs.{play_of}
use Rattle.fm_run.proofs.Numbers.{among_is}
use Rattle.fm_run.proofs.Playing.{known, known_place}
use Rattle.fm_table.specs.Inside.{stand_in}
use Rattle.fm_table.proofs.Standings.{all_made, made_some, not_able, steps_live}
use Rattle.fm_table.proofs.making.make_steps.Goals as goal

pub is_able-requires : goal.is_able-requires
is_able-requires c =
    let a = stand_in c.args.program.now c.args.player.now in
    (_, c.requires.live.played.numbered.marked, λ n h. known (play_of c.args.program.now) a.state a.places n (c.requires.live.played.able.within n h))

pub returns-then-not-is_able-clause-none : goal.returns-then-not-is_able-clause-none
returns-then-not-is_able-clause-none c = λ e.
    let none : c.is_able.result ≡ false = search rules in
    (refl, not_able c.args.program.now c.args.player.now c.requires.live c.args.number (sym c.is_able.ensures ∙ none))

pub play-requires-clause-able : goal.play-requires-clause-able
play-requires-clause-able c =
    let some : c.is_able.result ≡ true = search rules in
    among_is c.args.player.now.able.numbers.items c.args.number (sym c.is_able.ensures ∙ some)

pub play_steps-requires-clause-able : goal.play_steps-requires-clause-able
play_steps-requires-clause-able c =
    let some : c.is_able.result ≡ true = search rules in
    among_is c.args.player.now.able.numbers.items c.args.number (sym c.is_able.ensures ∙ some)

pub give-requires-clause-able : goal.give-requires-clause-able
give-requires-clause-able c =
    let some : c.is_able.result ≡ true = search rules in
    among_is c.args.player.now.able.numbers.items c.args.number (sym c.is_able.ensures ∙ some)

pub returns-in-Slice-clause-live : goal.returns-in-Slice-clause-live
returns-in-Slice-clause-live c =
    let P = c.args.program.now in
    let old = c.args.player.now in
    let new = c.play.new.self in
    let n = c.args.number in
    let a = stand_in P old in
    let e = c.play.ensures in
    let some : c.is_able.result ≡ true = search rules in
    let among = among_is old.able.numbers.items n (sym c.is_able.ensures ∙ some) in
    steps_live P old new n c.play.result c.requires.live (all_made P old new n c.play.result (known_place (play_of P) a.state a.places n (c.requires.live.played.able.within n among)) e.entry e.able e.some_steps e.front e.used) e.sound e.played

pub returns-in-Slice-clause-made : goal.returns-in-Slice-clause-made
returns-in-Slice-clause-made c =
    let P = c.args.program.now in
    let old = c.args.player.now in
    let new = c.play.new.self in
    let n = c.args.number in
    let a = stand_in P old in
    let e = c.play.ensures in
    let some : c.is_able.result ≡ true = search rules in
    let among = among_is old.able.numbers.items n (sym c.is_able.ensures ∙ some) in
    made_some P old new n c.play.result (all_made P old new n c.play.result (known_place (play_of P) a.state a.places n (c.requires.live.played.able.within n among)) e.entry e.able e.some_steps e.front e.used)

pub returns-in-Steps-clause-live : goal.returns-in-Steps-clause-live
returns-in-Steps-clause-live c =
    let P = c.args.program.now in
    let old = c.args.player.now in
    let new = c.play_steps.new.self in
    let n = c.args.number in
    let a = stand_in P old in
    let e = c.play_steps.ensures in
    let some : c.is_able.result ≡ true = search rules in
    let among = among_is old.able.numbers.items n (sym c.is_able.ensures ∙ some) in
    steps_live P old new n c.play_steps.result c.requires.live (all_made P old new n c.play_steps.result (known_place (play_of P) a.state a.places n (c.requires.live.played.able.within n among)) e.entry e.able e.some_steps e.front e.used) e.sound e.played

pub returns-in-Steps-clause-made : goal.returns-in-Steps-clause-made
returns-in-Steps-clause-made c =
    let P = c.args.program.now in
    let old = c.args.player.now in
    let new = c.play_steps.new.self in
    let n = c.args.number in
    let a = stand_in P old in
    let e = c.play_steps.ensures in
    let some : c.is_able.result ≡ true = search rules in
    let among = among_is old.able.numbers.items n (sym c.is_able.ensures ∙ some) in
    made_some P old new n c.play_steps.result (all_made P old new n c.play_steps.result (known_place (play_of P) a.state a.places n (c.requires.live.played.able.within n among)) e.entry e.able e.some_steps e.front e.used)
