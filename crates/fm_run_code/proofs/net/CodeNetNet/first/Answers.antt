use Rattle.std.proofs.Common.{List, ap, sym, subst, ◌∙◌}
use Rattle.fm_base.specs.declared.schedule.Turn.{Turn}
use Rattle.fm_procs.specs.Readings.{order_of}
use Rattle.fm_run_code.specs.Played.{played}
use Rattle.fm_run_code.specs.Sound.{IsSound}
use Rattle.fm_run_code.proofs.Histories.{played_none}
use Rattle.fm_run_code.proofs.Sound.{sound_first}
use Rattle.fm_run_code.proofs.net.CodeNetNet.first.Goals as goal

pub returns-clause-state : goal.returns-clause-state
returns-clause-state g c =
    let P = g.S.Coded.play c.args.program.now in
    let ps = order_of c.in_ok-stacks.stacks.entries in
    ap (λ (hs : List Turn). played P hs ps) c.new-history.ensures ∙ played_none P ps

pub returns-clause-sound : goal.returns-clause-sound
returns-clause-sound g c =
    let p = c.args.program.now in
    let P = g.S.Coded.play p in
    let C = g.S.Coded.Corresponds p in
    let L = g.S.Coded.IsLive p in
    let stacks = c.in_ok-stacks.stacks in
    subst (λ (hs : List Turn). IsSound P C L stacks hs) (sym c.new-history.ensures) (sound_first P C L stacks c.in_ok-stacks.ensures.stands c.in_ok-stacks.ensures.kept)
