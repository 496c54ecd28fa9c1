use Rattle.std.proofs.Common.{◌≡◌, ◌+◌, ℕ, [], ap, ap₂, sym, subst, ◌∙◌}
use Rattle.std.proofs.lemmas.Result.{IfOk-weaker}
use Rattle.fm_base.specs.Channels.{Chans, all_shed}
use Rattle.fm_chan.specs.Bodies.{chans_of}
use Rattle.fm_chan.proofs.Waking.{wakes_nobody}
use Rattle.fm_net_procs.specs.declared.piece.Advanced.{Advanced}
use Rattle.fm_net_procs.specs.declared.piece.Stop.TheVariants.{Meets, Pauses}
use Rattle.fm_net_procs.specs.Stepping.{Advances}
use Rattle.fm_mean.specs.Steps.{language}
use Rattle.fm_plain_frame.specs.Frames.{proc_of}
use Rattle.fm_plain_frame.specs.LetGo.{let_go_ports}
use Rattle.fm_plain.specs.declared.event.Event.{Event}
use Rattle.fm_plain.specs.declared.looking.Next.{Next}
use Rattle.fm_plain.specs.Looking.{IsNext}
use Rattle.fm_plain_net.specs.Goes.{MeetsIt}
use Rattle.fm_plain_net.specs.Held.{Fits, MayDrop}
use Rattle.fm_run.specs.Awaited.{awaits}
use Rattle.fm_plain_net.specs.Readings.{tree_of}
use Rattle.fm_run.specs.Programs.{has_local}
use Rattle.fm_plain_net.proofs.Advancing.{event_advances, lets_advances, lets_drop, more_advances}
use Rattle.fm_plain_net.proofs.Awaiting.{under_way}
use Rattle.fm_plain_net.proofs.Performing.{dropped_there}
use Rattle.fm_plain_net.proofs.processes.TreeProcProc.advance.Goals as goal

pub advance-requires : goal.advance-requires
advance-requires c =
    let P = c.args.program.now in
    let k = c.requires.can in
    under_way P k.1.state k.0 (tree_of P c.args.self.now) k.1.here k.1.can k.1.fits.reached

pub returns-in-More-clause-advances : goal.returns-in-More-clause-advances
returns-in-More-clause-advances c =
    let P = c.args.program.now in
    let x = tree_of P c.args.self.now in
    let after = proc_of P c.advance.new.process in
    IfOk-weaker c.pauses.result _ _ (λ a paused s q is chans fits can.
    subst (λ (b : Advanced Event Next). Advances (language P) (has_local P) awaits (IsNext P) (MeetsIt P) (Fits P c.args.work.now) c.args.slice c.args.spare s q x after b (chans_of c.args.channels.now)) (sym paused.is)
    (subst (λ (cs : Chans). Advances (language P) (has_local P) awaits (IsNext P) (MeetsIt P) (Fits P c.args.work.now) c.args.slice c.args.spare s q x after (record { stop = Pauses paused.next; steps = c.in_ok-stop.field-0.steps; cost = c.in_ok-stop.field-0.cost }) cs) chans
    (more_advances P c.args.slice c.args.spare s q x is c.in_ok-stop.field-0 after c.in_ok-stop.ensures.ok c.args.work.now fits c.in-More.is c.requires.some paused.next paused.told))) c.pauses.ensures

pub returns-in-More-clause-waking : goal.returns-in-More-clause-waking
returns-in-More-clause-waking c = IfOk-weaker c.pauses.result _ _ (λ a paused. wakes_nobody c.args.channels.now) c.pauses.ensures

pub returns-in-Event-clause-advances : goal.returns-in-Event-clause-advances
returns-in-Event-clause-advances c = λ s q is chans fits can.
    let P = c.args.program.now in
    let x = tree_of P c.args.self.now in
    let after = proc_of P c.advance.new.process in
    subst (λ (cs : Chans). Advances (language P) (has_local P) awaits (IsNext P) (MeetsIt P) (Fits P c.args.work.now) c.args.slice c.args.spare s q x after (record { stop = Meets c.in-Event.event; steps = c.in_ok-stop.field-0.steps; cost = c.in_ok-stop.field-0.cost }) cs) chans
    (event_advances P c.args.slice c.args.spare s q x is c.in_ok-stop.field-0 after c.in_ok-stop.ensures.ok c.args.work.now fits c.in-Event.event c.in-Event.is)

pub returns-in-Event-clause-waking : goal.returns-in-Event-clause-waking
returns-in-Event-clause-waking c = wakes_nobody c.args.channels.now

pub discard_all-requires-clause-kept : goal.discard_all-requires-clause-kept
discard_all-requires-clause-kept c =
    let P = c.args.program.now in
    let k = c.requires.can in
    dropped_there _ c.args.work.now (lets_drop P c.args.slice c.args.spare k.1.state k.0 (tree_of P c.args.self.now) k.1.here c.in_ok-stop.field-0 (proc_of P c.advance.new.process) c.in_ok-stop.ensures.ok c.args.work.now k.1.fits c.in-LetsGo.let_go c.in-LetsGo.paid c.in-LetsGo.is)

pub discard_all-requires-clause-once : goal.discard_all-requires-clause-once
discard_all-requires-clause-once c =
    let P = c.args.program.now in
    let k = c.requires.can in
    let may : MayDrop c.args.work.now [] (let_go_ports P c.in-LetsGo.let_go) =
    lets_drop P c.args.slice c.args.spare k.1.state k.0 (tree_of P c.args.self.now) k.1.here c.in_ok-stop.field-0 (proc_of P c.advance.new.process) c.in_ok-stop.ensures.ok c.args.work.now k.1.fits c.in-LetsGo.let_go c.in-LetsGo.paid c.in-LetsGo.is in
    may.once

pub returns-in_ok-more-in-LetsGo-clause-advances : goal.returns-in_ok-more-in-LetsGo-clause-advances
returns-in_ok-more-in-LetsGo-clause-advances c =
    let P = c.args.program.now in
    let x = tree_of P c.args.self.now in
    let after = proc_of P c.advance.new.process in
    let made = c.in_ok-stop.field-0 in
    let gone = let_go_ports P c.in-LetsGo.let_go in
    IfOk-weaker c.pauses-in-LetsGo.result _ _ (λ a paused s q is chans fits can.
    let by : a ≡ record { stop = Pauses paused.next; steps = made.steps + 1; cost = made.cost + c.in-LetsGo.paid } =
    paused.is ∙ ap₂ (λ (n k : ℕ). record { stop = Pauses paused.next; steps = n; cost = k }) c.in_ok-more-in-LetsGo.ensures.0 c.in_ok-more-in-LetsGo.ensures.1 in
    let there : all_shed gone s.chans ≡ chans_of c.discard_all.new.channels = ap (all_shed gone) chans ∙ sym c.discard_all.ensures.channels in
    subst (λ (b : Advanced Event Next). Advances (language P) (has_local P) awaits (IsNext P) (MeetsIt P) (Fits P c.discard_all.new.ports) c.args.slice c.args.spare s q x after b (chans_of c.discard_all.new.channels)) (sym by)
    (subst (λ (cs : Chans). Advances (language P) (has_local P) awaits (IsNext P) (MeetsIt P) (Fits P c.discard_all.new.ports) c.args.slice c.args.spare s q x after (record { stop = Pauses paused.next; steps = made.steps + 1; cost = made.cost + c.in-LetsGo.paid }) cs) there
    (lets_advances P c.args.slice c.args.spare s q x is made after c.in_ok-stop.ensures.ok c.args.work.now fits c.in-LetsGo.let_go c.in-LetsGo.paid c.in-LetsGo.is paused.next paused.told c.discard_all.new.ports c.discard_all.ensures.others))) c.pauses-in-LetsGo.ensures

pub returns-in_ok-more-in-LetsGo-clause-waking : goal.returns-in_ok-more-in-LetsGo-clause-waking
returns-in_ok-more-in-LetsGo-clause-waking c = IfOk-weaker c.pauses-in-LetsGo.result _ _ (λ a paused. c.discard_all.ensures.waking) c.pauses-in-LetsGo.ensures
