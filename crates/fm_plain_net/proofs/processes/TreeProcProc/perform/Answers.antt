use Rattle.std.proofs.Common.{◌≡◌, false, None, Option, Some, List, [], map, refl, ap, sym, subst}
use Rattle.std.specs.Prelude.{is_some}
use Rattle.fm_base.specs.Channels.{Chans}
use Rattle.fm_chan.specs.Bodies.{chans_of}
use Rattle.fm_net_procs.specs.Stepping.{StepsTo}
use Rattle.fm_mean.specs.Process.{Proc}
use Rattle.fm_mean.specs.Steps.{language}
use Rattle.fm_plain_frame.specs.Frames.{proc_of}
use Rattle.fm_plain_net.specs.Goes.{CanPerform, Performs, joined_by, kids_by}
use Rattle.fm_plain_net.specs.Held.{Fits}
use Rattle.fm_run.specs.Awaited.{awaits}
use Rattle.fm_plain_net.specs.Readings.{tree_of}
use Rattle.fm_plain_net.proofs.Doing.{can_perform, joins_none}
use Rattle.fm_plain_net.proofs.Performed.{steps_to}
use Rattle.fm_run.proofs.Programs.{owned_reached}
use Rattle.fm_plain_net.proofs.processes.TreeProcProc.perform.Goals as goal

none_from : {A : Type 0} (o : Option A) → is_some o ≡ false → o ≡ None
none_from None e = refl
none_from (Some x) e = absurd (cc e)

pub perform-requires-clause-event : goal.perform-requires-clause-event
perform-requires-clause-event c = c.requires.event.0

pub perform-requires-clause-alone : goal.perform-requires-clause-alone
perform-requires-clause-alone c = none_from (joined_by c.args.event) c.requires.alone

pub perform-requires-clause-can : goal.perform-requires-clause-can
perform-requires-clause-can c =
    let P = c.args.program.now in
    let x = tree_of P c.args.self.now in
    let k = c.requires.can in
    let s = k.state in
    subst (λ (cs : Chans). CanPerform P c.args.path.now x cs [] c.args.work.now) k.chans_are
    (can_perform P s c.args.path.now x k.here c.args.work.now [] (ap (kids_by s.procs c.args.path.now) (joins_none P x c.args.event c.requires.event.0 (none_from (joined_by c.args.event) c.requires.alone))) (owned_reached P s k.fits.reached) k.fits.held k.can)

pub returns-clause-performs : goal.returns-clause-performs
returns-clause-performs c = λ s is chans fits can.
    let P = c.args.program.now in
    let x = tree_of P c.args.self.now in
    let y = proc_of P c.perform.new.process in
    let d = c.in_ok-children.field-0 in
    let cs = chans_of c.perform.new.channels in
    let xs = map (proc_of P) d.children.items in
    let none = joins_none P x c.args.event c.requires.event.0 (none_from (joined_by c.args.event) c.requires.alone) in
    let does = subst (λ (m : Chans). Performs P c.args.path.now x m [] c.args.work.now y xs cs c.perform.new.ports d.cost) (sym chans) c.in_ok-children.ensures.performs in
    subst (λ (zs : List Proc). StepsTo (language P) awaits (Fits P c.perform.new.ports) s c.args.path.now x y zs cs d.cost) (sym (c.in_ok-born.ensures P))
    (steps_to P s c.args.path.now x is c.args.work.now c.perform.new.ports y xs cs d.cost does none fits)
