use Rattle.std.proofs.Common.{◌≡◌, List, map, ap, sym, subst}
use Rattle.fm_base.specs.Channels.{Chans}
use Rattle.fm_chan.specs.Bodies.{chans_of}
use Rattle.fm_net_procs.specs.Stepping.{StepsTo}
use Rattle.fm_proc_language.specs.Processes.{CodeProc, code_language}
use Rattle.fm_proc_events.specs.declared.process.Process.{Process}
use Rattle.fm_proc_events.specs.Performs.{CanPerform, MakesNew, Performs}
use Rattle.fm_proc_events.specs.Phases.{boxed_of, proc_of}
use Rattle.fm_procs.specs.Readings.{awaits, code_of}
use Rattle.fm_procs.proofs.Born.{can_perform}
use Rattle.fm_procs.proofs.Table.{makes_new, steps_to}
use Rattle.fm_procs.proofs.process.CodeProcessProc.perform.Goals as goal

pub perform-requires-clause-look : goal.perform-requires-clause-look
perform-requires-clause-look c = rw c.deref_mut.ensures.value c.requires.event

pub perform-requires-clause-can : goal.perform-requires-clause-can
perform-requires-clause-can c =
    let k = c.requires.can in
    let y = code_of c.args.self.now in
    subst (λ (v : Process). CanPerform (proc_of v) (chans_of c.args.channels.now)) (sym c.deref_mut.ensures.value)
    (subst (λ (cs : Chans). CanPerform y cs) k.chans_are (can_perform k.state c.args.path.now y c.args.event k.here c.requires.event c.requires.alone k.can))

pub perform-requires-clause-new : goal.perform-requires-clause-new
perform-requires-clause-new c =
    let k = c.requires.can in
    let y = code_of c.args.self.now in
    subst (λ (v : Process). MakesNew c.args.path.now (proc_of v) (chans_of c.args.channels.now)) (sym c.deref_mut.ensures.value)
    (subst (λ (cs : Chans). MakesNew c.args.path.now y cs) k.chans_are (makes_new k.state c.args.path.now y k.here k.new))

pub returns-clause-performs : goal.returns-clause-performs
returns-clause-performs c = λ s is chans fits can.
    let y = code_of c.args.self.now in
    let z = proc_of c.perform.new.process in
    let d = c.in_ok-children.field-0 in
    let cs = chans_of c.perform.new.channels in
    let xs = map boxed_of d.children.items in
    let from : proc_of c.deref_mut.result.now ≡ y = ap proc_of c.deref_mut.ensures.value in
    let does = subst (λ (v : CodeProc). Performs c.args.path.now v s.chans z xs cs d.cost) from (subst (λ (m : Chans). Performs c.args.path.now (proc_of c.deref_mut.result.now) m z xs cs d.cost) (sym chans) c.in_ok-children.ensures.performs) in
    subst (λ (zs : List CodeProc). StepsTo code_language awaits (λ t. Unit {0}) s c.args.path.now y z zs cs d.cost) (sym c.in_ok-born.ensures)
    (steps_to s c.args.path.now y is z xs cs d.cost does)
