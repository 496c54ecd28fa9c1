use Rattle.std.proofs.Common.{◌≡◌, ap, sym, subst, ◌∙◌}
use Rattle.fm_base.specs.Channels.{Chans}
use Rattle.fm_chan.proofs.Waking.{wakes_nobody}
use Rattle.fm_code.specs.declared.ask.Ask.{Ask}
use Rattle.fm_machine_calls.specs.declared.looking.Look.{Look}
use Rattle.fm_machine_calls.specs.declared.looking.Look.TheVariants as look
use Rattle.fm_net_procs.specs.declared.piece.Stop.{Stop}
use Rattle.fm_net_procs.specs.Stepping.{Advances}
use Rattle.fm_procs.specs.Runs.{Runs}
use Rattle.fm_proc_language.specs.Needs.{is_local}
use Rattle.fm_proc_language.specs.Processes.{CodeProc, code_language}
use Rattle.fm_proc_events.specs.Phases.{proc_of}
use Rattle.fm_proc_events.specs.Told.{look_of}
use Rattle.fm_procs.specs.Pieces.{is_used_up}
use Rattle.fm_procs.specs.Readings.{awaits, code_of}
use Rattle.fm_procs.specs.Stepping.{stop_of}
use Rattle.fm_procs.proofs.Looked.{goes_running}
use Rattle.fm_procs.proofs.Table.{advances_to, goes_on}
use Rattle.fm_procs.proofs.process.CodeProcessProc.advance.Goals as goal

pub advance-requires : goal.advance-requires
advance-requires c =
    let y = code_of c.args.self.now in
    let k = c.requires.can in
    let l = c.requires.goes in
    rw c.deref_mut.ensures.value (goes_running k.1.state k.0 y k.1.here (goes_on k.1.state k.0 y k.1.here k.1.can l.0 l.1 l.2) k.1.can)

pub returns-clause-advances : goal.returns-clause-advances
returns-clause-advances c = λ s q is chans fits can.
    let y = code_of c.args.self.now in
    let z = proc_of c.advance.new.process in
    let a = c.in_ok-steps.field-0 in
    let from : proc_of c.deref_mut.result.now ≡ y = ap proc_of c.deref_mut.ensures.value in
    let runs = subst (λ (v : CodeProc). Runs v a.steps a.cost z) from c.in_ok-steps.ensures.runs in
    let stop : c.stop_of-stop.result ≡ stop_of a.next (is_used_up a.steps c.args.slice c.args.spare) = c.stop_of-stop.ensures ∙ ap (stop_of a.next) c.is_used_up.ensures in
    subst (λ (cs : Chans). Advances code_language is_local awaits (λ v k. k ≡ look_of v) (λ v e. look_of v ≡ look.Asks e) (λ t. Unit {0}) c.args.slice c.args.spare s q y z (record { stop = c.stop_of-stop.result; steps = a.steps; cost = a.cost }) cs) chans
    (subst (λ (u : Stop Ask Look). Advances code_language is_local awaits (λ v k. k ≡ look_of v) (λ v e. look_of v ≡ look.Asks e) (λ t. Unit {0}) c.args.slice c.args.spare s q y z (record { stop = u; steps = a.steps; cost = a.cost }) s.chans) (sym stop)
    (advances_to c.args.slice c.args.spare s q y is a z runs c.in_ok-steps.ensures.within c.in_ok-steps.ensures.next c.in_ok-steps.ensures.stops c.requires.some can))

pub returns-clause-waking : goal.returns-clause-waking
returns-clause-waking c = wakes_nobody c.args.channels.now
