use Rattle.std.proofs.Common.{FitsSigned, w64, ap, sym, ◌∙◌, rules}
use Rattle.std.proofs.lemmas.Int.{to_z-of_z}
use Rattle.fm_proc_events.specs.Phases.{proc_of}
use Rattle.fm_procs.proofs.Served.{received, waits_receiving}
use Rattle.fm_procs.proofs.ready.received_channel.Goals as goal

pub returns-in-Receive : goal.returns-in-Receive
returns-in-Receive c = λ look running.
    let y = proc_of c.args.process.now in
    let fits : FitsSigned w64 c.in-Receive.slot = search rules in
    (simp to_z-of_z at c.inport_channel.ensures) ∙ sym (waits_receiving y c.args.ask.now look running ∙ ap (received y) c.in-Receive.is)

pub returns-in-Fail : goal.returns-in-Fail
returns-in-Fail c = λ look running.
    let y = proc_of c.args.process.now in
    sym (waits_receiving y c.args.ask.now look running ∙ ap (received y) c.in-Fail.is)

pub returns-in-LetGo : goal.returns-in-LetGo
returns-in-LetGo c = λ look running.
    let y = proc_of c.args.process.now in
    sym (waits_receiving y c.args.ask.now look running ∙ ap (received y) c.in-LetGo.is)

pub returns-in-Channel : goal.returns-in-Channel
returns-in-Channel c = λ look running.
    let y = proc_of c.args.process.now in
    sym (waits_receiving y c.args.ask.now look running ∙ ap (received y) c.in-Channel.is)

pub returns-in-Merger : goal.returns-in-Merger
returns-in-Merger c = λ look running.
    let y = proc_of c.args.process.now in
    sym (waits_receiving y c.args.ask.now look running ∙ ap (received y) c.in-Merger.is)

pub returns-in-Send : goal.returns-in-Send
returns-in-Send c = λ look running.
    let y = proc_of c.args.process.now in
    sym (waits_receiving y c.args.ask.now look running ∙ ap (received y) c.in-Send.is)

pub returns-in-Probe : goal.returns-in-Probe
returns-in-Probe c = λ look running.
    let y = proc_of c.args.process.now in
    sym (waits_receiving y c.args.ask.now look running ∙ ap (received y) c.in-Probe.is)

pub returns-in-Begin : goal.returns-in-Begin
returns-in-Begin c = λ look running.
    let y = proc_of c.args.process.now in
    sym (waits_receiving y c.args.ask.now look running ∙ ap (received y) c.in-Begin.is)

pub returns-in-Join : goal.returns-in-Join
returns-in-Join c = λ look running.
    let y = proc_of c.args.process.now in
    sym (waits_receiving y c.args.ask.now look running ∙ ap (received y) c.in-Join.is)

pub returns-in-End : goal.returns-in-End
returns-in-End c = λ look running.
    let y = proc_of c.args.process.now in
    sym (waits_receiving y c.args.ask.now look running ∙ ap (received y) c.in-End.is)
