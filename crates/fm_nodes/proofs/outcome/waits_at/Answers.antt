use Rattle.std.proofs.Common.{Some, ap, sym, ◌∙◌}
use Rattle.fm_mean.specs.declared.outcome.At.TheVariants as at
use Rattle.fm_mean.specs.Actions.{Meets}
use Rattle.fm_mean.specs.Outcome.{need_of}
use Rattle.fm_plain.specs.Events.{event_by}
use Rattle.fm_plain_frame.specs.Frames.{proc_of}
use Rattle.fm_plain_net.proofs.Waiting.{begin_free, end_free, fail_free, free_waits, make_free, probe_free, receive_waits, send_free}
use Rattle.fm_nodes_procs.specs.Processes.{procs_of}
use Rattle.fm_nodes.proofs.Waits.{joined_waits}
use Rattle.fm_nodes.proofs.outcome.waits_at.Goals as goal

pub returns-in_ok-name-in-Receive : goal.returns-in_ok-name-in-Receive
returns-in_ok-name-in-Receive c =
    let p = c.args.program.now in
    let x = proc_of p c.args.process.now in
    let m = procs_of (proc_of p) c.args.processes.now in
    let told = c.requires.0 ∙ ap (λ e. Meets (event_by x.phase e)) c.in-Receive.is in
    ap (λ d. Some (at.Receive d)) c.in_ok-name-in-Receive.ensures ∙ sym (receive_waits p x m c.args.path.now _ _ _ _ _ _ told)

pub returns-in_ok-child-in-Join : goal.returns-in_ok-child-in-Join
returns-in_ok-child-in-Join c =
    let p = c.args.program.now in
    let x = proc_of p c.args.process.now in
    let m = procs_of (proc_of p) c.args.processes.now in
    joined_waits p x m c.args.path.now c.args.event.now _ _ _ c.in-Join.is c.requires c.in_ok-child-in-Join.child c.join_of.result (c.in_ok-child-in-Join.ensures p) c.join_of.ensures

pub returns-in-Fail : goal.returns-in-Fail
returns-in-Fail c =
    let p = c.args.program.now in
    let x = proc_of p c.args.process.now in
    let told = c.requires.0 ∙ ap (λ e. Meets (event_by x.phase e)) c.in-Fail.is in
    sym (free_waits (procs_of (proc_of p) c.args.processes.now) c.args.path.now (need_of p x) (fail_free p x _ _ told))

pub returns-in-Make : goal.returns-in-Make
returns-in-Make c =
    let p = c.args.program.now in
    let x = proc_of p c.args.process.now in
    let told = c.requires.0 ∙ ap (λ e. Meets (event_by x.phase e)) c.in-Make.is in
    sym (free_waits (procs_of (proc_of p) c.args.processes.now) c.args.path.now (need_of p x) (make_free p x _ _ _ _ told))

pub returns-in-Send : goal.returns-in-Send
returns-in-Send c =
    let p = c.args.program.now in
    let x = proc_of p c.args.process.now in
    let told = c.requires.0 ∙ ap (λ e. Meets (event_by x.phase e)) c.in-Send.is in
    sym (free_waits (procs_of (proc_of p) c.args.processes.now) c.args.path.now (need_of p x) (send_free p x _ _ _ _ told))

pub returns-in-Probe : goal.returns-in-Probe
returns-in-Probe c =
    let p = c.args.program.now in
    let x = proc_of p c.args.process.now in
    let told = c.requires.0 ∙ ap (λ e. Meets (event_by x.phase e)) c.in-Probe.is in
    sym (free_waits (procs_of (proc_of p) c.args.processes.now) c.args.path.now (need_of p x) (probe_free p x _ _ _ told))

pub returns-in-Begin : goal.returns-in-Begin
returns-in-Begin c =
    let p = c.args.program.now in
    let x = proc_of p c.args.process.now in
    let told = c.requires.0 ∙ ap (λ e. Meets (event_by x.phase e)) c.in-Begin.is in
    sym (free_waits (procs_of (proc_of p) c.args.processes.now) c.args.path.now (need_of p x) (begin_free p x told))

pub returns-in-End : goal.returns-in-End
returns-in-End c =
    let p = c.args.program.now in
    let x = proc_of p c.args.process.now in
    let told = c.requires.0 ∙ ap (λ e. Meets (event_by x.phase e)) c.in-End.is in
    sym (free_waits (procs_of (proc_of p) c.args.processes.now) c.args.path.now (need_of p x) (end_free p x told))
