use Rattle.std.proofs.Common.{ap, sym, subst}
use Rattle.fm_mean.specs.Outcome.{need_of, waits_by}
use Rattle.fm_plain.specs.Looking.{IsNext}
use Rattle.fm_plain_frame.specs.Frames.{proc_of}
use Rattle.fm_plain_net.proofs.Waiting.{free_waits}
use Rattle.fm_nodes_procs.specs.Processes.{procs_of}
use Rattle.fm_nodes.proofs.outcome.waits.Goals as goal

pub waits_at-requires : goal.waits_at-requires
waits_at-requires c = (subst (IsNext c.args.program.now (proc_of c.args.program.now c.args.process.now)) c.in-Meets.is c.in_ok-event.ensures).0

pub returns-in-Steps : goal.returns-in-Steps
returns-in-Steps c =
    let p = c.args.program.now in
    let x = proc_of p c.args.process.now in
    sym (free_waits (procs_of (proc_of p) c.args.processes.now) c.args.path.now (need_of p x) (subst (IsNext p x) c.in-Steps.is c.in_ok-event.ensures))

pub returns-in-Rests : goal.returns-in-Rests
returns-in-Rests c =
    let p = c.args.program.now in
    let x = proc_of p c.args.process.now in
    sym (ap (waits_by (procs_of (proc_of p) c.args.processes.now) c.args.path.now) (subst (IsNext p x) c.in-Rests.is c.in_ok-event.ensures))
