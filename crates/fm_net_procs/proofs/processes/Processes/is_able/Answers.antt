use Rattle.std.proofs.Common.{Some, sym, ap, ◌∙◌}
use Rattle.std.proofs.lemmas.Result.{IfOk-weaker}
use Rattle.fm_net_procs.specs.Readings.{proc_in, state_of}
use Rattle.fm_net_procs.specs.Waiting.{can_in}
use Rattle.fm_net_procs.proofs.Maps.{found, placed, there}
use Rattle.fm_net_procs.proofs.Nobody.{nobody_can}
use Rattle.fm_net_procs.proofs.processes.Processes.is_able.Goals as goal

pub returns-in-Some : goal.returns-in-Some
returns-in-Some g c =
    let x = c.args.self.now.entries in
    let entry = c.in-Some.entry.now in
    let place = placed x c.args.number entry c.in-Some.ensures in
    let is = found x c.args.number place.0 (Some entry) place.1 c.in-Some.ensures in
    IfOk-weaker c.is_served.result _ _ (λ r served p families fits meets.
    let seen = g.P.Proc.seen p in
    let here = there seen x place.0 (Some entry) is in
    served p place.0 here (families place.0 entry (sym is)) fits (meets place.0 (proc_in seen entry) place.1 here)
    ∙ sym (ap (can_in (g.P.Proc.language p) (state_of seen c.args.self.now)) place.1)) c.is_served.ensures

pub returns-in-None : goal.returns-in-None
returns-in-None g c = λ p families fits meets. sym (nobody_can (g.P.Proc.seen p) (g.P.Proc.language p) c.args.self.now c.args.number c.in-None.ensures)
