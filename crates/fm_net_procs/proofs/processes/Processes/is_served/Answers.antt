use Rattle.std.proofs.Common.{refl}
use Rattle.std.proofs.lemmas.Result.{IfOk-weaker}
use Rattle.fm_net_procs.specs.Readings.{order_of, proc_in, state_of}
use Rattle.fm_net_procs.proofs.Steps.{joins_ended}
use Rattle.fm_net_procs.proofs.processes.Processes.is_served.Goals as goal

pub returns-in-Some : goal.returns-in-Some
returns-in-Some g c = λ p q is family fits meets. c.in-Some.ensures.served p (state_of (g.P.Proc.seen p) c.args.self.now) q is refl fits meets

pub returns-in-None : goal.returns-in-None
returns-in-None g c = IfOk-weaker c.have_ended.result _ _ (λ r told p q is family fits meets.
    let y = proc_in (g.P.Proc.seen p) c.args.entry.now in
    joins_ended (g.P.Proc.language p) (state_of (g.P.Proc.seen p) c.args.self.now) q y is g.P.Proc.awaits (c.in-None.ensures.joins p meets) (order_of c.args.self.now.entries) c.family.result.first c.args.entry.now.first_child c.family.result.count family
    c.family.ensures.first (c.family.ensures.count p) r (λ b all. told p q b all)) c.have_ended.ensures
