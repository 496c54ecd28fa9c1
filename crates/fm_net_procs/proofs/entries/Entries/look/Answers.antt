use Rattle.std.proofs.Common.{◌≡◌, Some, None, sym, ◌∙◌}
use Rattle.fm_net_procs.specs.Readings.{actor_place}
use Rattle.fm_net_procs.proofs.Maps.{found, moved, there, told_absent}
use Rattle.fm_net_procs.proofs.entries.Entries.look.Goals as goal

pub returns-in-None-clause-told : goal.returns-in-None-clause-told
returns-in-None-clause-told g c = λ but.
    let k = actor_place c.args.actor.now in
    let p = c.args.program.now in
    told_absent (g.P.Proc.seen p) (g.P.Proc.IsNext p) k c.args.self.now (found c.args.self.now c.args.actor.now.number k None c.requires c.in-None.ensures) but

pub returns-clause-told : goal.returns-clause-told
returns-clause-told g c = λ but.
    let k = actor_place c.args.actor.now in
    let p = c.args.program.now in
    let entry = c.in-Some.entry.now in
    let at = there (g.P.Proc.seen p) c.args.self.now k (Some entry) (found c.args.self.now c.args.actor.now.number k (Some entry) c.requires c.in-Some.ensures) in
    c.keep_next.ensures.told p (λ y is. let same : g.P.Proc.seen p entry.process ≡ y = cc (sym at ∙ is) in moved (g.P.Proc.IsNext p) same c.in_ok-next-in-Some.ensures.next) but

pub returns-clause-processes : goal.returns-clause-processes
returns-clause-processes g c = c.keep_next.ensures.processes

pub returns-clause-families : goal.returns-clause-families
returns-clause-families g c = c.keep_next.ensures.families
