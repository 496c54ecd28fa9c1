use Rattle.std.proofs.Common.{Contains, ap, sym, subst, ◌∙◌}
use Rattle.fm_base.specs.Verdict.{IsVerdict, least}
use Rattle.fm_rules.specs.BrokenPorts.{broken_ports}
use Rattle.fm_ports.proofs.walk.ports.Goals as goal

pub returns : goal.returns
returns c =
    let places = broken_ports c.args.units.now.units c.args.names.now.units c.args.context.now in
    subst (IsVerdict (Contains places)) (sym (c.least_broken.ensures ∙ ap (λ us. least (broken_ports us c.args.names.now.units c.args.context.now)) c.as_slice.ensures)) (c.least_law.ensures places)
