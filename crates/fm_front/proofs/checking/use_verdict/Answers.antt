use Rattle.std.specs.Prelude.{Contains, None}
use Rattle.std.proofs.Common.{subst}
use Rattle.fm_base.specs.Verdict.{IsVerdict}
use Rattle.fm_rules.specs.BrokenPorts.{broken_ports}
use Rattle.fm_rules.specs.Broken.{IsBrokenType}
use Rattle.fm_front.proofs.Phases.{not_some, then_first, then_next}
use Rattle.fm_front.proofs.checking.use_verdict.Goals as goal

pub returns-in-Some : goal.returns-in-Some
returns-in-Some c =
    let us = c.args.units.now.units in
    let ns = c.args.names.now.units in
    let x = c.args.context.now in
    then_first (IsBrokenType us ns x) (Contains (broken_ports us ns x)) c.in-Some.refusal (subst (IsVerdict (IsBrokenType us ns x)) c.in-Some.is c.in_ok-wrong.ensures)

pub returns : goal.returns
returns c =
    let us = c.args.units.now.units in
    let ns = c.args.names.now.units in
    let x = c.args.context.now in
    then_next (IsBrokenType us ns x) (Contains (broken_ports us ns x)) c.ports.result
    (subst (IsVerdict (IsBrokenType us ns x)) (not_some c.in_ok-wrong.wrong c.in_default.not-Some) c.in_ok-wrong.ensures) c.ports.ensures
