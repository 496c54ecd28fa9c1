use Rattle.std.specs.Prelude.{Contains}
use Rattle.std.proofs.Common.{sym, subst}
use Rattle.fm_base.specs.Verdict.{IsVerdict}
use Rattle.fm_base.proofs.Phases.{verdict_join}
use Rattle.fm_rules.specs.Recursion.{IsRecursion}
use Rattle.fm_rules.specs.BrokenTypes.{broken_types}
use Rattle.fm_rules.specs.Broken.{IsBrokenType}
use Rattle.fm_front.proofs.checking.type_verdict.Goals as goal

pub returns : goal.returns
returns c =
    let us = c.args.units.now.units in
    let ns = c.args.names.now.units in
    let x = c.args.context.now in
    subst (IsVerdict (IsBrokenType us ns x)) (sym c.first_verdict.ensures)
    (verdict_join (Contains (broken_types us ns x)) (IsRecursion us x) c.types-wrong.result c.in_ok-back.back c.types-wrong.ensures c.in_ok-back.ensures)
