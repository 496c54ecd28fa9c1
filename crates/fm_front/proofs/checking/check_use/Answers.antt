use Rattle.fm_front.proofs.Phases.{lawful, not_some, use_none, use_some}
use Rattle.fm_front.proofs.checking.check_use.Goals as goal

pub returns-in-Some-clause-refused : goal.returns-in-Some-clause-refused
returns-in-Some-clause-refused c =
    use_some c.args.units.units c.args.names.units c.in_ok-context.context c.in_ok-context.ensures c.in_ok-wrong.wrong c.in-Some.refusal c.in_ok-wrong.ensures c.in-Some.is

pub new-requires-clause-lawful : goal.new-requires-clause-lawful
new-requires-clause-lawful c =
    ∣ lawful c.args.units c.args.names c.requires
    (use_none c.args.units.units c.args.names.units c.in_ok-context.context c.in_ok-context.ensures c.in_ok-wrong.wrong c.in_ok-wrong.ensures (not_some c.in_ok-wrong.wrong c.in_default.not-Some)) ∣₁

pub returns-clause-clean : goal.returns-clause-clean
returns-clause-clean c =
    use_none c.args.units.units c.args.names.units c.in_ok-context.context c.in_ok-context.ensures c.in_ok-wrong.wrong c.in_ok-wrong.ensures (not_some c.in_ok-wrong.wrong c.in_default.not-Some)
