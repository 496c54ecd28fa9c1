use Rattle.std.proofs.Common.{ap, ◌∙◌}
use Rattle.fm_rules.specs.Flags.{both}
use Rattle.fm_rules.specs.TypeStatements.{extra_flags}
use Rattle.fm_types.proofs.Places.{any_from_none, flags_more}
use Rattle.fm_types.proofs.parts.any_extra_flags.Goals as goal

pub loop-extra-init : goal.loop-extra-init
loop-extra-init c = any_from_none (extra_flags c.args.context.now c.args.scope.now) c.no_flags-flags.result c.args.extras.now c.no_flags-flags.ensures

pub loop-extra-preserved : goal.loop-extra-preserved
loop-extra-preserved c =
    flags_more (extra_flags c.args.context.now c.args.scope.now) c.args.extras.now c.loop-extra.extra-index c.extra-item.result c.loop-extra.flags c.both-flags.result _
    c.loop-extra-test.true c.extra-item.is (c.both-flags.ensures ∙ ap (both c.loop-extra.flags) c.extra_flags.ensures) c.loop-extra.invariant
