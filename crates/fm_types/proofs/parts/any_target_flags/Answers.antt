use Rattle.std.proofs.Common.{ap, ◌∙◌}
use Rattle.fm_rules.specs.Flags.{both}
use Rattle.fm_rules.specs.TypeStatements.{target_flags}
use Rattle.fm_types.proofs.Places.{any_from_none, flags_more}
use Rattle.fm_types.proofs.parts.any_target_flags.Goals as goal

pub loop-item-init : goal.loop-item-init
loop-item-init c = any_from_none (target_flags c.args.context.now c.args.scope.now) c.no_flags-flags.result c.args.items.now c.no_flags-flags.ensures

pub loop-item-preserved : goal.loop-item-preserved
loop-item-preserved c =
    flags_more (target_flags c.args.context.now c.args.scope.now) c.args.items.now c.loop-item.item-index c.item-item.result c.loop-item.flags c.both-flags.result _
    c.loop-item-test.true c.item-item.is (c.both-flags.ensures ∙ ap (both c.loop-item.flags) c.target_flags.ensures) c.loop-item.invariant
