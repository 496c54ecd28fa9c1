use Rattle.std.proofs.Common.{ap, ◌∙◌}
use Rattle.fm_rules.specs.Flags.{both}
use Rattle.fm_rules.specs.TypeStatements.{port_flags}
use Rattle.fm_types.proofs.Places.{any_from_none, flags_more}
use Rattle.fm_types.proofs.parts.any_port_flags.Goals as goal

pub loop-variable-init : goal.loop-variable-init
loop-variable-init c = any_from_none (port_flags c.args.context.now c.args.scope.now) c.no_flags-flags.result c.args.variables.now c.no_flags-flags.ensures

pub loop-variable-preserved : goal.loop-variable-preserved
loop-variable-preserved c =
    flags_more (port_flags c.args.context.now c.args.scope.now) c.args.variables.now c.loop-variable.variable-index c.variable-item.result c.loop-variable.flags c.both-flags.result _
    c.loop-variable-test.true c.variable-item.is (c.both-flags.ensures ∙ ap (both c.loop-variable.flags) c.port_flags.ensures) c.loop-variable.invariant
