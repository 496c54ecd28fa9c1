use Rattle.std.proofs.Common.{ap, ◌∙◌}
use Rattle.fm_rules.specs.Flags.{both}
use Rattle.fm_rules.specs.TypeStatements.{integer_flags}
use Rattle.fm_types.proofs.Places.{any_from_none, flags_more}
use Rattle.fm_types.proofs.parts.any_integer_flags.Goals as goal

pub loop-expr-init : goal.loop-expr-init
loop-expr-init c = any_from_none (integer_flags c.args.context.now c.args.scope.now) c.no_flags-flags.result c.args.exprs.now c.no_flags-flags.ensures

pub loop-expr-preserved : goal.loop-expr-preserved
loop-expr-preserved c =
    flags_more (integer_flags c.args.context.now c.args.scope.now) c.args.exprs.now c.loop-expr.expr-index c.expr-item.result c.loop-expr.flags c.both-flags.result _
    c.loop-expr-test.true c.expr-item.is (c.both-flags.ensures ∙ ap (both c.loop-expr.flags) c.integer_flags.ensures) c.loop-expr.invariant
