use Rattle.std.proofs.Common.{ap, ◌∙◌}
use Rattle.fm_rules.specs.Flags.{both}
use Rattle.fm_rules.specs.TypeStatements.{declaration_flags}
use Rattle.fm_types.proofs.Places.{any_from_none, flags_more}
use Rattle.fm_types.proofs.parts.any_declaration_flags.Goals as goal

pub loop-declaration-init : goal.loop-declaration-init
loop-declaration-init c = any_from_none (declaration_flags c.args.context.now c.args.scope.now c.args.scalar) c.no_flags-flags.result c.args.declarations.now c.no_flags-flags.ensures

pub loop-declaration-preserved : goal.loop-declaration-preserved
loop-declaration-preserved c =
    flags_more (declaration_flags c.args.context.now c.args.scope.now c.args.scalar) c.args.declarations.now c.loop-declaration.declaration-index c.declaration-item.result c.loop-declaration.flags c.both-flags.result _
    c.loop-declaration-test.true c.declaration-item.is (c.both-flags.ensures ∙ ap (both c.loop-declaration.flags) c.declaration_flags-more.ensures) c.loop-declaration.invariant
