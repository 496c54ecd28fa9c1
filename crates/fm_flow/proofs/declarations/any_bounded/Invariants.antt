use Rattle.std.proofs.Common.{◌≡◌, drop}
use Rattle.fm_flow_law.specs.Flow.{any_bounded}
use Rattle.fm_flow.proofs.declarations.any_bounded.Given as goal

abbrev pub invariant-decls : goal.invariant-decls
invariant-decls l = any_bounded (drop l.decl-index l.decls) ≡ any_bounded l.decls
