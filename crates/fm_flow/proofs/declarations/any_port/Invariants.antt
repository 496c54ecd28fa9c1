use Rattle.std.proofs.Common.{◌≡◌, drop}
use Rattle.fm_flow.specs.Walks.{any_key}
use Rattle.fm_flow.proofs.declarations.any_port.Given as goal

abbrev pub invariant-decls : goal.invariant-decls
invariant-decls l = any_key l.ports (drop l.decl-index l.decls) ≡ any_key l.ports l.decls
