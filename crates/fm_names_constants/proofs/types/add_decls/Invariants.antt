use Rattle.std.proofs.Common.{◌≡◌, drop, Some}
use Rattle.fm_symbols.specs.ByName.{with_all}
use Rattle.fm_rules.specs.NameTypes.{scalar_entries}
use Rattle.fm_names_constants.proofs.types.add_decls.Given as goal

abbrev pub invariant-decls : goal.invariant-decls
invariant-decls l = with_all l.declared (scalar_entries (Some l.scalar) (drop l.decl-index l.decls)) ≡ with_all l.fn.declared (scalar_entries (Some l.scalar) l.decls)
