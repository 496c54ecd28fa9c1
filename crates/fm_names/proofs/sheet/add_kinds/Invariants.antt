use Rattle.std.proofs.Common.{◌≡◌, drop}
use Rattle.std.specs.Prelude.{Some}
use Rattle.fm_symbols.specs.ByName.{with_all}
use Rattle.fm_rules.specs.Sheets.{kind_entries}
use Rattle.fm_names.proofs.sheet.add_kinds.Given as goal

abbrev pub invariant-decls : goal.invariant-decls
invariant-decls l = with_all l.kinds (kind_entries (Some l.kind) (drop l.decl-index l.decls)) ≡ with_all l.fn.kinds (kind_entries (Some l.kind) l.decls)
