use Rattle.std.proofs.Common.{◌≡◌, drop}
use Rattle.std.specs.List.{flat_map}
use Rattle.fm_symbols.specs.ByName.{with_all}
use Rattle.fm_rules.specs.Sheets.{decl_shapes}
use Rattle.fm_names.specs.KeptSheets.{kept_array, with_values}
use Rattle.fm_names.proofs.sheet.add_shapes.Given as goal

abbrev pub invariant-decls : goal.invariant-decls
invariant-decls l = with_all l.arrays (with_values kept_array (flat_map (decl_shapes l.known l.at) (drop l.decl-index l.decls))) ≡ with_all l.fn.arrays (with_values kept_array (flat_map (decl_shapes l.known l.at) l.decls))
