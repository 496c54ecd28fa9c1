use Rattle.std.proofs.Common.{◌≡◌, drop}
use Rattle.std.specs.List.{flat_map}
use Rattle.fm_rules.specs.Declarations.{dimension_facts}
use Rattle.fm_names_declared.specs.Noted.{with_facts}
use Rattle.fm_names_declared.proofs.declarations.note_dimensions.Given as goal

abbrev pub invariant-decls : goal.invariant-decls
invariant-decls l =
    with_facts l.titles l.heading l.notes (flat_map (dimension_facts l.line) (drop l.decl-index l.decls)) ≡ with_facts l.titles l.heading l.fn.notes (flat_map (dimension_facts l.line) l.decls)
