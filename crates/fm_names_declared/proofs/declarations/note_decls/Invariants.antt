use Rattle.std.proofs.Common.{◌≡◌, drop}
use Rattle.fm_rules.specs.Declarations.{decl_facts}
use Rattle.fm_names_declared.specs.Noted.{with_facts}
use Rattle.fm_names_declared.proofs.declarations.note_decls.Given as goal

abbrev pub invariant-decls : goal.invariant-decls
invariant-decls l =
    with_facts l.titles l.heading l.notes (decl_facts l.line l.what (drop l.decl-index l.decls)) ≡ with_facts l.titles l.heading l.fn.notes (decl_facts l.line l.what l.decls)
