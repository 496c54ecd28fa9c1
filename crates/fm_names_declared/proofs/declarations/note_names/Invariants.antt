use Rattle.std.proofs.Common.{◌≡◌, drop}
use Rattle.fm_rules.specs.Declarations.{name_facts}
use Rattle.fm_names_declared.specs.Noted.{with_facts}
use Rattle.fm_names_declared.proofs.declarations.note_names.Given as goal

abbrev pub invariant-names : goal.invariant-names
invariant-names l =
    with_facts l.titles l.heading l.notes (name_facts l.line l.what (drop l.name-index l.names)) ≡ with_facts l.titles l.heading l.fn.notes (name_facts l.line l.what l.names)
