use Rattle.std.proofs.Common.{◌≡◌, map, drop}
use Rattle.fm_rules.specs.Declarations.{constant_fact}
use Rattle.fm_names_declared.specs.Noted.{with_facts}
use Rattle.fm_names_declared.proofs.declarations.note_constants.Given as goal

abbrev pub invariant-constants : goal.invariant-constants
invariant-constants l =
    with_facts l.titles l.heading l.notes (map (constant_fact l.line) (drop l.constant-index l.constants)) ≡ with_facts l.titles l.heading l.fn.notes (map (constant_fact l.line) l.constants)
