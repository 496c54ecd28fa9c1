use Rattle.std.proofs.Common.{◌≡◌, drop}
use Rattle.std.specs.List.{flat_map}
use Rattle.fm_rules.specs.Declarations.{facts_in}
use Rattle.fm_names_declared.specs.Noted.{with_facts}
use Rattle.fm_names_declared.proofs.declarations.note_specs.Given as goal

abbrev pub invariant-specs : goal.invariant-specs
invariant-specs l =
    with_facts l.titles l.heading l.notes (flat_map facts_in (drop l.placed-index l.specs)) ≡ with_facts l.titles l.heading l.fn.notes (flat_map facts_in l.specs)
