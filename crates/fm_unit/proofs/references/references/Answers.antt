use Rattle.std.proofs.Common.{List, ℕ, ◌++◌, ap, ◌∙◌}
use Rattle.fm_tree.specs.References.{applied_in, places_where}
use Rattle.fm_unit.specs.declared.references.Finding.{Finding}
use Rattle.fm_rules.specs.UnitTitles.{is_function_named}
use Rattle.fm_unit.proofs.Applied.{places_found}
use Rattle.fm_unit.proofs.references.references.Goals as goal

pub returns : goal.returns
returns c =
    let names = applied_in c.args.stmt.now in
    ap (λ (found : Finding). found.places) c.in_ok-visit_applied.ensures
    ∙ places_found (record { titles = c.args.titles; next = 0; places = c.new.result }) names
    ∙ ap (λ (places : List ℕ). places ++ places_where (is_function_named c.args.titles.now) 0 names) c.new.ensures
