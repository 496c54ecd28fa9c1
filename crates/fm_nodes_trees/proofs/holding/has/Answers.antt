use Rattle.std.proofs.Common.{Option, [], ◌∷◌, sym, ap, ◌∙◌}
use Rattle.std.specs.Option.{option_copied}
use Rattle.fm_base.specs.declared.port.PortValue.{PortValue}
use Rattle.fm_mean.specs.Places.{live}
use Rattle.fm_nodes_trees.proofs.HoldLaws.{among, among_none, among_one}
use Rattle.fm_nodes_trees.proofs.holding.has.Goals as goal

pub returns-in-Some : goal.returns-in-Some
returns-in-Some c =
    let z = c.args.port.now in
    c.is_port.ensures ∙ sym (among_one z c.in-Some.held.now) ∙ ap (λ (o : Option PortValue). among z (live (o ∷ []))) (ap option_copied (sym c.in-Some.is) ∙ c.port.ensures)

pub returns-in-None : goal.returns-in-None
returns-in-None c =
    let z = c.args.port.now in
    sym (among_none z) ∙ ap (λ (o : Option PortValue). among z (live (o ∷ []))) (ap option_copied (sym c.in-None.is) ∙ c.port.ensures)
