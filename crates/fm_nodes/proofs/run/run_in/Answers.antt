use Rattle.std.proofs.Common.{ap, subst, ◌∙◌}
use Rattle.fm_nodes.specs.Nodes.{Hosted, IsHosted}
use Rattle.fm_nodes.specs.Ends.{EndsAs}
use Rattle.fm_nodes.proofs.Runs.{comes_to_run, goes_by_links, over_at}
use Rattle.fm_nodes.proofs.run.run_in.Goals as goal

pub returns-clause-run : goal.returns-clause-run
returns-clause-run c =
    let h = c.args.playing.hosted in
    let same = c.into_nodes-nodes.ensures.hosted in
    comes_to_run h c.args.playing.turns (subst IsHosted same c.is_played.ensures) c.into_nodes-nodes.ensures.within c.args.driven
    (over_at h c.args.playing.turns c.args.driven c.requires.ended c.requires.spent) _
    (c.into_parts-history.ensures.history ∙ ap (λ (a : Hosted). a.run.history) same) (c.into_parts-history.ensures.paths ∙ ap (λ (a : Hosted). a.run.order) same)
    (subst (λ (a : Hosted). EndsAs a c.args.driven c.in_ok-ending.ending) same c.in_ok-ending.ensures)

pub returns-clause-links : goal.returns-clause-links
returns-clause-links c =
    let same = c.into_nodes-nodes.ensures.hosted in
    goes_by_links c.args.playing.hosted c.args.playing.turns (subst IsHosted same c.is_played.ensures) c.into_nodes-nodes.ensures.within _
    (c.into_parts-history.ensures.history ∙ ap (λ (a : Hosted). a.run.history) same) (c.into_parts-history.ensures.paths ∙ ap (λ (a : Hosted). a.run.order) same)
