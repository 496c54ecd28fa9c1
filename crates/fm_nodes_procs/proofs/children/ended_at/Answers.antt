use Rattle.std.proofs.Common.{None, sym, ap, ◌∙◌}
use Rattle.fm_nodes_procs.specs.Children.{is_over}
use Rattle.fm_nodes_procs.proofs.Kept.{low}
use Rattle.fm_nodes_procs.proofs.Procs.{there}
use Rattle.fm_nodes_procs.proofs.children.ended_at.Goals as goal

pub is_over-requires : goal.is_over-requires
is_over-requires g c = low _ _ _ c.in-Some.ensures.there

pub returns-then-is_over-clause-over : goal.returns-then-is_over-clause-over
returns-then-is_over-clause-over g c = sym (c.is_over.ensures c.args.path.now c.in-Some.ensures.there) ∙ c.if-is_over.true

pub returns-else-is_over-clause-none : goal.returns-else-is_over-clause-none
returns-else-is_over-clause-none g c = sym (c.is_over.ensures c.args.path.now c.in-Some.ensures.there) ∙ c.if-is_over.false

pub returns-in-None-clause-none : goal.returns-in-None-clause-none
returns-in-None-clause-none g c = ap (is_over (g.R.Runner.language c.args.runner.now).has_ended) (there (g.R.Runner.seen c.args.runner.now) c.args.processes.now c.args.path.now None (sym c.in-None.ensures.none))
