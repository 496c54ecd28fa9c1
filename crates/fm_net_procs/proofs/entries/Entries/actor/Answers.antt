use Rattle.std.proofs.Common.{Some, ap, sym, ◌∙◌}
use Rattle.fm_net_procs.proofs.entries.Entries.actor.Goals as goal

pub returns-clause-actor : goal.returns-clause-actor
returns-clause-actor g c = sym c.in-Some.ensures ∙ ap Some (sym c.in_ok-path-in-Some.ensures)
