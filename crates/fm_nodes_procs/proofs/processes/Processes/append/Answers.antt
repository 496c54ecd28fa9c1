use Rattle.std.proofs.Common.{ap, ap₂, ◌∙◌}
use Rattle.fm_finmap.specs.Rows.{numbered_map}
use Rattle.fm_nodes_procs.specs.Processes.{rows_in}
use Rattle.fm_nodes_procs.proofs.Kept.{rows_more}
use Rattle.fm_nodes_procs.proofs.processes.Processes.append.Goals as goal

pub returns-clause-map : goal.returns-clause-map
returns-clause-map g c =
    ap numbered_map (ap₂ rows_in (rw c.in-Ok.is at c.append.ensures.items) (rw c.in-Ok-append.is at c.append-2.ensures.items)
    ∙ rows_more c.args.self.now.paths.items c.args.self.now.values.items c.args.self.now.rows c.args.paths.items c.args.values.items c.requires.each)
