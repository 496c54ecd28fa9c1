use Rattle.std.proofs.Common.{ap}
use Rattle.fm_base.specs.PathOrder.{path_cmp}
use Rattle.fm_finmap.proofs.Maps.{map_of-nil}
use Rattle.fm_finmap.specs.Rows.{places}
use Rattle.fm_net_procs.proofs.Families.{families_none}
use Rattle.fm_net_procs.proofs.Maps.{none_yet, told_none}
use Rattle.fm_net_procs.proofs.entries.Entries.new.Goals as goal

pub returns-clause-processes : goal.returns-clause-processes
returns-clause-processes g c = λ p. none_yet (g.P.Proc.seen p) (record { rows = c.new.result }) (map_of-nil path_cmp c.new.result c.new.ensures)

pub returns-clause-order : goal.returns-clause-order
returns-clause-order g c = ap places c.new.ensures

pub returns-clause-told : goal.returns-clause-told
returns-clause-told g c = λ p. told_none (g.P.Proc.seen p) (g.P.Proc.IsNext p) (record { rows = c.new.result }) (map_of-nil path_cmp c.new.result c.new.ensures)

pub returns-clause-families : goal.returns-clause-families
returns-clause-families g c = λ p. families_none (g.P.Proc.seen p) g.P.Proc.awaits (record { rows = c.new.result }) (map_of-nil path_cmp c.new.result c.new.ensures)
