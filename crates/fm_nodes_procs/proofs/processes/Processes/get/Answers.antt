use Rattle.std.proofs.Common.{arith}
use Rattle.fm_nodes_procs.proofs.Kept.{read_there}
use Rattle.fm_nodes_procs.proofs.processes.Processes.get.Goals as goal

pub index-requires : goal.index-requires
index-requires g c = omega (arith, c.requires, c.args.self.now.rows.each, c.args.self.now.values.ok.0)

pub returns : goal.returns
returns g c = λ p at. read_there c.args.self.now.paths.items c.args.self.now.values.items c.args.self.now.rows c.args.number p c.index.result.now at c.index.ensures
