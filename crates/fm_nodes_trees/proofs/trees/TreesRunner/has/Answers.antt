use Rattle.std.proofs.Common.{◌≡◌, subst}
use Rattle.std.specs.Prelude.{nat_lt}
use Rattle.fm_net.specs.Owned.{count}
use Rattle.fm_rules.specs.declared.program.Program.{Program}
use Rattle.fm_mean.specs.Process.{held}
use Rattle.fm_plain_frame.specs.Frames.{proc_of}
use Rattle.fm_nodes_trees.proofs.trees.TreesRunner.has.Goals as goal

pub returns : goal.returns
returns c = subst (λ (p : Program). c.holds.result ≡ nat_lt 0 (count c.args.port.now (held (proc_of p c.args.process.now)))) c.deref.ensures c.holds.ensures
