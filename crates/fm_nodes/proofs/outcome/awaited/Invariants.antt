use Rattle.std.proofs.Common.{◌≡◌, ◌+◌, ◌-◌}
use Rattle.fm_mean.specs.Outcome.{awaited}
use Rattle.fm_plain_frame.specs.Frames.{proc_of}
use Rattle.fm_rules.specs.declared.program.Program.{Program}
use Rattle.fm_nodes_procs.specs.Processes.{procs_of}
use Rattle.fm_nodes.proofs.outcome.awaited.Given as goal

abbrev pub invariant-children : goal.invariant-children
invariant-children l = (p : Program) → awaited (procs_of (proc_of p) l.processes) l.path l.block 1 l.count ≡ awaited (procs_of (proc_of p) l.processes) l.path l.block (l.place + 1) (l.count - l.place)
