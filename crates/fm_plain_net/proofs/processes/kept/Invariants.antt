use Rattle.std.proofs.Common.{◌≡◌, map}
use Rattle.fm_rules.specs.declared.program.Program.{Program}
use Rattle.fm_plain_frame.specs.Frames.{proc_of}
use Rattle.fm_plain_net.specs.Readings.{tree_of}
use Rattle.fm_plain_net.proofs.processes.kept.Given as goal

-- those so far
abbrev pub invariant-children : goal.invariant-children
invariant-children l = (p : Program) → map (tree_of p) l.all.items ≡ map (proc_of p) l.yielded
