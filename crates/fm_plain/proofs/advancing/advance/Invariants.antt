use Rattle.std.proofs.Common.{◌≡◌, ◌≤◌, ◌*◌, Some}
use Rattle.fm_plain_frame.specs.Frames.{proc_of}
use Rattle.fm_plain.specs.Advance.{local_steps}
use Rattle.fm_plain.proofs.advancing.advance.Given as goal

abbrev pub invariant-steps : goal.invariant-steps
invariant-steps l = record {
  made : local_steps l.program l.steps (proc_of l.program l.fn.process) ≡ Some (proc_of l.program l.process, l.cost);
  small : l.cost ≤ 4294967295 * l.steps;
}
