-- Processes in memory as those of the language of stack code.
-- Source: this profile.
use Rattle.std.specs.Prelude.{Box, map}
use Rattle.std.specs.declared.alloc.Global.{Global}
use Rattle.fm_proc_language.specs.Processes as code
use Rattle.fm_proc_language.specs.Processes.{CodeProc}
use Rattle.fm_proc_events.specs.declared.process.Kid.{Kid}
use Rattle.fm_proc_events.specs.declared.process.Phase.{Phase}
use Rattle.fm_proc_events.specs.declared.process.Phase.TheVariants as phase
use Rattle.fm_proc_events.specs.declared.process.Process.{Process}

abbrev pub kid_of : Kid → code.Kid
kid_of k = record { unit = k.unit; backs = k.backs }

abbrev pub phase_of : Phase → code.Phase
phase_of phase.Running = code.Running
phase_of (phase.Joining block kids) = code.Joining block (map kid_of kids)
phase_of phase.Ended = code.Ended
phase_of (phase.Faulted line fault) = code.Faulted line.0 fault

abbrev pub proc_of : Process → CodeProc
proc_of y = record {
  phase = phase_of y.phase;
  body = y.body;
  slots = y.slots;
  lines = y.lines;
  next_block = y.next_block;
  next_channel = y.next_channel;
}

-- one in a box of its own
abbrev pub boxed_of : Box Process Global → CodeProc
boxed_of b = proc_of b.value
