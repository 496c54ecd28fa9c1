-- A process in memory as the meaning's process.
-- Source: this profile.
use Rattle.std.specs.Prelude.{ℕ, suc, ℤ, Bool, true, false, Option, Some, None, List, ◌++◌, map, option_map, reverse, option_to_list}
use Rattle.std.specs.BTreeMap.{BTreeMap}
use Rattle.std.specs.Ordering.{nat_cmp}
use Rattle.fm_finmap.specs.Map.{map_of, map_values}
use Rattle.fm_rules.specs.declared.program.Program.{Program}
use Rattle.fm_mean.specs.Process as mean
use Rattle.fm_mean.specs.Fits.{variables_of}
use Rattle.fm_plain_frame.specs.Memory.{values_of}
use Rattle.fm_plain_frame.specs.declared.frame.Start.{Start}
use Rattle.fm_plain_frame.specs.declared.frame.Frame.{Frame}
use Rattle.fm_plain_frame.specs.declared.frame.Trips.{Trips}
use Rattle.fm_plain_frame.specs.declared.process.Kid.{Kid}
use Rattle.fm_plain_frame.specs.declared.process.Phase.{Phase}
use Rattle.fm_plain_frame.specs.declared.process.Phase.TheVariants.{Running, Joining, Ended, Faulted}
use Rattle.fm_plain_frame.specs.declared.process.PlainProc.{PlainProc}

-- the trips that are left, of which the last is kept apart
abbrev pub trips_left : Option ℕ → ℕ
trips_left None = 0
trips_left (Some n) = suc n

abbrev pub trips_of : Trips → ℕ × ℤ
trips_of t = (trips_left t.behind, t.by)

-- the loops by the entries that open them
abbrev pub loops_of : BTreeMap ℕ Trips → mean.Loops
loops_of m = map_values trips_of (map_of nat_cmp m.entries)

abbrev pub start_of : Program → Start → mean.Start
start_of p s = record { unit = s.unit; values = values_of (variables_of p s.unit) s.memory.items; backs = s.backs; machine = s.machine; node = s.node }

abbrev pub frame_of : Program → Frame → mean.Frame
frame_of p f = record {
  unit = f.unit;
  entry = f.entry;
  values = values_of (variables_of p f.unit) f.memory.items;
  loops = loops_of f.loops;
  results = f.results.items;
  starts = map (start_of p) f.starts.items;
  backs = f.backs;
}

-- the innermost frame is kept apart, the others with the outermost first
abbrev pub frames_of : Program → Option Frame → List Frame → List mean.Frame
frames_of p top below = option_to_list (option_map (frame_of p) top) ++ reverse (map (frame_of p) below)

abbrev pub execution_of : Program → PlainProc → mean.Execution
execution_of p x = record { frames = frames_of p x.top x.below.items; machine = x.machine; node = x.node }

abbrev pub kid_of : Kid → mean.Kid
kid_of k = record { unit = k.unit; backs = k.backs }

abbrev pub phase_of : Phase → mean.Phase
phase_of Running = mean.Running
phase_of (Joining block kids) = mean.Joining block (map kid_of kids)
phase_of Ended = mean.Ended
phase_of (Faulted line fault) = mean.Faulted line.0 fault

abbrev pub proc_of : Program → PlainProc → mean.Proc
proc_of p x = record { phase = phase_of x.phase; execution = execution_of p x; lines = x.lines.items; next_block = x.next_block; next_channel = x.next_channel }

-- whether it does statements
abbrev pub is_running : mean.Phase → Bool
is_running mean.Running = true
is_running (mean.Joining block kids) = false
is_running mean.Ended = false
is_running (mean.Faulted line fault) = false
