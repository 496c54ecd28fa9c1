-- Processes: frames of units one on another, with values, trip counts, results, and starts that wait.
-- Source: the Fortran M report (processes, port variables), with this profile's atomic step.
use Rattle.std.specs.Prelude.{ℕ, ℤ, Bool, true, false, List, [], ◌++◌}
use Rattle.std.specs.List.{flat_map}
use Rattle.std.specs.FinMap.{FinMap}
use Rattle.std.specs.Ordering.{nat_cmp}
use Rattle.fm_base.specs.declared.fault.Fault.{Fault}
use Rattle.fm_base.specs.declared.port.PortValue.{PortValue}
use Rattle.fm_base.specs.declared.schedule.Machine.{Machine}
use Rattle.fm_base.specs.Channels.{Item, message_ports}
use Rattle.fm_mean.specs.declared.place.Back.{Back}

-- a process that starts with the block: its unit, the values with which its frame begins, what it gives
-- back in the end, and where it is put
pub record Start : Type 0 where
  pub unit : ℕ
  pub values : List Item
  pub backs : List Back
  pub machine : Machine
  pub node : ℕ

-- the trips that are left of a loop, and what is added to its variable, by the loop's entry
abbrev pub Loops : Type 0
Loops = FinMap nat_cmp (ℕ × ℤ)

-- a unit at work: the entry that it does next; one item for each of its variables; its loops; the
-- results of those references of this entry that are done; the starts of its open block; and what it
-- gives back to the frame below
pub record Frame : Type 0 where
  pub unit : ℕ
  pub entry : ℕ
  pub values : List Item
  pub loops : Loops
  pub results : List ℤ
  pub starts : List Start
  pub backs : List Back

-- what runs of a process: its frames, innermost first, on a node of its machine
pub record Execution : Type 0 where
  pub frames : List Frame
  pub machine : Machine
  pub node : ℕ

-- a child that is to be joined: its unit, and what it gives back
pub record Kid : Type 0 where
  pub unit : ℕ
  pub backs : List Back

-- whether a process runs, waits for the children of a block (with what each gives back), has ended, or
-- has faulted at a line
pub data Phase : Type 0 where
  Running : Phase
  Joining : (block : ℕ) → (kids : List Kid) → Phase
  Ended : Phase
  Faulted : (line : ℕ) → (fault : Fault) → Phase

-- what runs, its phase, its output, and the numbers of the block and of the channel that it makes next.
-- A process that has ended keeps its own frame alone
pub record Proc : Type 0 where
  pub phase : Phase
  pub execution : Execution
  pub lines : List (List ℕ)
  pub next_block : ℕ
  pub next_channel : ℕ

abbrev pub is_ended : Phase → Bool
is_ended Running = false
is_ended (Joining block kids) = false
is_ended Ended = true
is_ended (Faulted line fault) = false

abbrev pub has_ended : Proc → Bool
has_ended x = is_ended x.phase

-- the same with other frames
abbrev pub framed : Execution → List Frame → Execution
framed w fs = record w { frames = fs }

abbrev pub with_frames : Proc → List Frame → Proc
with_frames x fs = record x { execution = framed x.execution fs }

-- Ports: of all frames, in variables and in starts that wait.

abbrev pub started_ports : List Start → List PortValue
started_ports = flat_map (λ s. message_ports s.values)

abbrev pub frame_ports : Frame → List PortValue
frame_ports f = message_ports f.values ++ started_ports f.starts

abbrev pub frames_ports : List Frame → List PortValue
frames_ports = flat_map frame_ports

abbrev pub held : Proc → List PortValue
held x = frames_ports x.execution.frames

-- what stays of a child that was joined: its output
abbrev pub emptied : Proc → Proc
emptied x = with_frames x []
