-- The processes in memory as what the kept schedule leads to.
-- Source: this profile.
use Rattle.std.specs.Prelude.{◌≡◌, ◌⊎◌, ℕ, ◌+◌, ◌<◌, ◌≤◌, true, false, is_some, IfSome, List, [], ◌++◌, drop, length, map, slice_get, slice_index_or}
use Rattle.fm_base.specs.declared.schedule.Setup.{Setup}
use Rattle.fm_base.specs.declared.schedule.Turn.{Turn}
use Rattle.fm_sched.specs.Schedule.{IsLegal}
use Rattle.fm_net.specs.Machine.{Place}
use Rattle.fm_rules.specs.declared.program.Program.{Program}
use Rattle.fm_mean.specs.Machines.{main_nodes}
use Rattle.fm_mean.specs.Steps.{step}
use Rattle.fm_machine.specs.declared.done.Done.{Done}
use Rattle.fm_procs.specs.Readings.{order_of}
use Rattle.fm_run.specs.Entries.{turn_of}
use Rattle.fm_run.specs.Orders.{Among, EachOnce, others_in, places_of}
use Rattle.fm_run.specs.Programs.{AreAble, IsEntry, IsFrontWithin, IsFull, IsPlayed, IsPlayedBy, Stand, can_at, play_of, ready_after}
use Rattle.fm_run.specs.Runs.{place_of, stand_at, steps_of}
use Rattle.fm_run.specs.declared.orders.Queue.{Queue}
use Rattle.fm_run.specs.declared.player.Player.{Player}
use Rattle.fm_run_code.specs.Played.{played}
use Rattle.fm_run_code.specs.Sound as nets
use Rattle.fm_run_code.specs.declared.net.CodeNet.{CodeNet}
use Rattle.fm_proc_simulation.specs.Corresponds as meaning
use Rattle.fm_proc_simulation.specs.Corresponds.{Corresponds}
use Rattle.fm_table.specs.Planned.{mapped}
use Rattle.fm_table.specs.Told.{HaveStarts, Out, Told, cost_by, cost_of, has_some, numbers_out, stand_of, stand_with, with_entry}
use Rattle.fm_table.specs.declared.outside.Taken.{Taken}
use Rattle.fm_table.specs.declared.programs.Programs.{Programs}
use Rattle.fm_table.specs.declared.shares.Shares.{Shares}
use Rattle.fm_table.specs.declared.standing.Standing.{Standing}
use Rattle.fm_table.specs.declared.making.Way.{Way}
use Rattle.fm_table.specs.declared.making.Way.TheVariants as way

-- the processes and channels of a program's code, and the pieces that they made
abbrev pub Compiled : Type 0
Compiled = CodeNet Programs

-- they stand for those of the state of the meaning to which the pieces lead
abbrev pub IsSound : Program → Compiled → Type 0
IsSound program net = nets.IsSound (play_of program) (Corresponds program) (meaning.IsLive program) net.stacks net.history

-- where the processes in memory stand
abbrev pub stand_in : Program → Player Compiled → Stand
stand_in program player =
    let places = order_of player.net.stacks.entries in
    stand_at (played (play_of program) player.net.history places) places player.able.numbers.items

-- they stand where the schedule leads
pub record IsLive (program : Program) (player : Player Compiled) : Type 0 where
  pub sound : IsSound program player.net
  pub played : IsPlayed program (stand_in program player) player.net.stacks.channels player.net.history player.parents.items player.able.marks.items player.used
  pub stand_is : stand_in program player ≡ stand_with program player.net.history player.able.numbers.items

-- an entry more was made in memory
pub record HasMade (program : Program) (t : Turn) (old new : Player Compiled) : Type 0 where
  pub entry : IsEntry program t (stand_in program old).state (stand_in program old).places old.net.history (stand_in program new).state (stand_in program new).places new.net.history
  pub able : (stand_in program new).able ≡ ready_after program (stand_in program new).state (stand_in program new).places (stand_in program old).able t.number
  pub known : is_some (slice_get (stand_in program old).places t.number) ≡ true
  pub some_steps : 1 ≤ t.steps
  pub front : (turns : ℕ) → old.used ≤ turns → IsFrontWithin program turns new.net.history (stand_in program new).places
  pub used : old.used < new.used

-- the steps of a slice that was made outside, and one more where that isn't local and the process can make it
abbrev pub IsGivenSo : Program → Done → (a : Stand) → (number steps : ℕ) → Type 0
IsGivenSo program done a number steps = ((steps ≡ done.steps) ⊎ (steps ≡ done.steps + 1)) × IsFull program done.steps true a.state (place_of a.places (turn_of number steps)) steps

-- what is so of the steps of a process, by how they are asked for: a full piece; so many, or fewer, behind which it can't step; or as
-- a slice gives them that was made outside
abbrev pub MakesSo : Way → Program → (a b : Stand) → (number steps : ℕ) → Type 0
MakesSo (way.Slice slice) program a b number steps = IsFull program slice true a.state (place_of a.places (turn_of number steps)) steps
MakesSo (way.Steps most) program a b number steps = (steps ≤ most) × (steps < most → can_at program b.state b.places number ≡ false)
MakesSo (way.Given done) program a b number steps = IsGivenSo program done.now a number steps

-- at least one step is asked for, or what came of a slice
abbrev pub IsAsked : Way → Type 0
IsAsked (way.Slice slice) = 1 ≤ slice
IsAsked (way.Steps most) = 1 ≤ most
IsAsked (way.Given done) = Unit {0}

-- where the schedule leads that stands in memory
abbrev pub stand_kept : Program → Standing → Stand
stand_kept program s = stand_with program s.player.net.history s.player.able.numbers.items

-- the schedule is one of the program; those that can step are in the queue; the processes in memory, if they are there, stand where it
-- leads; the paths are those of the first processes, and of all where these aren't there; and the rest is told of where it leads
pub record IsStanding (program : Program) (s : Standing) : Type 0 where
  pub live : s.is_live ≡ true → IsLive program s.player
  pub played : IsPlayedBy program s.player.net.history (stand_kept program s).places (stand_kept program s).state (cost_by program s.player.net.history)
  pub able : AreAble program (stand_kept program s).state (stand_kept program s).places s.player.able.numbers.items
  pub paths_first : (more : List Place) × ((stand_kept program s).places ≡ places_of s.paths.items ++ more)
  pub paths_whole : s.is_live ≡ false → places_of s.paths.items ≡ (stand_kept program s).places
  pub paid_is : s.used ≡ cost_by program s.player.net.history
  pub ready_is : s.is_ready ≡ has_some s.player.able.numbers.items

-- the schedule and the queue are as they were
pub record IsAsItWas (old new : Standing) : Type 0 where
  pub history : new.player.net.history ≡ old.player.net.history
  pub queue : new.player.able.numbers.items ≡ old.player.able.numbers.items

-- an entry more was made
pub record HasEntered (program : Program) (t : Turn) (old new : Standing) : Type 0 where
  pub entry : IsEntry program t (stand_kept program old).state (stand_kept program old).places old.player.net.history (stand_kept program new).state (stand_kept program new).places new.player.net.history
  pub queue : new.player.able.numbers.items ≡ ready_after program (stand_kept program new).state (stand_kept program new).places old.player.able.numbers.items t.number
  pub known : is_some (slice_get (stand_kept program old).places t.number) ≡ true
  pub some_steps : 1 ≤ t.steps
  pub front : (turns : ℕ) → old.used ≤ turns → IsFrontWithin program turns new.player.net.history (stand_kept program new).places
  pub used : old.used < new.used

abbrev pub out_of : Taken → Out
out_of t = record { number = t.number; start = t.start.value }

abbrev pub outs_of : List Taken → List Out
outs_of = map out_of

-- what is told of what stands in memory
abbrev pub told_in : Program → Setup → Standing → List Out → Told
told_in program setup s out = record { program = program; setup = setup; history = s.player.net.history; queue = s.player.able.numbers.items; out = out }

-- the processes of a program in memory, whose main has so many nodes
abbrev pub IsLiveOn : (nodes : ℕ) → Player Compiled → Type 0
IsLiveOn nodes player = (p : Program) × IsLive p player × (nodes ≡ main_nodes p)

-- what each worker has
abbrev pub shares_of : List Queue → List (List ℕ)
shares_of = map (λ q. q.numbers.items)

-- each of the workers has those of the queue that the plan maps to it, in their order
pub record AreShares (program : Program) (setup : Setup) (a : Stand) (shares : List (List ℕ)) : Type 0 where
  pub many : length shares ≡ setup.workers
  pub each : (w : ℕ) → w < setup.workers → slice_index_or shares w [] ≡ mapped program setup a w a.able

-- the nodes are those of main, and what the workers have, where it is kept, is what the plan says
pub record HasShares (program : Program) (setup : Setup) (a : Stand) (x : Shares) : Type 0 where
  pub nodes_are : x.nodes ≡ main_nodes program
  pub lists_are : IfSome x.lists (λ lists. AreShares program setup a (shares_of lists.items))

-- and so without the process of this number
pub record HaveLeft (program : Program) (setup : Setup) (a : Stand) (number : ℕ) (shares : List (List ℕ)) : Type 0 where
  pub many : length shares ≡ setup.workers
  pub each : (w : ℕ) → w < setup.workers → slice_index_or shares w [] ≡ others_in number (mapped program setup a w a.able)

-- behind an entry of a process what each worker has is what it had without this process, and what of the queue comes to it from a place on
abbrev pub AreBehind : Program → Setup → (a b : Stand) → (number from : ℕ) → Type 0
AreBehind program setup a b number from = (w : ℕ) → mapped program setup b w b.able ≡ others_in number (mapped program setup a w a.able) ++ mapped program setup b w (drop from b.able)

-- what a table keeps
pub record IsTable (program : Program) (setup : Setup) (s : Standing) (out : List Out) (shares : Shares) : Type 0 where
  pub standing : IsStanding program s
  pub front : IsFrontWithin program setup.turns s.player.net.history (stand_kept program s).places
  pub out_able : (n : ℕ) → Among n (numbers_out out) → Among n s.player.able.numbers.items
  pub out_once : EachOnce (numbers_out out)
  pub out_start : HaveStarts program (stand_kept program s) out
  pub shared : HasShares program setup (stand_kept program s) shares

-- so many steps of a process were made, as they were asked for, and are an entry
pub record EntersTo (w : Way) (number steps : ℕ) (a b : Told) : Type 0 where
  pub known : is_some (slice_get (stand_of a).places number) ≡ true
  pub can : IsLegal (step a.program) (stand_of a).state (steps_of (stand_of a).places (turn_of number steps))
  pub so : MakesSo w a.program (stand_of a) (stand_of b) number steps
  pub used : cost_of a < cost_of b
  pub told : b ≡ with_entry a (turn_of number steps)
