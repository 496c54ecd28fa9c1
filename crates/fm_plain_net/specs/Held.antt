-- The ports that processes hold are kept, each under its value.
-- Source: this profile.
use Rattle.std.specs.Prelude.{◌≡◌, ◌⊎◌, ◌≤◌, ℕ, Some, List, ◌++◌}
use Rattle.fm_base.specs.declared.path.ChanName.{ChanName}
use Rattle.fm_base.specs.declared.port.PortValue.{PortValue}
use Rattle.fm_base.specs.Channels.{ChannelOp}
use Rattle.fm_finmap.specs.Sums.{total}
use Rattle.fm_sched.specs.Schedule.{IsReached}
use Rattle.fm_net.specs.Machine.{Place, Procs, State, Need, Event, Reply, Onward, made}
use Rattle.fm_net.specs.Lawful.{holds, port_of, got, given_by, made_by}
use Rattle.fm_net.specs.Owned.{count}
use Rattle.fm_rules.specs.declared.program.Program.{Program}
use Rattle.fm_net_procs.specs.Kept as table
use Rattle.fm_mean.specs.Process.{Phase, Proc}
use Rattle.fm_mean.specs.Steps.{first, language, step}
use Rattle.fm_plain.specs.Looking.{IsNext}
use Rattle.fm_plain_net.specs.declared.ports.Ports.{Ports}
use Rattle.fm_run.specs.Awaited.{awaited_in, awaits}
use Rattle.fm_plain_net.specs.Readings.{Processes, Trees, kept, state_of, tree_of}

-- the port is kept under its value
abbrev pub IsKept : Ports → PortValue → Type 0
IsKept ports z = kept ports z ≡ Some z

-- the ports of the list are kept
abbrev pub AreKept : Ports → List PortValue → Type 0
AreKept ports zs = (z : PortValue) → 1 ≤ count z zs → IsKept ports z

-- no port is in the list twice
abbrev pub AreOnce : List PortValue → Type 0
AreOnce zs = (z : PortValue) → count z zs ≤ 1

-- other ports than these are kept as before
abbrev pub StayBut : List PortValue → (old new : Ports) → Type 0
StayBut zs old new = (z : PortValue) → count z zs ≡ 0 → IsKept old z → IsKept new z

-- all ports are kept as before
abbrev pub Stay : (old new : Ports) → Type 0
Stay old new = (z : PortValue) → IsKept old z → IsKept new z

-- what came is kept besides what was kept, and what left isn't spoken of
abbrev pub Carries : (came left : List PortValue) → (old new : Ports) → Type 0
Carries came left old new = (z : PortValue) → count z left ≡ 0 → IsKept old z ⊎ (1 ≤ count z came) → IsKept new z

-- the ports that come to a process with the reply, and those that leave it
abbrev pub came_by : Place → Need → Reply Proc → List PortValue
came_by place need r = got r.message ++ made_by need (made place need)

abbrev pub left_by : Need → Onward Proc → List PortValue
left_by need o = o.drops ++ given_by need

-- ports that are let go were kept before, or came
pub record MayDrop (ports : Ports) (came drops : List PortValue) : Type 0 where
  pub once : AreOnce drops
  pub kept : (z : PortValue) → 1 ≤ count z drops → IsKept ports z ⊎ (1 ≤ count z came)

-- what a step takes out of the kept ports is there: the port by which it comes to its channel, what it gives away, and what is let go
pub record MayGoOn (ports : Ports) (place : Place) (need : Need) (r : Reply Proc) (o : Onward Proc) : Type 0 where
  pub uses : (c : ChanName) (a : ChannelOp) → need ≡ Event c a → IsKept ports (port_of c a)
  pub given_once : AreOnce (given_by need)
  pub given : AreKept ports (given_by need)
  pub drops : MayDrop ports (came_by place need r) o.drops

-- each port that a process holds is kept
abbrev pub HeldAreKept : Program → Ports → Procs Proc → Type 0
HeldAreKept program ports m = (z : PortValue) → 1 ≤ total (holds (language program) z) m → IsKept ports z

-- what each process does next is told
abbrev pub AreLookedAt : Program → Processes → Type 0
AreLookedAt program x = table.AreTold (tree_of program) (IsNext program) x

-- what each process but that at one place does next is told
abbrev pub AreLookedAtBut : Program → (own : Place) → Processes → Type 0
AreLookedAtBut program own x = table.AreToldBut (tree_of program) (IsNext program) own x

-- the children of a block for which a process in this phase waits have numbers one behind the other, the first one this
abbrev pub HasFamily : (places : List Place) → Place → Phase → (first : ℕ) → Type 0
HasFamily places p phase first = table.HasFamily places p (awaited_in phase) first

-- the first child of each is told
abbrev pub AreFamilies : Program → Processes → Type 0
AreFamilies program x = table.AreFamilies (tree_of program) awaits x

abbrev pub AreFamiliesBut : Program → (own : Place) → Processes → Type 0
AreFamiliesBut program own x = table.AreFamiliesBut (tree_of program) awaits own x

-- the ports that processes hold in a state that is reached are kept
pub record Fits (program : Program) (ports : Ports) (s : State Proc) : Type 0 where
  pub reached : IsReached (step program) (first program) s
  pub held : HeldAreKept program ports s.procs

-- between two pieces
pub record IsSound (program : Program) (net : Trees) : Type 0 where
  pub told : AreLookedAt program net.entries
  pub families : AreFamilies program net.entries
  pub fits : Fits program net.work (state_of program net)
