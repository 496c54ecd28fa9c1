-- What is kept of each process beside itself.
-- Source: this profile.
use Rattle.std.specs.Prelude.{◌≡◌, ℕ, List}
use Rattle.fm_net.specs.Machine.{Place}
use Rattle.fm_machine_calls.specs.declared.looking.Look.{Look}
use Rattle.fm_net_procs.specs.Kept as table
use Rattle.fm_proc_language.specs.Processes.{CodeProc, Phase}
use Rattle.fm_proc_events.specs.Told.{look_of}
use Rattle.fm_procs.specs.Readings.{Entries, Entry, awaited_in, awaits, code_of}

-- the process does this next
abbrev pub IsNext : CodeProc → Look → Type 0
IsNext y next = next ≡ look_of y

-- what the process does next is told
abbrev pub IsTold : Entry → Type 0
IsTold e = table.IsTold code_of IsNext e

abbrev pub AreTold : Entries → Type 0
AreTold x = table.AreTold code_of IsNext x

-- of each but the one at this place
abbrev pub AreToldBut : (own : Place) → Entries → Type 0
AreToldBut own x = table.AreToldBut code_of IsNext own x

-- so many children of a block have numbers one behind the other, the first one this
abbrev pub AreChildren : (places : List Place) → (first : ℕ) → Place → (block count : ℕ) → Type 0
AreChildren places first p b n = table.AreChildren places first p b n

-- so have the children for which a process in this phase waits
abbrev pub HasFamily : (places : List Place) → Place → Phase → (first : ℕ) → Type 0
HasFamily places p phase first = table.HasFamily places p (awaited_in phase) first

-- the first child of each is told
abbrev pub AreFamilies : Entries → Type 0
AreFamilies x = table.AreFamilies code_of awaits x

abbrev pub AreFamiliesBut : (own : Place) → Entries → Type 0
AreFamiliesBut own x = table.AreFamiliesBut code_of awaits own x

-- between two pieces
pub record AreKept (x : Entries) : Type 0 where
  pub told : AreTold x
  pub families : AreFamilies x
