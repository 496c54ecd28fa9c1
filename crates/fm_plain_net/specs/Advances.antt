-- Local steps of one process among the others.
-- Source: this profile.
use Rattle.std.specs.Prelude.{◌≡◌, ℕ, Bool}
use Rattle.std.specs.FinMap.{insert}
use Rattle.fm_net.specs.Machine.{Place, Procs}
use Rattle.fm_rules.specs.declared.program.Program.{Program}
use Rattle.fm_mean.specs.Process.{Proc}
use Rattle.fm_plain.specs.Advance.{IsAdvanced}
use Rattle.fm_net_procs.specs.declared.piece.Advanced as table
use Rattle.fm_net_procs.specs.declared.piece.Stop.TheVariants.{Pauses}
use Rattle.fm_plain.specs.Looking.{IsNext}
use Rattle.fm_plain.specs.declared.advancing.Advanced.{Advanced}
use Rattle.fm_plain.specs.declared.event.Event.{Event}
use Rattle.fm_plain.specs.declared.looking.Next.{Next}

-- the process at a place made local steps, and it alone changed
pub record AdvancesAt (program : Program) (slice : ℕ) (spare : Bool) (place : Place) (x : Proc) (a : Advanced) (old new : Procs Proc) : Type 0 where
  pub after : Proc
  pub advanced : IsAdvanced program slice spare x a after
  pub procs_are : new ≡ insert old place after

-- a process pauses behind so many steps at this cost, and what it does next is told
pub record IsPaused (program : Program) (x : Proc) (steps cost : ℕ) (a : table.Advanced Event Next) : Type 0 where
  pub next : Next
  pub told : IsNext program x next
  pub is : a ≡ record { stop = Pauses next; steps = steps; cost = cost }
