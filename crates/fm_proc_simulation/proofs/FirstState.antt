-- The state with which a program of stack code begins stands for the one with which the program does.
use Rattle.std.proofs.Common.{[]}
use Rattle.fm_net.specs.Correspondence.{StandsFor}
use Rattle.fm_net.specs.Owned.{main_alone}
use Rattle.fm_rules.specs.declared.program.Program.{Program}
use Rattle.fm_mean.specs.Steps.{first, first_proc}
use Rattle.fm_mean.proofs.CallsOpen.{always_typed}
use Rattle.fm_mean.proofs.Laws.{first_owned}
use Rattle.fm_proc_simulation.specs.Corresponds.{Corresponds, IsLive}
use Rattle.fm_proc_simulation.specs.Shown.{first_process}
use Rattle.fm_proc_simulation.proofs.Alike.{machines_alike}
use Rattle.fm_proc_simulation.proofs.FirstAlike.{first_alike}

first_live : (p : Program) → IsLive p (first p)
first_live p = record { typed = always_typed p [] tt; owned = first_owned p }

pub first_stands : (p : Program) → StandsFor (Corresponds p) (IsLive p) (main_alone (first_process p)) (first p)
first_stands p = (machines_alike p).begin (first_proc p) (first_process p) (first_alike p) (first_live p)
