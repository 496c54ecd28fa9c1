-- Processes whose frames stand at entries that are there.
-- Source: this profile.
use Rattle.std.specs.Prelude.{◌≡◌, Some, List, [], ◌∷◌}
use Rattle.fm_net.specs.Typed.{AllIn}
use Rattle.fm_rules.specs.declared.program.Program.{Program}
use Rattle.fm_mean.specs.Names.{ProgramUnit, unit_at}
use Rattle.fm_mean.specs.Actions.{after_at}
use Rattle.fm_mean.specs.Process.{Start, Frame, Phase, Running, Joining, Ended, Faulted, Proc}
use Rattle.fm_mean.specs.Leads.{IsPoint, Begins}

abbrev pub IsLiveStart : Program → Start → Type 0
IsLiveStart p s = Begins p s.unit

abbrev pub IsLiveFrame : Program → Frame → Type 0
IsLiveFrame p f = ((u : ProgramUnit) × (unit_at p f.unit ≡ Some u) × IsPoint u f.entry) × AllIn (IsLiveStart p) f.starts

abbrev pub HasFrame : List Frame → Type 0
HasFrame [] = ⊥
HasFrame (f ∷ fs) = Unit {0}

-- behind the block at which the innermost frame joins
abbrev pub JoinsOn : Program → List Frame → Type 0
JoinsOn p [] = ⊥
JoinsOn p (f ∷ fs) = (u : ProgramUnit) × (unit_at p f.unit ≡ Some u) × IsPoint u (after_at (unit_at p f.unit) f.entry)

abbrev pub GoesOn : Program → List Frame → Phase → Type 0
GoesOn p fs Running = HasFrame fs
GoesOn p fs (Joining block kids) = JoinsOn p fs
GoesOn p fs Ended = Unit {0}
GoesOn p fs (Faulted line fault) = Unit {0}

abbrev pub IsLive : Program → Proc → Type 0
IsLive p x = AllIn (IsLiveFrame p) x.execution.frames × GoesOn p x.execution.frames x.phase
