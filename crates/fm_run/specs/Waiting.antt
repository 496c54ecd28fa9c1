-- The children for which a process waits, and which of them have ended.
-- Source: the Fortran M report (a process block ends when all its processes have ended).
use Rattle.std.specs.Prelude.{ℕ, Bool}
use Rattle.fm_net.specs.Machine.{Place, State}
use Rattle.fm_net_procs.specs.declared.children.Awaited.{Awaited}
use Rattle.fm_net_procs.specs.Awaited as children
use Rattle.fm_run.specs.Plays.{Play, has_ended}

-- whether the i-th child of a block of the process at a place has ended
abbrev pub child_ended : (program : Play) → State program.Proc → Place → (block i : ℕ) → Bool
child_ended program s q b i = children.child_ended (has_ended program) s.procs q b i

-- of the children for which a process at this place waits, the first k have ended
abbrev pub AreKnown : (program : Play) → State program.Proc → Place → program.Proc → (k : ℕ) → Type 0
AreKnown program s q x k = children.AreKnown (child_ended program s q) (program.awaits x) k

-- one of them hasn't
abbrev pub HasOneLeft : (program : Play) → State program.Proc → Place → program.Proc → Type 0
HasOneLeft program s q x = children.HasOneLeft (child_ended program s q) (program.awaits x)

-- how many of them have ended, from the first on up to one that hasn't; and whether one is waited for, which is so where one hasn't
abbrev pub IsAwaited : (program : Play) → State program.Proc → Place → program.Proc → Awaited → Type 0
IsAwaited program s q x r = children.IsAwaited (child_ended program s q) (program.awaits x) r
