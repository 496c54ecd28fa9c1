-- The children for which a process of a program waits, and which of them have ended.
-- Source: the Fortran M report (a process block ends when all its processes have ended).
use Rattle.std.specs.Prelude.{ℕ, Bool, Option, Some, None, length}
use Rattle.fm_net.specs.Machine.{Place, State}
use Rattle.fm_net_procs.specs.declared.children.Awaited.{Awaited}
use Rattle.fm_net_procs.specs.Awaited as children
use Rattle.fm_mean.specs.Process.{Ended, Faulted, Joining, Phase, Proc, Running, has_ended}

-- the block whose children a process in this phase waits for, and how many they are
abbrev pub awaited_in : Phase → Option (ℕ × ℕ)
awaited_in Running = None
awaited_in (Joining block kids) = Some (block, length kids)
awaited_in Ended = None
awaited_in (Faulted line fault) = None

abbrev pub awaits : Proc → Option (ℕ × ℕ)
awaits x = awaited_in x.phase

-- whether the i-th child of a block of the process at a place has ended
abbrev pub child_ended : State Proc → Place → (block i : ℕ) → Bool
child_ended s q b i = children.child_ended has_ended s.procs q b i

-- of the children for which a process at this place waits, the first k have ended
abbrev pub AreKnown : State Proc → Place → Proc → (k : ℕ) → Type 0
AreKnown s q x k = children.AreKnown (child_ended s q) (awaits x) k

-- one of them hasn't
abbrev pub HasOneLeft : State Proc → Place → Proc → Type 0
HasOneLeft s q x = children.HasOneLeft (child_ended s q) (awaits x)

-- how many of them have ended, from the first on up to one that hasn't; and whether one is waited for, which is so where one hasn't
abbrev pub IsAwaited : State Proc → Place → Proc → Awaited → Type 0
IsAwaited s q x r = children.IsAwaited (child_ended s q) (awaits x) r
