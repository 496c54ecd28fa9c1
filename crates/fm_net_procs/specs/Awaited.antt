-- The children for which a process waits, and which of them have ended.
-- Source: the Fortran M report (a process block ends when all its processes have ended).
use Rattle.std.specs.Prelude.{◌≡◌, ◌↔◌, ◌<◌, ◌≤◌, ◌+◌, ℕ, Bool, true, false, Option, Some}
use Rattle.std.specs.FinMap.{get}
use Rattle.fm_net.specs.Machine.{Place, Procs, child}
use Rattle.fm_net_procs.specs.declared.children.Awaited.{Awaited}
use Rattle.fm_net_procs.specs.Readings.{ended_at}

-- whether the i-th child of a block of the process at a place has ended. Children are counted from 1
abbrev pub child_ended : {X : Type 0} → (has_ended : X → Bool) → Procs X → Place → (block i : ℕ) → Bool
child_ended has_ended m p b i = ended_at has_ended (get m (child p b i))

-- where it is told which children of which blocks have ended
module _ (over : (block i : ℕ) → Bool) where
  -- the first k of so many children of a block have ended
  pub record HaveEnded (block count k : ℕ) : Type 0 where
    pub within : k ≤ count
    pub ended : (i : ℕ) → i < k → over block (i + 1) ≡ true

  -- and the next one, if there is one, hasn't
  pub record EndedSoFar (block count k : ℕ) : Type 0 where
    pub first : HaveEnded block count k
    pub next : k < count → over block (k + 1) ≡ false

  -- of the children that are awaited, so many of a block, the first k have ended
  abbrev pub AreKnown : (awaited : Option (ℕ × ℕ)) → (k : ℕ) → Type 0
  AreKnown awaited k = (b n : ℕ) → awaited ≡ Some (b, n) → HaveEnded b n k

  -- one of them hasn't
  pub record HasOneLeft (awaited : Option (ℕ × ℕ)) : Type 0 where
    pub block : ℕ
    pub count : ℕ
    pub awaits : awaited ≡ Some (block, count)
    pub before : ℕ
    pub low : before < count
    pub runs : over block (before + 1) ≡ false

  -- how many of them have ended, from the first on up to one that hasn't; and whether one is waited for, which is so where one hasn't
  pub record IsAwaited (awaited : Option (ℕ × ℕ)) (r : Awaited) : Type 0 where
    pub counted : (b n : ℕ) → awaited ≡ Some (b, n) → EndedSoFar b n r.ended
    pub waits : (r.waits ≡ true) ↔ HasOneLeft awaited
