-- Processes of stack code that make sense: their frames stand as the kinds of their code tell, and their port words name slots in use,
-- each once.
-- Source: this profile; the Fortran M report (ports belong to one process).
use Rattle.std.specs.Prelude.{◌≡◌, ℕ, Option, Some, None, []}
use Rattle.std.specs.List.{AllByRecursion}
use Rattle.fm_code.specs.declared.body.Body.{Body}
use Rattle.fm_code_kinds.specs.declared.sorts.Shapes.{Shapes}
use Rattle.fm_code_preserves.specs.Rooms.{BacksFit, IsLaidCode, cells_at}
use Rattle.fm_code_preserves.specs.Standing.{BodyStands, HasWords}
use Rattle.fm_code_preserves.specs.Weights.{body_ports}
use Rattle.fm_proc_language.specs.Slots.{Slots}
use Rattle.fm_proc_language.specs.Processes.{CodeProc, Kid, Phase, Running, Joining, Ended, Faulted}
use Rattle.fm_proc_invariant.specs.Moves.{IsUsed}

-- what a child gives back fits the unit of its parent
pub record KidFits (ss : Shapes) (parent : ℕ) (k : Kid) : Type 0 where
  pub backs : BacksFit (cells_at ss parent) (cells_at ss k.unit) k.backs

-- one that runs, joins or faulted stands; one that has ended has its own frame alone
abbrev pub PhaseFits : Shapes → Phase → Body → Type 0
PhaseFits ss Running b = BodyStands ss b
PhaseFits ss (Joining block kids) b = BodyStands ss b × AllByRecursion (KidFits ss b.frame.unit) kids
PhaseFits ss Ended b = b.below ≡ []
PhaseFits ss (Faulted line fault) b = BodyStands ss b

pub record BodyIsGood (ss : Shapes) (phase : Phase) (slots : Slots) (b : Body) : Type 0 where
  pub laid : IsLaidCode ss b.code
  pub words : HasWords ss b.frame
  pub fits : PhaseFits ss phase b
  pub used : IsUsed slots (body_ports b)

-- a child that was joined has no body
abbrev pub HasGoodBody : Shapes → Phase → Slots → Option Body → Type 0
HasGoodBody ss phase slots None = Unit {0}
HasGoodBody ss phase slots (Some b) = BodyIsGood ss phase slots b

-- a process that makes sense
pub record IsGood (ss : Shapes) (y : CodeProc) : Type 0 where
  pub body : HasGoodBody ss y.phase y.slots y.body
