-- What the text is that is compiled of a source, and what `exec` says of it.
-- Source: this profile.
use Rattle.std.specs.Prelude.{◌≡◌, ◌⊎◌, ℕ, ◌<◌, ◌≤◌, Bool, List, [], length}
use Rattle.fm_base.specs.declared.schedule.Turn.{Turn}
use Rattle.fm_net.specs.Machine.{Place}
use Rattle.fm_rules.specs.declared.program.Program.{Program}
use Rattle.fm_verdict.specs.Program.{IsCheckedOf}
use Rattle.fm_gen.specs.Bodies.{KeepsProgram}
use Rattle.fm_gen.specs.Programs.{code_of}
use Rattle.fm_object.specs.Texts.{IsFirstMalformed, IsObjectText}
use Rattle.fm_object.specs.declared.image.Image.{Image}
use Rattle.fm_image_typed.specs.Codes as image_code
use Rattle.fm_image_typed.specs.Typed.{Typed}
use Rattle.fm_execute_image.specs.Executed.{IsUnverified}
use Rattle.fmc.specs.declared.answer.Exit.{Exit}
use Rattle.fmc.specs.declared.answer.Exit.TheVariants.{NoMemory, ReadFault, TooLong}
use Rattle.fmc.specs.Answer.{IsPlayedExit, SaysRun, report_asked}
use Rattle.fmc.specs.Executes.{IsRunnable, SaysExec, object_limit}

-- the text is that of an image that makes sense, whose code is that of the source's program and does what that program does
pub record IsCompiledOf (source text : List ℕ) : Type 0 where
  pub program : Program
  pub lawful : IsCheckedOf source program
  pub image : Image
  pub object : IsObjectText text image
  pub sense : Typed image
  pub code : image_code.code_of image ≡ code_of program
  pub keeps : KeepsProgram program (image_code.code_of image)
  -- so `exec` finds no malformed line in it and no unit that makes no sense, and within its limit runs it
  pub formed : (line : ℕ) → ¬ IsFirstMalformed text line
  pub verified : (unit : ℕ) → ¬ IsUnverified text unit
  pub runs : length text ≤ object_limit → IsRunnable text

-- what `exec` says of a run of the bytes is what `run` says of the source: the same exit and the same report, of a schedule of the source's
-- program, which is fair where it was spent
abbrev pub ExecTellsRun : (source bytes : List ℕ) → Type 0
ExecTellsRun source bytes = (turns : ℕ) (vars : Bool) (exit : Exit) (history : List Turn) (places : List Place) (text : List ℕ)
    → SaysExec turns vars bytes exit history places text → IsPlayedExit exit → SaysRun (report_asked turns vars []) source exit history places text

-- `exec` runs the bytes, unless they are over its limit, no memory is found, or reading them fails
abbrev pub ExecRuns : List ℕ → Type 0
ExecRuns bytes = (turns : ℕ) (vars : Bool) (exit : Exit) (history : List Turn) (places : List Place) (text : List ℕ) → SaysExec turns vars bytes exit history places text
    → IsPlayedExit exit ⊎ (((exit ≡ TooLong) × (object_limit < length bytes)) ⊎ ((exit ≡ NoMemory) ⊎ (exit ≡ ReadFault)))
