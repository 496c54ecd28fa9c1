-- The object text of a program, and what is executed of it.
-- Source: this profile.
use Rattle.std.specs.Prelude.{◌≡◌, ℕ, List}
use Rattle.fm_rules.specs.declared.program.Program.{Program}
use Rattle.fm_gen.specs.Programs.{code_of}
use Rattle.fm_image.specs.ImageOf.{NamesAreNames, image_of}
use Rattle.fm_object.specs.Texts.{object_text}
use Rattle.fm_execute_image.specs.Executed.{IsExecuted}
use Rattle.fm_run.specs.Programs.{play_of}
use Rattle.fm_run.specs.declared.run.Run.{Run}
use Rattle.fm_run_law.specs.Fair.{IsRunInTurn}

-- the bytes are the text of the image of a program, whose names are names of the language, and its code
pub record IsTextOf (program : Program) (bytes : List ℕ) : Type 0 where
  pub named : NamesAreNames program
  pub object : bytes ≡ object_text (image_of program (code_of program))

-- what is executed of the bytes are runs of the program, in which those that can step are served in turn
abbrev pub ExecutesAs : List ℕ → Program → Type 0
ExecutesAs bytes program = (turns : ℕ) (run : Run) → IsExecuted bytes turns run → IsRunInTurn (play_of program) 1000 turns run
