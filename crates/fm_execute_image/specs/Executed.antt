-- What it means that an image, or the image whose object text some bytes are, is executed.
-- Source: this profile.
use Rattle.std.specs.Prelude.{◌≡◌, ℕ, false, Some, List}
use Rattle.std.specs.FinMap.{get}
use Rattle.fm_sched.specs.Schedule.{IsLegal, play}
use Rattle.fm_code.specs.Statements.{is_stuck}
use Rattle.fm_code.specs.declared.body.Body.{Body}
use Rattle.fm_net.specs.Machine.{Place}
use Rattle.fm_object.specs.declared.image.Image.{Image}
use Rattle.fm_object.specs.Texts.{IsObjectText}
use Rattle.fm_image_typed.specs.Typed.{IsBad, Typed}
use Rattle.fm_proc_language.specs.Processes.{CodeProc}
use Rattle.fm_image_law.specs.Image.{GoesOn, first, step}
use Rattle.fm_run.specs.declared.run.Run.{Run}
use Rattle.fm_run_law.specs.Fair.{IsRunInTurn}
use Rattle.fm_execute_image.specs.Play.{image_play}

-- the run is one of the image's own machine under these turns, in which those that can step are served in turn, and which is fair
abbrev pub IsRunOf : Image → (turns : ℕ) → Run → Type 0
IsRunOf i turns run = IsRunInTurn (image_play i) 1000 turns run

-- wherever a schedule of the image leads, nobody that has more to do is stuck
abbrev pub IsNeverStuck : Image → Type 0
IsNeverStuck i = (choices : List Place) → IsLegal step (first i) choices → (q : Place) (y : CodeProc) (b : Body)
    → get (play step (first i) choices).procs q ≡ Some y → y.body ≡ Some b → GoesOn y.phase → is_stuck b ≡ false

-- the bytes are the text of an image that makes sense, and the run is one of it
pub record IsExecuted (bytes : List ℕ) (turns : ℕ) (run : Run) : Type 0 where
  pub image : Image
  pub object : IsObjectText bytes image
  pub typed : Typed image
  pub of_image : IsRunOf image turns run

-- the bytes are the text of an image in which this unit makes no sense
pub record IsUnverified (bytes : List ℕ) (unit : ℕ) : Type 0 where
  pub image : Image
  pub object : IsObjectText bytes image
  pub bad : IsBad image unit
