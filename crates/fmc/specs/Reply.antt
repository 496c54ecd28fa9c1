-- A reply as plain data.
-- Source: this profile.
use Rattle.std.specs.Prelude.{◌≡◌, ℕ, Bool, true, false, Option, List, []}
use Rattle.fm_base.specs.declared.schedule.Setup.{Setup}
use Rattle.fm_base.specs.declared.name.Line.{Line}
use Rattle.fm_base.specs.declared.schedule.Turn.{Turn}
use Rattle.fm_net.specs.Machine.{Place}
use Rattle.fm_run.specs.Orders.{places_of}
use Rattle.fm_rules.specs.declared.program.Program.{Program}
use Rattle.fm_mean.specs.Determinism.{IsDeterministic}
use Rattle.fm_flow_law.specs.Flow.{IsFlowVerdict}
use Rattle.fm_gen.specs.Programs.{code_of}
use Rattle.fm_image.specs.ImageOf.{NamesAreNames, image_of}
use Rattle.fm_object.specs.Texts.{IsImage, object_text}
use Rattle.fm_verdict.specs.Program.{IsCheckedOf}
use Rattle.fm_run.specs.Programs.{Follows, IsRun, play_of}
use Rattle.fm_run.specs.declared.run.Run as run
use Rattle.fm_run.specs.declared.run.Ending.{Ending}
use Rattle.fm_run.specs.declared.run.Ending.TheVariants.{Ended, Spent}
use Rattle.fm_run_law.specs.Fair.{IsFair}
use Rattle.fm_table.specs.Told.{Told}
use Rattle.fm_words.specs.declared.command.Command.{Command}
use Rattle.fmc.specs.declared.answer.Ran.{Ran}
use Rattle.fmc.specs.declared.answer.Reply.{Reply}
use Rattle.fmc.specs.declared.answer.Text.{Text}
use Rattle.fmc.specs.declared.answer.Text.TheVariants.{Fixed, Made}
use Rattle.fmc.specs.Exits.{is_of_reading}
use Rattle.fmc.specs.Outcomes.{IsUnplayed}
use Rattle.fmc.specs.Answer.{Asked, ForBytes, Says, SaysOf, SaysRun, are_reading, flow_text, summary_asked}

abbrev pub bytes_of : Text → List ℕ
bytes_of (Fixed s) = s.now
bytes_of (Made v) = v.items

abbrev pub places_in : Ran → List Place
places_in ran = places_of ran.paths.items

-- the reply is one of the command for these bytes
abbrev pub IsReply : Command → List ℕ → Reply → Type 0
IsReply command b r = Says command b r.ran.exit r.ran.history.items (places_in r.ran) (bytes_of r.text)

-- and of words
abbrev pub IsReplyFor : Option Command → List ℕ → Reply → Type 0
IsReplyFor o b r = SaysOf o b r.ran.exit r.ran.history.items (places_in r.ran) (bytes_of r.text)

-- the reply is one of the words for the bytes
abbrev pub IsReplyOf : Option Command → (left : Option (List ℕ)) → Reply → Type 0
IsReplyOf o left r = ForBytes (are_reading o) left (λ b. IsReplyFor o b r)

-- what is told of a run that ended, or that it was spent
abbrev pub text_in : Asked → List Turn → List Place → Ending → List ℕ
text_in asked history places (Ended o) = asked.tells history places o
text_in asked history places Spent = asked.tells_spent history

-- a table of this program and setup, of which nobody is out
abbrev pub IsTableOf : Program → Setup → Told → Type 0
IsTableOf program setup a = (a.program ≡ program) × (a.setup ≡ setup) × (a.out ≡ [])

-- whether a run was spent
abbrev pub is_spent_by : Ending → Bool
is_spent_by (Ended o) = false
is_spent_by Spent = true

-- where it was spent, and the program isn't deterministic, its schedule is fair
abbrev pub IsFairlySpent : Program → run.Run → Type 0
IsFairlySpent program r = r.ending ≡ Spent → (IsDeterministic program → ⊥) → IsFair (play_of program) r.history.items (places_of r.paths.items)

-- a run of the checked program of a source, which is fair where nobody chose
pub record IsRunOf (source : List ℕ) (turns : ℕ) (chosen : List ℕ) (r : run.Run) : Type 0 where
  pub program : Program
  pub lawful : IsCheckedOf source program
  pub runs : IsRun program turns r
  pub fair : chosen ≡ [] → IsFairlySpent program r

-- a run of the checked program of a source, by the choices
pub record IsRunBy (source : List ℕ) (turns slice : ℕ) (chosen : List ℕ) (r : run.Run) : Type 0 where
  pub program : Program
  pub lawful : IsCheckedOf source program
  pub runs : IsRun program turns r
  pub follows : Follows program slice chosen r.history.items

-- the reply tells whether the program may deadlock; nothing was played
pub record IsFlowReply (program : Program) (r : Reply) : Type 0 where
  pub risk : Option Line
  pub verdict : IsFlowVerdict program risk
  pub unplayed : IsUnplayed r.ran.history.items (places_in r.ran) (bytes_of r.text) (flow_text risk)

-- the reply is the object text of the program, whose image is within its ranges where names are names; nothing was played
pub record IsObjectReply (program : Program) (r : Reply) : Type 0 where
  pub fits : NamesAreNames program → IsImage (image_of program (code_of program))
  pub unplayed : IsUnplayed r.ran.history.items (places_in r.ran) (bytes_of r.text) (object_text (image_of program (code_of program)))

-- the reply is that of a run of the source, with its summary
abbrev pub IsSummary : List ℕ → (turns : ℕ) → Reply → Type 0
IsSummary source turns r = (is_of_reading r.ran.exit ≡ false) × SaysRun (summary_asked turns) source r.ran.exit r.ran.history.items (places_in r.ran) (bytes_of r.text)
