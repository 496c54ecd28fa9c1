-- What `exec` answers for the bytes of an object text.
-- Source: this profile.
use Rattle.std.specs.Prelude.{◌≡◌, ℕ, ◌<◌, ◌≤◌, Bool, List, [], ◌∷◌, ◌++◌, length, codes}
use Rattle.std.specs.Fmt.{decimal}
use Rattle.fm_base.specs.declared.schedule.Turn.{Turn}
use Rattle.fm_net.specs.Machine.{Place}
use Rattle.fm_object.specs.declared.image.Image.{Image}
use Rattle.fm_object.specs.Texts.{IsFirstMalformed, IsObjectText}
use Rattle.fm_image_typed.specs.Typed.{Typed}
use Rattle.fm_execute_image.specs.Executed.{IsExecuted, IsUnverified}
use Rattle.fm_report.specs.Report.{report_text, spent_text}
use Rattle.fm_run.specs.Orders.{places_of}
use Rattle.fm_run.specs.declared.run.Ending.{Ending}
use Rattle.fm_run.specs.declared.run.Ending.TheVariants as ending
use Rattle.fm_run.specs.declared.run.Run.{Run}
use Rattle.fmc.specs.declared.answer.Exit.{Exit}
use Rattle.fmc.specs.declared.answer.Exit.TheVariants.{Done, Faulted, Deadlocked, Refused, Spent, Usage, ReadFault, WriteFault, NoMemory, TooLong, Malformed, Illegal, Unfinished, BadObject, Unverified, NotPlain}
use Rattle.fmc.specs.Outcomes.{IsUnplayed, exit_in}

-- the most bytes of an object text
abbrev pub object_limit : ℕ
object_limit = 100000000

-- what is told of a run: its report, or that it was spent
abbrev pub ran_text : (turns : ℕ) → (vars : Bool) → Ending → List ℕ
ran_text turns vars (ending.Ended o) = report_text vars o
ran_text turns vars ending.Spent = spent_text turns

-- the bytes are the text of an image that makes sense, and the schedule is one of its own machine, from its PROGRAM alone on, under these
-- turns, with its processes in the order of starting; those that can step were served in turn, and so it is fair
pub record IsObjectHistory (b : List ℕ) (turns : ℕ) (history : List Turn) (places : List Place) : Type 0 where
  pub run : Run
  pub executed : IsExecuted b turns run
  pub history_is : history ≡ run.history.items
  pub places_are : places ≡ places_of run.paths.items

-- the same, and exit and text are those of the state to which the schedule leads: what the image shows there, or that it costs more than
-- the turns
pub record IsExecutedSo (turns : ℕ) (vars : Bool) (exit : Exit) (b : List ℕ) (history : List Turn) (places : List Place) (text : List ℕ) : Type 0 where
  pub within : length b ≤ object_limit
  pub ran : IsObjectHistory b turns history places
  pub exit_is : exit ≡ exit_in ran.run.ending
  pub text_is : text ≡ ran_text turns vars ran.run.ending

abbrev pub bad_object_text : (line : ℕ) → List ℕ
bad_object_text line = codes "malformed object: line " ++ decimal line ++ 10 ∷ []

abbrev pub unverified_text : (unit : ℕ) → List ℕ
unverified_text unit = codes "unverified: unit " ++ decimal unit ++ 10 ∷ []

-- the first malformed line is told; nothing was played
pub record IsBadObject (b : List ℕ) (history : List Turn) (places : List Place) (text : List ℕ) : Type 0 where
  pub within : length b ≤ object_limit
  pub line : ℕ
  pub malformed : IsFirstMalformed b line
  pub unplayed : IsUnplayed history places text (bad_object_text line)

-- the least unit of the image that makes no sense is told, from 1, or 0 where the whole makes none; nothing was played
pub record IsBadImage (b : List ℕ) (history : List Turn) (places : List Place) (text : List ℕ) : Type 0 where
  pub within : length b ≤ object_limit
  pub unit : ℕ
  pub unverified : IsUnverified b unit
  pub unplayed : IsUnplayed history places text (unverified_text unit)

-- what `exec` says by its exit
abbrev pub SaysExec : (turns : ℕ) → (vars : Bool) → List ℕ → Exit → List Turn → List Place → List ℕ → Type 0
SaysExec turns vars b Done h ps t = IsExecutedSo turns vars Done b h ps t
SaysExec turns vars b Faulted h ps t = IsExecutedSo turns vars Faulted b h ps t
SaysExec turns vars b Deadlocked h ps t = IsExecutedSo turns vars Deadlocked b h ps t
SaysExec turns vars b Refused h ps t = ⊥
SaysExec turns vars b Spent h ps t = IsExecutedSo turns vars Spent b h ps t
SaysExec turns vars b Usage h ps t = ⊥
SaysExec turns vars b ReadFault h ps t = IsUnplayed h ps t (codes "read fault\n")
SaysExec turns vars b WriteFault h ps t = ⊥
SaysExec turns vars b NoMemory h ps t = IsUnplayed h ps t (codes "no memory\n")
SaysExec turns vars b TooLong h ps t = (object_limit < length b) × IsUnplayed h ps t (codes "source too long\n")
SaysExec turns vars b Malformed h ps t = ⊥
SaysExec turns vars b Illegal h ps t = ⊥
SaysExec turns vars b Unfinished h ps t = ⊥
SaysExec turns vars b BadObject h ps t = IsBadObject b h ps t
SaysExec turns vars b Unverified h ps t = IsBadImage b h ps t
SaysExec turns vars b NotPlain h ps t = ⊥

-- ---- what bytes are

-- the text of an image that makes sense
abbrev pub IsRunnable : List ℕ → Type 0
IsRunnable b = (length b ≤ object_limit) × (image : Image) × IsObjectText b image × Typed image

-- a line is malformed
abbrev pub HasBadLine : List ℕ → Type 0
HasBadLine b = (length b ≤ object_limit) × (line : ℕ) × IsFirstMalformed b line

-- the text of an image that makes no sense
abbrev pub HasBadUnit : List ℕ → Type 0
HasBadUnit b = (length b ≤ object_limit) × (unit : ℕ) × IsUnverified b unit
