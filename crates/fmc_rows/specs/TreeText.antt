-- The text of a run of a source.
-- Source: this profile.
use Rattle.std.specs.Prelude.{◌≡◌, ℕ, Bool, List}
use Rattle.fm_rules.specs.declared.program.Program.{Program}
use Rattle.fm_verdict.specs.Program.{IsCheckedOf}
use Rattle.fm_run.specs.Programs.{IsRun}
use Rattle.fm_run.specs.declared.run.Ending.{Ending}
use Rattle.fm_run.specs.declared.run.Ending.TheVariants.{Ended, Spent}
use Rattle.fm_run.specs.declared.run.Run.{Run}
use Rattle.fm_report.specs.Report.{report_text, spent_text}

-- the report of a run that ended, or that it was spent
abbrev pub ending_text : (turns : ℕ) → (vars : Bool) → Ending → List ℕ
ending_text turns vars (Ended o) = report_text vars o
ending_text turns vars Spent = spent_text turns

-- the text is that of a run of the source's checked program within the turns
pub record IsTextOf (source : List ℕ) (turns : ℕ) (vars : Bool) (text : List ℕ) : Type 0 where
  pub program : Program
  pub lawful : IsCheckedOf source program
  pub run : Run
  pub runs : IsRun program turns run
  pub text_is : text ≡ ending_text turns vars run.ending
