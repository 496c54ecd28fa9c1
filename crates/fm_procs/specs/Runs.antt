-- Several statements of a process that touch nothing but the process.
-- Source: this profile.
use Rattle.std.specs.Prelude.{◌≡◌, ℕ, Some, ◌++◌}
use Rattle.fm_code.specs.declared.body.Body.{Body}
use Rattle.fm_code.specs.Statements.{Ran, run}
use Rattle.fm_proc_language.specs.Processes.{CodeProc, Running}

-- a process whose body has run so far, with the lines that it added
abbrev pub with_ran : CodeProc → Ran → CodeProc
with_ran y r = record y { body = Some r.body; lines = y.lines ++ r.lines }

-- so many statements lead the process there, at this cost
pub record Runs (y : CodeProc) (steps cost : ℕ) (z : CodeProc) : Type 0 where
  pub running : y.phase ≡ Running
  pub before : Body
  pub is_before : y.body ≡ Some before
  pub after : Ran
  pub ran : run steps before ≡ Some after
  pub is_after : z ≡ with_ran y after
  pub cost_is : cost ≡ after.cost
