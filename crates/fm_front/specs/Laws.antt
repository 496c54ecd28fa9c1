-- A source has one verdict, and one program where it breaks no rule.
-- Source: this profile.
use Rattle.std.specs.Prelude.{◌≡◌, ℕ, Option, None, List}
use Rattle.fm_base.specs.declared.rule.Refusal.{Refusal}
use Rattle.fm_base.specs.Verdict.{IsLeast}
use Rattle.fm_rules.specs.declared.program.Program.{Program}
use Rattle.fm_verdict.specs.Verdict.{IsBroken, IsVerdictOn}
use Rattle.fm_verdict.specs.Program.{IsCheckedOf}

-- two verdicts on a source are one
abbrev pub OneVerdict : Type 0
OneVerdict = (source : List ℕ) (a b : Option Refusal) → IsVerdictOn source a → IsVerdictOn source b → a ≡ b

-- two programs of a source are one
abbrev pub OneProgram : Type 0
OneProgram = (source : List ℕ) (a b : Program) → IsCheckedOf source a → IsCheckedOf source b → a ≡ b

-- a source that has a program breaks no rule
abbrev pub ProgramIsClean : Type 0
ProgramIsClean = (source : List ℕ) (a : Program) → IsCheckedOf source a → IsVerdictOn source None

-- a source has no program and a refusal
abbrev pub ProgramOrRefusal : Type 0
ProgramOrRefusal = (source : List ℕ) (a : Program) (q : Refusal) → IsCheckedOf source a → IsLeast (IsBroken source) q → ⊥
