-- Opening a frame for a call or a reference of a program: what is let go.
-- Source: ANSI X3.9-1978, section 15.9 (arguments); the Fortran M report for ports as arguments.
use Rattle.std.specs.Prelude.{◌≡◌, ℕ, List, [], Ok}
use Rattle.fm_tree.specs.Tree.{Trees}
use Rattle.fm_rules.specs.declared.program.Program.{Program}
use Rattle.fm_mean.specs.Names.{ProgramUnit}
use Rattle.fm_mean.specs.declared.place.Actual.{Actual}
use Rattle.fm_mean.specs.Evaluate.{Scope, Call, reference_of, actuals_of}
use Rattle.fm_mean.specs.Calls.{entered}
use Rattle.fm_mean.specs.Fits.{Types, ValuesFit}
use Rattle.fm_mean.specs.TypedTrees.{IsIn}

-- a frame of the callee, opened on these arguments in a scope of the unit whose values fit, lets nothing go
abbrev pub OpensWhole : Program → ProgramUnit → ProgramUnit → Trees → Type 0
OpensWhole p u callee ts = (types : Types) (s : Scope) (k : ℕ) (args : List Actual) → IsIn p u s → ValuesFit types u.names.variables s.values → actuals_of s ts k ≡ Ok args → (entered callee s.values args).drops ≡ []

-- so does one for a reference that calls a unit
abbrev pub ReferenceOpensWhole : Program → ProgramUnit → List ℕ → Trees → Type 0
ReferenceOpensWhole p u name ts =
    (n : ℕ) (callee : ProgramUnit) (types : Types) (s : Scope) (k : ℕ) (args : List Actual) → reference_of s name ≡ Call n callee → IsIn p u s → ValuesFit types u.names.variables s.values → actuals_of s ts k ≡ Ok args
    → (entered callee s.values args).drops ≡ []
