-- Programs that can run on hosts: no order of steps tells, and no message holds a port; and how they begin there.
-- Source: this profile.
use Rattle.std.specs.Prelude.{ℕ, []}
use Rattle.std.specs.FinMap.{empty}
use Rattle.fm_net.specs.Typed.{AllIn}
use Rattle.fm_tree.specs.PortFields.{PortFields, FieldKind, NoFields, FieldThen, Integer, Logical, In, Out}
use Rattle.fm_rules.specs.declared.program.Program.{Program}
use Rattle.fm_mean.specs.Determinism.{IsDeterministic, IsReached}
use Rattle.fm_mean.specs.Fits.{sort_of_variable, variables_of}
use Rattle.fm_mean.specs.Process.{Proc}
use Rattle.fm_mean.specs.Steps.{first}
use Rattle.fm_link_law.specs.Hosts.{Hosts}

-- a message of this type holds no port
abbrev pub HasWordsAlone : PortFields → Type 0
HasWordsAlone NoFields = Unit {0}
HasWordsAlone (FieldThen Integer name bounds rest) = HasWordsAlone rest
HasWordsAlone (FieldThen Logical name bounds rest) = HasWordsAlone rest
HasWordsAlone (FieldThen (In t) name bounds rest) = ⊥
HasWordsAlone (FieldThen (Out t) name bounds rest) = ⊥

-- a variable of this sort is no port, or one over which no port goes
abbrev pub CarriesWords : FieldKind → Type 0
CarriesWords Integer = Unit {0}
CarriesWords Logical = Unit {0}
CarriesWords (In t) = HasWordsAlone t
CarriesWords (Out t) = HasWordsAlone t

-- a plain program: deterministic, and over no port of a unit that main reaches goes a port
pub record IsPlainProgram (p : Program) : Type 0 where
  pub deterministic : IsDeterministic p
  pub ports : (n : ℕ) → IsReached p n → AllIn (λ v. CarriesWords (sort_of_variable v)) (variables_of p n)

-- main alone on its host, with no channel and nothing on the wire
abbrev pub first_hosts : Program → Hosts Proc
first_hosts p = record { procs = (first p).procs; channels = empty; wire = [] }
