-- The lines at which a program isn't plain.
-- Source: this profile.
use Rattle.std.specs.Prelude.{◌⊎◌, ℕ, ◌≤◌, Option, MatchOption}
use Rattle.fm_base.specs.declared.name.Line.{Line}
use Rattle.fm_rules.specs.Race.{IsRace}
use Rattle.fm_rules.specs.declared.program.Program.{Program}
use Rattle.fm_mean.specs.Names.{context}
use Rattle.fm_nodes_plain.specs.Carriers.{IsCarrier}

-- of a PROBE or of a MERGER with several writers, or of a declaration of ports over which ports go, in a unit that the PROGRAM reaches
abbrev pub IsUnplainAt : Program → ℕ → Type 0
IsUnplainAt p line = IsRace p.units.units (context p) line ⊎ IsCarrier p.units.units (context p) line

-- the least of these lines
pub record IsFirstUnplain (p : Program) (line : Line) : Type 0 where
  pub unplain : IsUnplainAt p line.0
  pub least : (other : ℕ) → IsUnplainAt p other → line.0 ≤ other

-- or none where there is none
abbrev pub IsPlainVerdict : Program → Option Line → Type 0
IsPlainVerdict p verdict = MatchOption verdict ((line : ℕ) → ¬ IsUnplainAt p line) (IsFirstUnplain p)
