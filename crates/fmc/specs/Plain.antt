-- Sources whose programs hosts can play, and what is told of others.
-- Source: this profile.
use Rattle.std.specs.Prelude.{ℕ, ◌≤◌, List, [], ◌∷◌, ◌++◌, length, Option, Some, None, codes}
use Rattle.std.specs.Fmt.{decimal}
use Rattle.fm_base.specs.declared.name.Line.{Line}
use Rattle.fm_base.specs.declared.schedule.Turn.{Turn}
use Rattle.fm_net.specs.Machine.{Place}
use Rattle.fm_rules.specs.declared.program.Program.{Program}
use Rattle.fm_verdict.specs.Program.{IsCheckedOf}
use Rattle.fm_nodes_plain.specs.Lines.{IsPlainVerdict}
use Rattle.fmc.specs.Outcomes.{IsUnplayed, source_limit}

-- the least line at which the checked program of a source isn't plain, or none where it is
pub record HasPlainVerdict (source : List ℕ) (line : Option Line) : Type 0 where
  pub program : Program
  pub lawful : IsCheckedOf source program
  pub verdict : ∥ IsPlainVerdict program line ∥₁

-- the source's program can be played by hosts
abbrev pub IsPlainSource : List ℕ → Type 0
IsPlainSource source = HasPlainVerdict source None

abbrev pub unplain_text : Line → List ℕ
unplain_text line = codes "not for nodes: line " ++ decimal line.0 ++ 10 ∷ []

-- the source breaks no rule, and this is the least line at which its program isn't plain; nothing was played
pub record IsNotPlain (source : List ℕ) (history : List Turn) (places : List Place) (text : List ℕ) : Type 0 where
  pub within : length source ≤ source_limit
  pub line : Line
  pub unplain : HasPlainVerdict source (Some line)
  pub unplayed : IsUnplayed history places text (unplain_text line)

-- a source isn't both: its program is plain, or not
unfoldable pub PlainOrNot : Type 0
PlainOrNot = (source : List ℕ) (line : Line) → IsPlainSource source → HasPlainVerdict source (Some line) → ⊥
