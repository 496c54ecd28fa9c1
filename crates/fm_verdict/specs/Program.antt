-- The program of a source that breaks no rule.
-- Source: this profile.
use Rattle.std.specs.Prelude.{ℕ, None, List}
use Rattle.fm_cards.specs.Cards.{cards_of}
use Rattle.fm_tree.specs.declared.program_unit.Placed.{Placed}
use Rattle.fm_rules.specs.declared.program.Program.{Program}
use Rattle.fm_rules.specs.Program.{IsChecked}
use Rattle.fm_verdict.specs.Verdict.{AreStatementsOf, IsVerdictOn}

-- the program of the statements of a source that breaks no rule, with its units and names
pub record IsCheckedOf (source : List ℕ) (p : Program) : Type 0 where
  pub statements : List Placed
  pub read : AreStatementsOf (cards_of source) statements
  pub clean : IsVerdictOn source None
  pub checked : IsChecked statements p.units p.names
