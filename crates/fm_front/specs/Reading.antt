-- What is known of cards that were read.
-- Source: this profile.
use Rattle.std.specs.Prelude.{◌≡◌, Option, None, List}
use Rattle.fm_base.specs.declared.rule.Refusal.{Refusal}
use Rattle.fm_base.specs.Verdict.{IsVerdict}
use Rattle.fm_cards.specs.declared.card.Card.{Card}
use Rattle.fm_tree.specs.declared.program_unit.Placed.{Placed}
use Rattle.fm_verdict.specs.Verdict.{AreStatementsOf, IsBrokenCard}

-- their statements, where no rule is broken, and the verdict on them
pub record HasRead (cs : List Card) (ps : List Placed) (best : Option Refusal) : Type 0 where
  pub read : best ≡ None → AreStatementsOf cs ps
  pub verdict : IsVerdict (IsBrokenCard cs) best
