-- The statements of a source, and the least rule that the source breaks.
-- Source: this profile.
use Rattle.std.specs.Prelude.{ℕ, Option, List, [], ◌∷◌}
use Rattle.fm_base.specs.declared.rule.Refusal.{Refusal}
use Rattle.fm_base.specs.Verdict.{Either, IsVerdict}
use Rattle.fm_cards.specs.Broken as cards
use Rattle.fm_cards.specs.Cards.{cards_of}
use Rattle.fm_cards.specs.declared.card.Card.{Card}
use Rattle.fm_stmt.specs.Checked as card
use Rattle.fm_stmt.specs.Checked.{IsStatementOf}
use Rattle.fm_tree.specs.declared.program_unit.Placed.{Placed}
use Rattle.fm_rules.specs.Broken.{IsBrokenStatement, Then}

-- one statement for each card
abbrev pub AreStatementsOf : List Card → List Placed → Type 0
AreStatementsOf [] [] = Unit {0}
AreStatementsOf [] (p ∷ ps) = ⊥
AreStatementsOf (c ∷ cs) [] = ⊥
AreStatementsOf (c ∷ cs) (p ∷ ps) = IsStatementOf c p × AreStatementsOf cs ps

-- broken on some card
abbrev pub IsBrokenCard : List Card → Refusal → Type 0
IsBrokenCard [] q = ⊥
IsBrokenCard (c ∷ cs) q = Either (card.IsBroken c) (IsBrokenCard cs) q

-- by the form of the text, or on a card where the form breaks nothing
abbrev pub IsBrokenForm : List ℕ → Refusal → Type 0
IsBrokenForm source = Then (cards.IsBroken source) (IsBrokenCard (cards_of source))

-- broken by the statements of a source, in its structure, its names or their use
abbrev pub IsBrokenLater : List ℕ → Refusal → Type 0
IsBrokenLater source q = (ps : List Placed) × AreStatementsOf (cards_of source) ps × IsBrokenStatement ps q

-- by the form and the cards, or by the statements where those break nothing
abbrev pub IsBroken : List ℕ → Refusal → Type 0
IsBroken source = Then (IsBrokenForm source) (IsBrokenLater source)

-- the verdict on a source: the least rule that is broken, or none
abbrev pub IsVerdictOn : List ℕ → Option Refusal → Type 0
IsVerdictOn source v = IsVerdict (IsBroken source) v
