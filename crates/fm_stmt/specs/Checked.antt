-- The statement of a card, and the rules that a card may break.
-- Source: ANSI X3.9-1978, sections 2.2 (names), 3.3 (statements) and 4.3.1 (integers); this profile for the greatest number and the length of names.
use Rattle.std.specs.Prelude.{◌≡◌, ℕ, pos, Bool, true, false, if◌then◌else◌, Option, Some, None, List, map, Contains}
use Rattle.fm_base.specs.declared.rule.Refusal.{Refusal}
use Rattle.fm_base.specs.declared.rule.Rule.{Rule}
use Rattle.fm_base.specs.declared.rule.Rule.TheVariants as rule
use Rattle.fm_base.specs.declared.token.Token.{Token}
use Rattle.fm_base.specs.declared.token.Token.TheVariants as token
use Rattle.fm_base.specs.Integers.{greatest_integer}
use Rattle.fm_base.specs.Verdict.{IsOfPhase}
use Rattle.std.specs.List.{list_any}
use Rattle.fm_cards.specs.declared.card.Card.{Card}
use Rattle.fm_token.specs.Statements.{IsTokens}
use Rattle.fm_tree.specs.Statements.{spelling_of, IsWellShapedStatement}
use Rattle.fm_tree.specs.declared.program_unit.Placed.{Placed}
use Rattle.fm_tree.specs.declared.statement.Stmt.{Stmt}
use Rattle.fm_stmt.specs.Names.{names_of, has_long}

-- a number over the greatest one
abbrev pub is_big : Token → Bool
is_big token.Big = true
is_big t = false

-- which counts as the greatest one
abbrev pub read_so : Token → Token
read_so t = if is_big t then token.Number (pos greatest_integer) else t

abbrev pub known : List Token → List Token
known ts = map read_so ts

-- the tokens spell the tree, which has a form of the grammar
pub record Spells (ts : List Token) (s : Stmt) : Type 0 where
  pub shaped : IsWellShapedStatement s
  pub spelled : known ts ≡ spelling_of s

-- the text is cut into tokens that spell the tree
abbrev pub IsTreeOf : List ℕ → Stmt → Type 0
IsTreeOf text s = (ts : List Token) × (IsTokens text ts × Spells ts s)

-- a number of the text is over the greatest one
abbrev pub HasLargeNumber : List ℕ → Type 0
HasLargeNumber text = (ts : List Token) × (IsTokens text ts × Contains ts token.Big)

-- a name of the text's tree is too long
abbrev pub HasLongName : List ℕ → Type 0
HasLongName text = (s : Stmt) × (IsTreeOf text s × (has_long (names_of s) ≡ true))

abbrev pub BreaksRule : List ℕ → Rule → Type 0
BreaksRule text rule.E10 = (s : Stmt) → ¬ IsTreeOf text s
BreaksRule text rule.E11 = HasLargeNumber text
BreaksRule text rule.E12 = HasLongName text
BreaksRule text r = ⊥

-- broken at the first line of the card
abbrev pub IsBroken : Card → Refusal → Type 0
IsBroken card q = (q.line ≡ card.line) × BreaksRule card.text q.rule

-- the tree of the text, with the line and the label of the card
pub record IsStatementOf (card : Card) (p : Placed) : Type 0 where
  pub line : p.line ≡ card.line
  pub label : p.label ≡ card.label
  pub tree : IsTreeOf card.text p.stmt

abbrev pub has_big : List Token → Bool
has_big ts = list_any is_big ts

-- the rule that is broken where there is a tree: by a number over the greatest, or by a long name
abbrev pub rule_of : Bool → Bool → Option Rule
rule_of true long = Some rule.E11
rule_of false true = Some rule.E12
rule_of false false = None

-- two trees with a form of the grammar and one spelling are one
abbrev pub OneTree : Type 0
OneTree = (a b : Stmt) → IsWellShapedStatement a → IsWellShapedStatement b → spelling_of a ≡ spelling_of b → a ≡ b

-- a card has one statement
abbrev pub OneStatement : Type 0
OneStatement = (card : Card) (a b : Placed) → IsStatementOf card a → IsStatementOf card b → a ≡ b

-- all that a card may break is of phase 1
abbrev pub AllOfPhaseOne : Type 0
AllOfPhaseOne = (card : Card) → IsOfPhase 1 (IsBroken card)

-- the tokens of a text as they are read, and whether a number is over the greatest
abbrev pub HasCut : List ℕ → List Token → Bool → Type 0
HasCut text ts big = (cut : List Token) × (IsTokens text cut × (ts ≡ known cut) × (big ≡ has_big cut))

-- the tree of a text, and whether a number is over the greatest
pub record IsRead (text : List ℕ) (s : Stmt) (big : Bool) : Type 0 where
  pub tree : IsTreeOf text s
  pub big_is : (ts : List Token) → IsTokens text ts → has_big ts ≡ big
