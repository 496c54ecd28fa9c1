-- The tokens of a statement: its keyword, and the cut of what stands behind.
-- Source: ANSI X3.9-1978, sections 2.2 (keywords) and 11.5 (the logical IF), and the Fortran M report for its words.
use Rattle.std.specs.Prelude.{◌≡◌, ◌≢◌, ℕ, Some, List, [], ◌∷◌, ◌++◌, ◌==◌, if◌then◌else◌, take, drop, length}
use Rattle.fm_base.specs.declared.token.Class.{Class}
use Rattle.fm_base.specs.declared.token.Class.TheVariants.{LogicalIf, Nothing}
use Rattle.fm_base.specs.declared.token.Token.{Token}
use Rattle.fm_base.specs.declared.token.Token.TheVariants.{Key}
use Rattle.fm_base.specs.Tokens.{keyword_text}
use Rattle.fm_token.specs.Classes.{class_of, condition_end}
use Rattle.fm_token.specs.Pieces.{IsCut}

-- its keyword, where the class has one: an assignment has none
abbrev pub key_of : Class → List Token
key_of class = if length (keyword_text class) == 0 then [] else Key class ∷ []

-- what stands behind the keyword
abbrev pub behind_key : List ℕ → List ℕ
behind_key text = drop (length (keyword_text (class_of text))) text

-- the test of a logical IF, with its parentheses
abbrev pub test_of : ℕ → List ℕ → List ℕ
test_of n text = drop 2 (take n text)

-- The tokens of a text that has a class. Those of the statement in a logical IF follow those of its test, with a keyword
-- of its own; that statement may be a logical IF again.
pub data IsTokens : List ℕ → List Token → Type 0 where
  plain : {text : List ℕ} {tokens : List Token} (cut : List Token)
      → class_of text ≢ LogicalIf → class_of text ≢ Nothing → IsCut (behind_key text) cut → tokens ≡ key_of (class_of text) ++ cut
      → IsTokens text tokens
  logical : {text : List ℕ} {tokens : List Token} (n : ℕ) (test behind : List Token)
      → class_of text ≡ LogicalIf → condition_end text ≡ Some n → IsCut (test_of n text) test → IsTokens (drop n text) behind → tokens ≡ Key LogicalIf ∷ (test ++ behind)
      → IsTokens text tokens
