-- Forms: how a value is spelled, and which values have the form. Ways of joining forms.
-- Source: ANSI X3.9-1978, section 1.5: the notation for forms of statements.
use Rattle.std.proofs.Common.{inl, inr}
use Rattle.std.specs.Prelude.{ℕ, Bool, true, false, Option, Some, None, ◌⊎◌, List, [], ◌∷◌, ◌++◌, ◌≤◌, pos}
use Rattle.fm_base.specs.declared.name.Label.{Label}
use Rattle.fm_base.specs.declared.token.Op.TheVariants as op
use Rattle.fm_base.specs.declared.token.Token.{Token}
use Rattle.fm_base.specs.declared.token.Token.TheVariants as token
use Rattle.fm_tree.specs.Tree.{Tree}
use Rattle.fm_tree.specs.Spelling.{spelling}
use Rattle.fm_tree.specs.Shape.{IsWellShaped}

pub record Form (X : Type 0) : Type 1 where
  pub spelled : X → List Token
  pub Shape : X → Type 0

-- a star alone is the operator of products
abbrev pub star : Token
star = token.Sign op.Mul

abbrev pub name : Form (List ℕ)
name = record { spelled = λ n. token.Named n ∷ []; Shape = λ n. Unit {0} }

-- a label is from 1 to 99999
abbrev pub label : Form Label
label = record { spelled = λ l. token.Number (pos l.0) ∷ []; Shape = λ l. (1 ≤ l.0) × (l.0 ≤ 99999) }

abbrev pub expr : Form Tree
expr = record { spelled = spelling; Shape = IsWellShaped }

-- a character constant
abbrev pub constant : Form (List ℕ)
constant = record { spelled = λ bytes. token.Constant bytes ∷ []; Shape = λ bytes. Unit {0} }

-- a fixed token, then a form
abbrev pub behind : {X : Type 0} → Token → Form X → Form X
behind m g = record { spelled = λ x. m ∷ g.spelled x; Shape = g.Shape }

-- a form, then a fixed token
abbrev pub before : {X : Type 0} → Form X → Token → Form X
before g m = record { spelled = λ x. g.spelled x ++ m ∷ []; Shape = g.Shape }

-- a word of the language, which is a name as tokens go, then a form
abbrev pub behind_word : {X : Type 0} → List ℕ → Form X → Form X
behind_word w g = record { spelled = λ x. token.Named w ∷ g.spelled x; Shape = g.Shape }

-- a form, then a word of the language
abbrev pub before_word : {X : Type 0} → Form X → List ℕ → Form X
before_word g w = record { spelled = λ x. g.spelled x ++ token.Named w ∷ []; Shape = g.Shape }

-- `( g )`
abbrev pub parens : {X : Type 0} → Form X → Form X
parens g = behind token.Open (before g token.Close)

-- `w = g`
abbrev pub assigned : {X : Type 0} → List ℕ → Form X → Form X
assigned w g = behind_word w (behind token.Equals g)

-- one form, then another
abbrev pub pair : {X Y : Type 0} → Form X → Form Y → Form (X × Y)
pair g h = record { spelled = λ p. g.spelled p.0 ++ h.spelled p.1; Shape = λ p. g.Shape p.0 × h.Shape p.1 }

-- the same form for a value of another type, whose parts it spells
abbrev pub over : {X Y : Type 0} → (Y → X) → Form X → Form Y
over parts g = record { spelled = λ y. g.spelled (parts y); Shape = λ y. g.Shape (parts y) }

-- one form or another
abbrev pub either_spelled : {X Y : Type 0} → Form X → Form Y → X ⊎ Y → List Token
either_spelled g h (inl x) = g.spelled x
either_spelled g h (inr y) = h.spelled y

abbrev pub EitherShape : {X Y : Type 0} → Form X → Form Y → X ⊎ Y → Type 0
EitherShape g h (inl x) = g.Shape x
EitherShape g h (inr y) = h.Shape y

abbrev pub either : {X Y : Type 0} → Form X → Form Y → Form (X ⊎ Y)
either g h = record { spelled = either_spelled g h; Shape = EitherShape g h }

-- `[g]`: a part, or nothing
abbrev pub optional_spelled : {X : Type 0} → Form X → Option X → List Token
optional_spelled g None = []
optional_spelled g (Some x) = g.spelled x

abbrev pub OptionalShape : {X : Type 0} → Form X → Option X → Type 0
OptionalShape g None = Unit {0}
OptionalShape g (Some x) = g.Shape x

abbrev pub optional : {X : Type 0} → Form X → Form (Option X)
optional g = record { spelled = optional_spelled g; Shape = OptionalShape g }

-- `[m g]`: a fixed token and a part, or nothing
abbrev pub optional_behind_spelled : {X : Type 0} → Token → Form X → Option X → List Token
optional_behind_spelled m g None = []
optional_behind_spelled m g (Some x) = m ∷ g.spelled x

abbrev pub optional_behind : {X : Type 0} → Token → Form X → Form (Option X)
optional_behind m g = record { spelled = optional_behind_spelled m g; Shape = OptionalShape g }

-- `[m]`: whether a fixed token is written
abbrev pub optional_token_spelled : Token → Bool → List Token
optional_token_spelled m true = m ∷ []
optional_token_spelled m false = []

abbrev pub optional_token : Token → Form Bool
optional_token m = record { spelled = optional_token_spelled m; Shape = λ b. Unit {0} }

-- `[w =] g`: whether the word is written
abbrev pub optional_keyword_spelled : {X : Type 0} → List ℕ → Form X → Bool → X → List Token
optional_keyword_spelled w g true x = token.Named w ∷ token.Equals ∷ g.spelled x
optional_keyword_spelled w g false x = g.spelled x

abbrev pub optional_keyword : {X : Type 0} → List ℕ → Form X → Form (Bool × X)
optional_keyword w g = record { spelled = λ p. optional_keyword_spelled w g p.0 p.1; Shape = λ p. g.Shape p.1 }

-- `g , h` or `h , g`: whether the first is written first
abbrev pub swapped_spelled : {X Y : Type 0} → Form X → Form Y → Bool → X → Y → List Token
swapped_spelled g h true x y = g.spelled x ++ token.Comma ∷ h.spelled y
swapped_spelled g h false x y = h.spelled y ++ token.Comma ∷ g.spelled x

abbrev pub swapped : {X Y : Type 0} → Form X → Form Y → Form (Bool × (X × Y))
swapped g h = record { spelled = λ p. swapped_spelled g h p.0 p.1.0 p.1.1; Shape = λ p. g.Shape p.1.0 × h.Shape p.1.1 }

abbrev pub AllShape : {X : Type 0} → Form X → List X → Type 0
AllShape g [] = Unit {0}
AllShape g (x ∷ xs) = g.Shape x × AllShape g xs

abbrev pub SomeShape : {X : Type 0} → Form X → List X → Type 0
SomeShape g [] = ⊥
SomeShape g (x ∷ xs) = g.Shape x × AllShape g xs

-- `{, g}`: each behind a comma
abbrev pub more_spelled : {X : Type 0} → Form X → List X → List Token
more_spelled g [] = []
more_spelled g (x ∷ xs) = token.Comma ∷ (g.spelled x ++ more_spelled g xs)

abbrev pub more : {X : Type 0} → Form X → Form (List X)
more g = record { spelled = more_spelled g; Shape = AllShape g }

-- with commas between
abbrev pub list_spelled : {X : Type 0} → Form X → List X → List Token
list_spelled g [] = []
list_spelled g (x ∷ xs) = g.spelled x ++ more_spelled g xs

-- `list(g)`: one or more
abbrev pub some_of : {X : Type 0} → Form X → Form (List X)
some_of g = record { spelled = list_spelled g; Shape = SomeShape g }

-- `[list(g)]`
abbrev pub listed : {X : Type 0} → Form X → Form (List X)
listed g = record { spelled = list_spelled g; Shape = AllShape g }

-- `[( list(g) )]`: no parentheses where there is none
abbrev pub bracketed_spelled : {X : Type 0} → Form X → List X → List Token
bracketed_spelled g [] = []
bracketed_spelled g (x ∷ xs) = token.Open ∷ (g.spelled x ++ (more_spelled g xs ++ token.Close ∷ []))

abbrev pub bracketed : {X : Type 0} → Form X → Form (List X)
bracketed g = record { spelled = bracketed_spelled g; Shape = AllShape g }

-- the same form, of those values alone for which a fact holds
abbrev pub such_that : {X : Type 0} → Form X → (X → Type 0) → Form X
such_that g Holds = record { spelled = g.spelled; Shape = λ x. g.Shape x × Holds x }
