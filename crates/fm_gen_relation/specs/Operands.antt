-- Places, arguments and what goes back, by the numbers of words.
-- Source: ANSI X3.9-1978, section 15.9 (arguments), with copying in and back by this profile; the Fortran M report for ports.
use Rattle.std.specs.Prelude.{◌≡◌, ◌≤◌, ℕ, zero, suc, ◌+◌, ℤ, Bool, true, false, not, cond, Some, None, List, [], ◌∷◌, length, map, slice_get}
use Rattle.fm_base.specs.Channels.{Item}
use Rattle.fm_net.specs.Typed.{AllIn}
use Rattle.fm_symbols.specs.declared.names.Variable.{Variable}
use Rattle.fm_mean.specs.Names.{ProgramUnit, formal_place}
use Rattle.fm_mean.specs.Places.{first_word, words_of}
use Rattle.fm_mean.specs.declared.place.Actual.{Actual}
use Rattle.fm_mean.specs.declared.place.Actual.TheVariants.{Given, Taken}
use Rattle.fm_mean.specs.declared.place.Back as mean_back
use Rattle.fm_mean.specs.declared.place.Span as mean_span
use Rattle.fm_code.specs.declared.ask.Operand.{Operand}
use Rattle.fm_code.specs.declared.ask.Operand.TheVariants as operand
use Rattle.fm_code.specs.declared.body.Back.{Back}
use Rattle.fm_code.specs.declared.code.Span.{Span}
use Rattle.fm_gen_relation.specs.Sound.{is_word}

abbrev pub MeanSpan : Type 0
MeanSpan = mean_span.Span

abbrev pub MeanBack : Type 0
MeanBack = mean_back.Back

-- Places.

-- the first word of the variable at a place among the variables, and whether it holds words
abbrev pub first_of : List Variable → ℕ → ℕ
first_of [] i = 0
first_of (v ∷ vs) zero = v.first
first_of (v ∷ vs) (suc i) = first_of vs i

abbrev pub holds_words : List Variable → ℕ → Bool
holds_words [] i = true
holds_words (v ∷ vs) zero = is_word v.kind
holds_words (v ∷ vs) (suc i) = holds_words vs i

-- the number of the first word of a place
abbrev pub word_number : List Variable → MeanSpan → ℕ
word_number vs s = first_of vs s.variable + s.first

abbrev pub code_span : List Variable → MeanSpan → Span
code_span vs s = record { first = word_number vs s; count = s.count }

-- a place that lies in a variable, which holds words or ports
pub record IsPlace (vs : List Variable) (word : Bool) (s : MeanSpan) : Type 0 where
  pub variable : Variable
  pub there : slice_get vs s.variable ≡ Some variable
  pub kind : is_word variable.kind ≡ word
  pub within : s.first + s.count ≤ variable.words

-- Operands.

-- a place, as what is to be filled
abbrev pub target_of : List Variable → MeanSpan → Operand
target_of vs s = cond (holds_words vs s.variable) (operand.Words (code_span vs s)) (operand.Ports (code_span vs s))

-- an argument, or an item of a message before it is cut
abbrev pub operand_of : List Variable → Actual → Operand
operand_of vs (Given ws None) = operand.Value (first_word ws)
operand_of vs (Given ws (Some s)) = operand.Words (code_span vs s)
operand_of vs (Taken s) = operand.Ports (code_span vs s)

-- it is one word, or what stands at a place
abbrev pub IsActual : List Variable → List Item → Actual → Type 0
IsActual vs xs (Given ws None) = length ws ≡ 1
IsActual vs xs (Given ws (Some s)) = IsPlace vs true s × (ws ≡ words_of xs s)
IsActual vs xs (Taken s) = IsPlace vs false s

-- a place with as many elements as there are words
abbrev pub of_length : List ℤ → MeanSpan → MeanSpan
of_length ws s = record s { count = length ws }

-- one word, or none
abbrev pub value_item : List ℤ → Operand
value_item [] = operand.Words (record { first = 0; count = 0 })
value_item (w ∷ ws) = operand.Value w

-- an item of a message as it is sent: where it is cut it has fewer words than its place
abbrev pub item_of : List Variable → Actual → Operand
item_of vs (Given ws None) = value_item ws
item_of vs (Given ws (Some s)) = operand.Words (code_span vs (of_length ws s))
item_of vs (Taken s) = operand.Ports (code_span vs s)

-- it is one word at most, or the first of what stands at a place
abbrev pub IsItem : List Variable → List Item → Actual → Type 0
IsItem vs xs (Given ws None) = length ws ≤ 1
IsItem vs xs (Given ws (Some s)) = IsPlace vs true (of_length ws s) × (ws ≡ words_of xs (of_length ws s))
IsItem vs xs (Taken s) = IsPlace vs false s

abbrev pub is_given : Actual → Bool
is_given (Given ws back) = true
is_given (Taken s) = false

abbrev pub actual_words : Actual → ℕ
actual_words (Given ws back) = length ws
actual_words (Taken s) = s.count

-- the formal with this number takes an argument: it is of its kind, and has as many words
pub record Takes (u : ProgramUnit) (n : ℕ) (a : Actual) : Type 0 where
  pub variable : Variable
  pub there : slice_get u.names.variables (formal_place u n) ≡ Some variable
  pub kind : is_word variable.kind ≡ is_given a
  pub words : variable.words ≡ actual_words a

-- so do those from this number on
abbrev pub TakesFrom : ProgramUnit → ℕ → List Actual → Type 0
TakesFrom u n [] = Unit {0}
TakesFrom u n (a ∷ more) = Takes u n a × TakesFrom u (suc n) more

-- What goes back.

-- words of the one whose variables are `theirs`, to words of the one whose variables are `mine`
abbrev pub code_back : (mine theirs : List Variable) → MeanBack → Back
code_back mine theirs b = record {
  from = first_of theirs b.formal;
  to = word_number mine b.place;
  words = b.place.count;
  port = not (holds_words theirs b.formal);
}

-- both hold words or both ports, and as many as go back are there
pub record IsBack (mine theirs : List Variable) (b : MeanBack) : Type 0 where
  pub formal : Variable
  pub at : slice_get theirs b.formal ≡ Some formal
  pub place : IsPlace mine (is_word formal.kind) b.place
  pub words : b.place.count ≡ formal.words

-- what one frame of code gives back is what the frame of the meaning does
pub record BacksStand (mine theirs : List Variable) (bs : List MeanBack) (cs : List Back) : Type 0 where
  pub same : cs ≡ map (code_back mine theirs) bs
  pub whole : AllIn (IsBack mine theirs) bs
