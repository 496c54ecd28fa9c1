-- When the stack of a statement, and what it has built, fit a list of kinds.
-- Source: this profile.
use Rattle.std.specs.Prelude.{◌≡◌, ℕ, ◌+◌, ◌≤◌, ◌<◌, ℤ, pos, true, Option, Some, None, List, [], ◌∷◌, length, reverse, slice_get}
use Rattle.fm_code.specs.declared.ask.Operand.{Operand}
use Rattle.fm_code.specs.declared.ask.Operand.TheVariants as operand
use Rattle.fm_code.specs.declared.body.Frame.{Frame}
use Rattle.fm_code.specs.declared.code.Span.{Span}
use Rattle.fm_code.specs.declared.instr.Loop.{Loop}
use Rattle.fm_code.specs.declared.scratch.Scratch.{Scratch}
use Rattle.fm_code.specs.Acts.{Act, StatementEnd}
use Rattle.fm_code.specs.Acts as acts
use Rattle.fm_code_kinds.specs.declared.sorts.Cell.{Cell}
use Rattle.fm_code_kinds.specs.declared.kinds.Passed.{Passed}
use Rattle.fm_code_kinds.specs.declared.kinds.Passed.TheVariants as pass
use Rattle.fm_code_kinds.specs.declared.kinds.Kind.{Kind}
use Rattle.fm_code_kinds.specs.declared.kinds.Kind.TheVariants as kinds
use Rattle.fm_code_kinds.specs.declared.sorts.Shape.{Shape}
use Rattle.fm_code_kinds.specs.declared.sorts.Shapes.{Shapes}
use Rattle.fm_code_kinds.specs.Shapes.{words_of}
use Rattle.fm_code_kinds.specs.Effects.{results_in, fit_formals}

-- a word that is known to be among some
pub record IsAmong (s : Span) (x : ℤ) : Type 0 where
  pub number : ℕ
  pub is : x ≡ pos number
  pub low : s.first ≤ number
  pub high : number < s.first + s.count

abbrev pub WordFits : Option Span → ℤ → Type 0
WordFits None x = Unit {0}
WordFits (Some s) x = IsAmong s x

-- one of some words of the frame
pub record IsOneOf (s : Span) (t : Span) : Type 0 where
  pub single : t.count ≡ 1
  pub low : s.first ≤ t.first
  pub high : t.first < s.first + s.count

abbrev pub OperandFits : Passed → Operand → Type 0
OperandFits pass.Value (operand.Value v) = Unit {0}
OperandFits pass.Value (operand.Words s) = ⊥
OperandFits pass.Value (operand.Ports s) = ⊥
OperandFits (pass.Words t) (operand.Value v) = ⊥
OperandFits (pass.Words t) (operand.Words s) = t ≡ s
OperandFits (pass.Words t) (operand.Ports s) = ⊥
OperandFits (pass.Ports t) (operand.Value v) = ⊥
OperandFits (pass.Ports t) (operand.Words s) = ⊥
OperandFits (pass.Ports t) (operand.Ports s) = t ≡ s
OperandFits (pass.WordIn t) (operand.Value v) = ⊥
OperandFits (pass.WordIn t) (operand.Words s) = IsOneOf t s
OperandFits (pass.WordIn t) (operand.Ports s) = ⊥
OperandFits (pass.PortIn t) (operand.Value v) = ⊥
OperandFits (pass.PortIn t) (operand.Words s) = ⊥
OperandFits (pass.PortIn t) (operand.Ports s) = IsOneOf t s
OperandFits (pass.Sized n) (operand.Value v) = Unit {0}
OperandFits (pass.Sized n) (operand.Words s) = Unit {0}
OperandFits (pass.Sized n) (operand.Ports s) = ⊥

-- the stack, from its top, and the operands, the last one first
abbrev pub Stands : List Kind → List ℤ → List Operand → Type 0
Stands [] s os = os ≡ []
Stands (kinds.Returned ∷ ks) s os = Stands ks s os
Stands (kinds.Word r ∷ ks) [] os = ⊥
Stands (kinds.Word r ∷ ks) (x ∷ s) os = WordFits r x × Stands ks s os
Stands (kinds.Operand o ∷ ks) s [] = ⊥
Stands (kinds.Operand o ∷ ks) s (p ∷ os) = OperandFits o p × Stands ks s os
Stands (kinds.LoopOf l ∷ ks) s os = Stands ks s os

-- the loop that was built last
abbrev pub last_loop : List Kind → Option Loop
last_loop [] = None
last_loop (kinds.Returned ∷ ks) = last_loop ks
last_loop (kinds.Word r ∷ ks) = last_loop ks
last_loop (kinds.Operand o ∷ ks) = last_loop ks
last_loop (kinds.LoopOf l ∷ ks) = Some l

-- it is what is built, a loop of the unit, with a variable of the unit
pub record IsLoop (cells : List Cell) (loops : ℕ) (l : Loop) (c : Option Loop) : Type 0 where
  pub is : c ≡ Some l
  pub number : l.number < loops
  pub word : l.word < words_of cells

abbrev pub LoopStands : List Cell → ℕ → Option Loop → Option Loop → Type 0
LoopStands cells loops None c = Unit {0}
LoopStands cells loops (Some l) c = IsLoop cells loops l c

-- a frame has the words and the loops of its unit, and enough results
pub record FrameFits (cells : List Cell) (loops results : ℕ) (m : Frame) : Type 0 where
  pub words : length m.words ≡ words_of cells
  pub counts : loops ≤ length m.loops
  pub done : results ≤ length m.results

pub record Fits (cells : List Cell) (loops : ℕ) (ks : List Kind) (s : List ℤ) (b : Scratch) (m : Frame) : Type 0 where
  pub stands : Stands ks s (reverse b.operands)
  pub counts : LoopStands cells loops (last_loop ks) b.counts
  pub frame : FrameFits cells loops (results_in ks) m

-- operands fit, one for one
abbrev pub AllFit : List Passed → List Operand → Type 0
AllFit [] [] = Unit {0}
AllFit [] (o ∷ os) = ⊥
AllFit (p ∷ ps) [] = ⊥
AllFit (p ∷ ps) (o ∷ os) = OperandFits p o × AllFit ps os

-- operands that are passed to a unit fit its formals
pub record Fitted (ss : Shapes) (u : Shape) (n : ℕ) (os : List Operand) : Type 0 where
  pub callee : Shape
  pub there : slice_get ss.units n ≡ Some callee
  pub passed : List Passed
  pub fit : fit_formals u.cells callee.cells 1 passed ≡ true
  pub all : AllFit passed os

-- a statement that ends isn't stuck, and what it passes fits
abbrev pub Fine : Shapes → Shape → StatementEnd → Type 0
Fine ss u (acts.Goes to m) = Unit {0}
Fine ss u (acts.Prints to line) = Unit {0}
Fine ss u (acts.Calls n to operands) = Fitted ss u n operands
Fine ss u (acts.Refers n to operands) = Fitted ss u n operands
Fine ss u acts.Returns = Unit {0}
Fine ss u (acts.ReturnsValue v) = Unit {0}
Fine ss u (acts.Starts n to operands place) = Fitted ss u n operands
Fine ss u (acts.Closes port to) = Unit {0}
Fine ss u (acts.Moves from into to) = Unit {0}
Fine ss u (acts.Fails fault) = Unit {0}
Fine ss u (acts.Asks a) = Unit {0}
Fine ss u acts.Stuck = ⊥

abbrev pub FailsAlone : StatementEnd → Type 0
FailsAlone (acts.Goes to m) = ⊥
FailsAlone (acts.Prints to line) = ⊥
FailsAlone (acts.Calls n to operands) = ⊥
FailsAlone (acts.Refers n to operands) = ⊥
FailsAlone acts.Returns = ⊥
FailsAlone (acts.ReturnsValue v) = ⊥
FailsAlone (acts.Starts n to operands place) = ⊥
FailsAlone (acts.Closes port to) = ⊥
FailsAlone (acts.Moves from into to) = ⊥
FailsAlone (acts.Fails fault) = Unit {0}
FailsAlone (acts.Asks a) = ⊥
FailsAlone acts.Stuck = ⊥

-- an instruction that goes on leaves what fits the list behind it, or ends with a fault
abbrev pub GoesOn : List Cell → ℕ → List Kind → Frame → Act → Type 0
GoesOn cells loops ks m (acts.On s b) = Fits cells loops ks s b m
GoesOn cells loops ks m (acts.Over t) = FailsAlone t

-- one that ends its statement does so
abbrev pub EndsFine : Shapes → Shape → Act → Type 0
EndsFine ss u (acts.On s b) = ⊥
EndsFine ss u (acts.Over t) = Fine ss u t
