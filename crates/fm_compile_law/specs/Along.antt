-- What code that goes on and on leaves on a list of kinds, and what operands leave there.
-- Source: this profile.
use Rattle.std.specs.Prelude.{◌≡◌, ℕ, zero, suc, Option, Some, None, List, [], ◌∷◌, reverse}
use Rattle.fm_code.specs.declared.code.Span.{Span}
use Rattle.fm_code.specs.declared.instr.Instr.{Instr}
use Rattle.fm_code.specs.declared.instr.Instr.TheVariants as instr
use Rattle.fm_code_kinds.specs.declared.kinds.Kind.{Kind}
use Rattle.fm_code_kinds.specs.declared.kinds.Kind.TheVariants.{Word, Operand}
use Rattle.fm_code_kinds.specs.declared.kinds.Passed.{Passed}
use Rattle.fm_code_kinds.specs.declared.sorts.Cell.{Cell}
use Rattle.fm_code_kinds.specs.declared.sorts.Sort.{Sort}
use Rattle.fm_code_kinds.specs.Shapes.{sort_at}
use Rattle.fm_code_kinds.specs.Effects.{evaluated, built, operands_over}

abbrev pub then_on : Option (List Kind) → (List Kind → Option (List Kind)) → Option (List Kind)
then_on None f = None
then_on (Some ks) f = f ks

-- an instruction that ends its statement doesn't go on
abbrev pub straight : List Cell → (loops : ℕ) → Instr → List Kind → Option (List Kind)
straight cs n (instr.Eval i) ks = evaluated cs i ks
straight cs n (instr.Build i) ks = built cs n i ks
straight cs n (instr.End i) ks = None
straight cs n (instr.Meet i) ks = None

-- in a unit with these words and so many loops
abbrev pub along : List Cell → (loops : ℕ) → List Instr → List Kind → Option (List Kind)
along cs n [] ks = Some ks
along cs n (i ∷ is) ks = then_on (straight cs n i ks) (λ ms. along cs n is ms)

-- ---- what is left on a list

pub record LeavesWord (cs : List Cell) (n : ℕ) (is : List Instr) (ks : List Kind) : Type 0 where
  pub told : Option Span
  pub leaves : along cs n is ks ≡ Some (Word told ∷ ks)

-- so many words on top, the one that lies deepest first
abbrev pub AreWordsOver : ℕ → (under over : List Kind) → Type 0
AreWordsOver zero ks ms = ms ≡ ks
AreWordsOver (suc k) ks ms = (told : Option Span) × AreWordsOver k (Word told ∷ ks) ms

pub record LeavesWords (cs : List Cell) (n count : ℕ) (is : List Instr) (ks : List Kind) : Type 0 where
  pub left : List Kind
  pub leaves : along cs n is ks ≡ Some left
  pub words : AreWordsOver count ks left

-- the number of one of some words, which are of this sort
pub record LeavesPlace (cs : List Cell) (n : ℕ) (sort : Sort) (is : List Instr) (ks : List Kind) : Type 0 where
  pub among : Span
  pub leaves : along cs n is ks ≡ Some (Word (Some among) ∷ ks)
  pub of : sort_at cs among ≡ Some sort

-- operands, the first first
pub record LeavesOperands (cs : List Cell) (n : ℕ) (Are : List Passed → Type 0) (is : List Instr) (ks : List Kind) : Type 0 where
  pub operands : List Passed
  pub leaves : along cs n is ks ≡ Some (operands_over (reverse operands) ks)
  pub are : Are operands

pub record LeavesOperand (cs : List Cell) (n : ℕ) (Is : Passed → Type 0) (code : List Instr) (ks : List Kind) : Type 0 where
  pub operand : Passed
  pub leaves : along cs n code ks ≡ Some (Operand operand ∷ ks)
  pub is : Is operand
