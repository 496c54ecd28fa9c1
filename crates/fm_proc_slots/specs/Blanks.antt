-- The items of a message before they are built.
-- Source: this profile.
use Rattle.std.specs.Prelude.{◌≡◌, ℕ, ℤ, ◌≤◌, Option, List, [], ◌∷◌}
use Rattle.fm_base.specs.declared.port.PortValue.{PortValue}
use Rattle.fm_code.specs.declared.ask.Operand.{Operand}
use Rattle.fm_code.specs.declared.ask.Operand.TheVariants as operand
use Rattle.fm_code.specs.Passing.{nulls}
use Rattle.fm_proc_slots.specs.Operands.{operand_ports}

-- the words with which an item begins: a value itself, or the NULLs that ports leave
abbrev pub first_words : Operand → List ℤ
first_words (operand.Value v) = v ∷ []
first_words (operand.Words s) = []
first_words (operand.Ports s) = nulls s.count

-- as many words of the frame as come to it at most
abbrev pub words_to_come : Operand → ℕ
words_to_come (operand.Value v) = 0
words_to_come (operand.Words s) = s.count
words_to_come (operand.Ports s) = 0

-- what an item is built of, with room for the words and ports that come
pub record IsBlank (o : Operand) (ws : List ℤ) (words_room : ℕ) (ps : List (Option PortValue)) (room : ℕ) : Type 0 where
  pub words : ws ≡ first_words o
  pub words_come : words_to_come o ≤ words_room
  pub ports : ps ≡ []
  pub ports_come : operand_ports o ≤ room
