-- Room for what operands send and receive.
-- Source: this profile.
use Rattle.std.specs.Prelude.{ℕ, ◌+◌, max, min, List, [], ◌∷◌}
use Rattle.fm_code.specs.declared.ask.Operand.{Operand}
use Rattle.fm_code.specs.declared.ask.Operand.TheVariants as operand

-- how many words there are after so many came over those from a place on, of which those behind the last are added
abbrev pub grown : (len at count : ℕ) → ℕ
grown n k count = max n (min n k + count)

-- at most, after words came to an operand or left it
abbrev pub operand_grown : ℕ → Operand → ℕ
operand_grown n (operand.Value v) = n
operand_grown n (operand.Words s) = grown n s.first s.count
operand_grown n (operand.Ports s) = grown n s.first s.count

-- and to or from these, one after the other
abbrev pub reach : ℕ → List Operand → ℕ
reach n [] = n
reach n (o ∷ os) = reach (operand_grown n o) os

-- as many ports as an operand names at most
abbrev pub operand_ports : Operand → ℕ
operand_ports (operand.Value v) = 0
operand_ports (operand.Words s) = 0
operand_ports (operand.Ports s) = s.count

abbrev pub ports_room : List Operand → ℕ
ports_room [] = 0
ports_room (o ∷ os) = operand_ports o + ports_room os

-- as many words and ports as it sends at most
abbrev pub operand_words : Operand → ℕ
operand_words (operand.Value v) = 1
operand_words (operand.Words s) = s.count
operand_words (operand.Ports s) = s.count

abbrev pub words_room : List Operand → ℕ
words_room [] = 0
words_room (o ∷ os) = operand_words o + words_room os
