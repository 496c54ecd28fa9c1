-- Room for the words of a frame, operand by operand.
use Rattle.std.proofs.Common.{◌≡◌, ℕ, ◌≤◌, List, [], ◌∷◌, ap, arith}
use Rattle.fm_code.specs.declared.ask.Operand.{Operand}
use Rattle.fm_code.specs.declared.ask.Operand.TheVariants as operand
use Rattle.fm_proc_slots.specs.Operands.{grown, operand_grown, reach}

pub grown_least : (n k count : ℕ) → n ≤ grown n k count
grown_least n k count = omega arith

grown_more : (n m k count : ℕ) → n ≤ m → grown n k count ≤ grown m k count
grown_more n m k count h = omega (arith, h)

pub operand_least : (n : ℕ) (o : Operand) → n ≤ operand_grown n o
operand_least n (operand.Value v) = omega arith
operand_least n (operand.Words s) = grown_least n s.first s.count
operand_least n (operand.Ports s) = grown_least n s.first s.count

operand_more : (n m : ℕ) (o : Operand) → n ≤ m → operand_grown n o ≤ operand_grown m o
operand_more n m (operand.Value v) h = h
operand_more n m (operand.Words s) h = grown_more n m s.first s.count h
operand_more n m (operand.Ports s) h = grown_more n m s.first s.count h

pub reach_least : (n : ℕ) (os : List Operand) → n ≤ reach n os
reach_least n [] = omega arith
reach_least n (o ∷ os) = omega (arith, operand_least n o, reach_least (operand_grown n o) os)

reach_more : (n m : ℕ) (os : List Operand) → n ≤ m → reach n os ≤ reach m os
reach_more n m [] h = h
reach_more n m (o ∷ os) h = reach_more (operand_grown n o) (operand_grown m o) os (operand_more n m o h)

module _ (all rest : List Operand) (o : Operand) (is : all ≡ o ∷ rest) where
  -- room for the next one
  pub words_now : (n room : ℕ) → reach n all ≤ room → operand_grown n o ≤ room
  words_now n room h = omega (arith, h, ap (reach n) is, reach_least (operand_grown n o) rest)

  -- and for the others then
  pub words_then : (n n' room room' : ℕ) → reach n all ≤ room → n' ≤ operand_grown n o → room ≤ room' → reach n' rest ≤ room'
  words_then n n' room room' h f g = omega (arith, h, g, ap (reach n) is, reach_more n' (operand_grown n o) rest f)
