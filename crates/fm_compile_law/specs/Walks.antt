-- Code that is walked through from a list of kinds to another.
-- Source: this profile.
use Rattle.std.specs.Prelude.{◌≡◌, ℕ, zero, suc, false, Option, Some, None, List, [], ◌∷◌}
use Rattle.fm_net.specs.Typed.{AllIn}
use Rattle.fm_code.specs.declared.instr.Instr.{Instr}
use Rattle.fm_code_kinds.specs.declared.kinds.Kind.{Kind}
use Rattle.fm_code_kinds.specs.declared.sorts.Shape.{Shape}
use Rattle.fm_code_kinds.specs.declared.sorts.Shapes.{Shapes}
use Rattle.fm_code_kinds.specs.Effects.{Effect, On, Over, Ill, effect}
use Rattle.fm_code_kinds.specs.Kinded.{results}
use Rattle.fm_code_kinds.specs.Leading.{is_begin, is_join}

-- the list behind an instruction
abbrev pub behind : Effect → List Kind
behind (On ks) = ks
behind (Over to n) = results n
behind Ill = []

abbrev pub IsNotEmpty : List Instr → Type 0
IsNotEmpty is = is ≡ [] → ⊥

-- where an instruction that ends its statement leads: to good addresses, at which nothing stands; or to the next one
pub data LeadsOn (Good : ℕ → Type 0) (at : ℕ) (more : List Instr) (to : List ℕ) (n : ℕ) : Type 0 where
  Elsewhere : AllIn Good to → n ≡ 0 → LeadsOn Good at more to n
  Next : to ≡ suc at ∷ [] → IsNotEmpty more → LeadsOn Good at more to n

-- an instruction finds what it takes, and leads on
abbrev pub StepsWell : (Good : ℕ → Type 0) → (at : ℕ) → (more : List Instr) → Effect → Type 0
StepsWell Good at more (On ks) = IsNotEmpty more
StepsWell Good at more (Over to n) = LeadsOn Good at more to n
StepsWell Good at more Ill = ⊥

abbrev pub first_of : List Instr → Option Instr
first_of [] = None
first_of (i ∷ is) = Some i

-- behind an instruction that begins a block, and behind no other, stands one that joins it
abbrev pub Joined : Instr → List Instr → Type 0
Joined i more = is_join (first_of more) ≡ is_begin i

-- so it is with each of these, the first of which stands at this address, with a list
abbrev pub Steps : (Good : ℕ → Type 0) → Shapes → Shape → (loops at : ℕ) → List Instr → (from to : List Kind) → Type 0
Steps Good ss u n at [] ks ms = ks ≡ ms
Steps Good ss u n at (i ∷ is) ks ms = StepsWell Good at is (effect ss u n at i ks) × Joined i is × Steps Good ss u n (suc at) is (behind (effect ss u n at i ks)) ms

-- and the first one joins no block
abbrev pub Walks : (Good : ℕ → Type 0) → Shapes → Shape → (loops at : ℕ) → List Instr → (from to : List Kind) → Type 0
Walks Good ss u n at is ks ms = (is_join (first_of is) ≡ false) × Steps Good ss u n at is ks ms

-- the list at an address, counted from the first of these
abbrev pub walked : Shapes → Shape → (loops at a : ℕ) → List Instr → List Kind → List Kind
walked ss u n at zero is ks = ks
walked ss u n at (suc a) [] ks = ks
walked ss u n at (suc a) (i ∷ is) ks = walked ss u n (suc at) a is (behind (effect ss u n at i ks))
