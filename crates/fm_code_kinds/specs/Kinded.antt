-- What it means that a unit's code has a list of kinds for each address.
-- Source: this profile.
use Rattle.std.specs.Prelude.{◌≡◌, ℕ, suc, ◌<◌, Some, List, [], ◌∷◌, length, replicate, slice_get}
use Rattle.fm_code.specs.declared.instr.Instr.{Instr}
use Rattle.fm_code_kinds.specs.declared.kinds.Kind.{Kind}
use Rattle.fm_code_kinds.specs.declared.kinds.Kind.TheVariants.{Returned}
use Rattle.fm_code_kinds.specs.declared.sorts.Shape.{Shape}
use Rattle.fm_code_kinds.specs.declared.sorts.Shapes.{Shapes}
use Rattle.fm_code_kinds.specs.Effects.{Effect, On, Over, Ill, effect}

-- the code of a unit, with the addresses at which its statements begin and the number of its loops
pub record Coded : Type 0 where
  pub entries : List ℕ
  pub loops : ℕ
  pub code : List Instr

abbrev pub Lists : Type 0
Lists = ℕ → List Kind

abbrev pub results : ℕ → List Kind
results n = replicate n Returned

-- the address is in the code, and this list stands there
pub record IsAt (code : List Instr) (lists : Lists) (to : ℕ) (ks : List Kind) : Type 0 where
  pub inside : to < length code
  pub list : lists to ≡ ks

abbrev pub AreAt : List Instr → Lists → List ℕ → List Kind → Type 0
AreAt code lists [] ks = Unit {0}
AreAt code lists (t ∷ ts) ks = IsAt code lists t ks × AreAt code lists ts ks

-- what an instruction at an address leads to has its lists. Behind one that ends its statement another statement begins: nothing is
-- there but results of its references
abbrev pub IsFine : List Instr → Lists → (at : ℕ) → Effect → Type 0
IsFine code lists at (On ks) = IsAt code lists (suc at) ks
IsFine code lists at (Over to n) = AreAt code lists to (results n) × (lists (suc at) ≡ results n)
IsFine code lists at Ill = ⊥

pub record AreKinds (ss : Shapes) (u : Shape) (c : Coded) (lists : Lists) : Type 0 where
  -- nothing is there where the code begins
  pub first : lists 0 ≡ []
  -- nor where an entry does
  pub entries : (i a : ℕ) → slice_get c.entries i ≡ Some a → IsAt c.code lists a []
  pub each : (a : ℕ) (i : Instr) → slice_get c.code a ≡ Some i → IsFine c.code lists a (effect ss u c.loops a i (lists a))

abbrev pub Kinded : Shapes → Shape → Coded → Type 0
Kinded ss u c = (lists : Lists) × AreKinds ss u c lists
