-- When opening a frame lets nothing go: each port that is taken finds a NULL at its formal.
-- Source: this profile.
use Rattle.std.specs.Prelude.{◌≡◌, ◌<◌, ℕ, zero, suc, Option, Some, None, List, [], ◌∷◌, length, slice_get}
use Rattle.fm_base.specs.declared.port.PortValue.{PortValue}
use Rattle.fm_base.specs.Channels.{Item}
use Rattle.fm_mean.specs.Names.{ProgramUnit, formal_place, all_unset}
use Rattle.fm_mean.specs.declared.place.Actual.{Actual}
use Rattle.fm_mean.specs.declared.place.Actual.TheVariants.{Given, Taken}
use Rattle.fm_mean.specs.Places.{items_at, ports_in}

-- what stands at an element, if that is one of ports
abbrev pub element_in : List Item → (variable element : ℕ) → Option (Option PortValue)
element_in vs i k = slice_get (ports_in (items_at vs i)) k

-- so many elements of a variable from one on are NULL
abbrev pub AreNull : List Item → (variable first count : ℕ) → Type 0
AreNull vs i k zero = Unit {0}
AreNull vs i k (suc n) = (element_in vs i k ≡ Some None) × AreNull vs i (suc k) n

-- the formals from this number on have room for these arguments
abbrev pub HaveRoom : ProgramUnit → ℕ → List Item → List Actual → Type 0
HaveRoom u n vs [] = Unit {0}
HaveRoom u n vs (Given ws back ∷ more) = HaveRoom u (suc n) vs more
HaveRoom u n vs (Taken s ∷ more) = (formal_place u n < length u.names.variables) × AreNull vs (formal_place u n) 0 s.count × HaveRoom u (suc n) vs more

-- a unit that is called has room for its arguments
abbrev pub Admits : ProgramUnit → List Actual → Type 0
Admits u args = HaveRoom u 1 (all_unset u.names.variables) args
