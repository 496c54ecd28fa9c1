-- The children of a process by their numbers.
-- Source: this profile.
use Rattle.std.specs.Prelude.{◌≡◌, ℕ, suc, Bool, false, Option, Some, None, List, [], ◌∷◌, slice_get}
use Rattle.fm_net.specs.Machine.{Place, child}

-- these are the numbers of the children of a block, from this index on, in the order of starting
abbrev pub AreNumbered : List Place → Place → (block index : ℕ) → List ℕ → Type 0
AreNumbered order p b i [] = Unit {0}
AreNumbered order p b i (n ∷ ns) = (slice_get order n ≡ Some (child p b i)) × AreNumbered order p b (suc i) ns

-- somebody is there who has ended
abbrev pub is_over : {Proc : Type 0} → (Proc → Bool) → Option Proc → Bool
is_over has_ended None = false
is_over has_ended (Some x) = has_ended x
