-- How the words of a frame, with ports in the slots of its process, stand for values.
-- Source: this profile.
use Rattle.std.specs.Prelude.{◌≡◌, ℕ, suc, ℤ, pos, Some, None, List, [], ◌∷◌, ◌++◌, length, slice_get}
use Rattle.fm_base.specs.declared.port.PortValue.{PortValue}
use Rattle.fm_base.specs.Channels.{Item}
use Rattle.fm_net.specs.Typed.{AllIn}
use Rattle.fm_symbols.specs.declared.names.Variable.{Variable}
use Rattle.fm_code.specs.Passing.{ports_in}
use Rattle.fm_gen_relation.specs.Standing.{values_in}
use Rattle.fm_gen_relation.specs.Formals.{ports_of}
use Rattle.fm_proc_language.specs.Slots.{Slots, port_in}
use Rattle.fm_proc_language.specs.Frames.{Held}

-- the word names a slot in which a port stands
pub record IsHeld (s : Slots) (z : ℤ) : Type 0 where
  pub before : ℕ
  pub port : PortValue
  pub number : z ≡ pos (suc before)
  pub there : slice_get s.ports before ≡ Some (Some port)

-- nothing of the list stands in it twice
abbrev pub IsOther : {X : Type 0} → X → List X → Type 0
IsOther x [] = Unit {0}
IsOther x (y ∷ ys) = (x ≡ y → ⊥) × IsOther x ys

abbrev pub AreOnce : {X : Type 0} → List X → Type 0
AreOnce [] = Unit {0}
AreOnce (x ∷ xs) = IsOther x xs × AreOnce xs

-- no port stands in a slot that is free
pub record IsSlots (s : Slots) : Type 0 where
  pub empty : AllIn (λ (k : ℕ). slice_get s.ports k ≡ Some None) s.free
  pub once : AreOnce s.free

-- The words of a frame, by variables, with the slots of its process: they stand for these values; the port words of the frame,
-- and others of the process, name slots in use, each one once.
pub record HeldStands (vs : List Variable) (others : List ℤ) (h : Held) (xs : List Item) : Type 0 where
  pub values : xs ≡ values_in (port_in h.slots) vs h.words
  pub slots : IsSlots h.slots
  pub held : AllIn (IsHeld h.slots) (ports_in (ports_of vs) h.words ++ others)
  pub once : AreOnce (ports_in (ports_of vs) h.words ++ others)

-- these words name the same ports in both
abbrev pub NameTheSame : List ℤ → Slots → Slots → Type 0
NameTheSame others s t = AllIn (λ z. port_in t z ≡ port_in s z) others

-- The words and slots after a change: they stand for these values, and others still name what they named.
pub record GoesTo (vs : List Variable) (others : List ℤ) (h : Held) (after : Held) (xs : List Item) : Type 0 where
  pub stands : HeldStands vs others after xs
  pub same : NameTheSame others h.slots after.slots
  pub count : length after.words ≡ length h.words
