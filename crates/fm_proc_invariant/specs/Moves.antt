-- When the words of a process name slots in use, each once; and how ports come to slots and leave them.
-- Source: the Fortran M report (ports belong to one process); this profile.
use Rattle.std.specs.Prelude.{◌≡◌, ℕ, suc, zero, ◌+◌, ◌≤◌, ℤ, pos, negsuc, Bool, cond, Option, Some, None, List, [], ◌∷◌, slice_get}
use Rattle.std.specs.Ordering.{int_eq}
use Rattle.fm_base.specs.declared.port.PortValue.{PortValue}
use Rattle.fm_code.specs.Passing.{is_port}
use Rattle.fm_net.specs.Owned.{count, one}
use Rattle.fm_net.specs.Typed.{AllIn}
use Rattle.fm_code_preserves.specs.Weights.{weight}
use Rattle.fm_proc_language.specs.Slots.{Slots, port_in}

-- nothing of the list stands in it twice
abbrev pub IsOther : ℕ → List ℕ → Type 0
IsOther k [] = Unit {0}
IsOther k (j ∷ js) = (k ≡ j → ⊥) × IsOther k js

abbrev pub AreOnce : List ℕ → Type 0
AreOnce [] = Unit {0}
AreOnce (k ∷ ks) = IsOther k ks × AreOnce ks

-- no port stands in a slot that is free
pub record IsSlots (s : Slots) : Type 0 where
  pub empty : AllIn (λ (k : ℕ). slice_get s.ports k ≡ Some None) s.free
  pub once : AreOnce s.free

-- 1 where a port stands there, else 0
abbrev pub use_in : Option (Option PortValue) → ℕ
use_in None = 0
use_in (Some None) = 0
use_in (Some (Some x)) = 1

-- 1 where the word names a slot in use, else 0
abbrev pub use_of : Slots → ℤ → ℕ
use_of s (pos zero) = 0
use_of s (pos (suc k)) = use_in (slice_get s.ports k)
use_of s (negsuc n) = 0

-- 1 for this word, 0 for any other
abbrev pub same_word : ℤ → ℤ → ℕ
same_word w v = cond (int_eq v w) 1 0

-- the words name slots in use, each once
pub record IsUsed (s : Slots) (ws : List ℤ) : Type 0 where
  pub slots : IsSlots s
  pub once : (w : ℤ) → weight (same_word w) ws ≤ use_of s w

-- 1 where the word names this port, else 0
abbrev pub port_weight : Slots → PortValue → ℤ → ℕ
port_weight s z w = one (port_in s w) z

-- from slots with these words to slots with those: ports that came in, and ports that went out
pub record Moves (s : Slots) (ws : List ℤ) (t : Slots) (us : List ℤ) (ins outs : List PortValue) : Type 0 where
  pub used : IsUsed s ws → IsUsed t us
  pub same : IsUsed s ws → (z : PortValue) → weight (port_weight t z) us + count z outs ≡ weight (port_weight s z) ws + count z ins

-- the port words of a frame that a test of their numbers tells, from this number on
abbrev pub port_words : (ℕ → Bool) → ℕ → List ℤ → List ℤ
port_words mask n [] = []
port_words mask n (w ∷ ws) = cond (mask n) (cond (is_port w) (w ∷ port_words mask (suc n) ws) (port_words mask (suc n) ws)) (port_words mask (suc n) ws)
