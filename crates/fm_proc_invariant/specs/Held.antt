-- The words of a frame with the slots of its process, and what changes of them are to the ports of the process.
-- Source: the Fortran M report (ports belong to one process); this profile.
use Rattle.std.specs.Prelude.{◌≡◌, ℕ, ◌+◌, ◌≤◌, ◌<◌, ℤ, Bool, true, false, List, [], ◌++◌, length}
use Rattle.fm_base.specs.declared.port.PortValue.{PortValue}
use Rattle.fm_code.specs.declared.ask.Operand.{Operand}
use Rattle.fm_code.specs.declared.ask.Operand.TheVariants as operand
use Rattle.fm_code.specs.declared.body.Back.{Back}
use Rattle.fm_code.specs.declared.code.Span.{Span}
use Rattle.fm_code.specs.Acts.{span_of}
use Rattle.fm_code.specs.Passing.{given_span, got_span, ports_in}
use Rattle.fm_net.specs.Owned.{count}
use Rattle.fm_code_preserves.specs.Weights.{masked, weight}
use Rattle.fm_proc_language.specs.Slots.{Slots}
use Rattle.fm_proc_language.specs.Frames.{Held, Joined, moved_over}
use Rattle.fm_proc_invariant.specs.Moves.{IsUsed, Moves, port_weight, port_words}

-- the words of a process, one frame of which has these; a test of their numbers tells which are port words
abbrev pub with_others : (ℕ → Bool) → List ℤ → List ℤ → List ℤ
with_others mask ws others = port_words mask 0 ws ++ others

abbrev pub UsedBy : (ℕ → Bool) → List ℤ → Held → Type 0
UsedBy mask others h = IsUsed h.slots (with_others mask h.words others)

-- the frame and the slots after a change: ports that came in, and ports that went out
pub record HeldMoves (mask : ℕ → Bool) (others : List ℤ) (h after : Held) (ins outs : List PortValue) : Type 0 where
  pub moves : Moves h.slots (with_others mask h.words others) after.slots (with_others mask after.words others) ins outs
  pub count : length after.words ≡ length h.words

-- the words of a span: all are port words, or none is
pub record AreMasked (mask : ℕ → Bool) (count : ℕ) (s : Span) (port : Bool) : Type 0 where
  pub end : s.first + s.count ≤ count
  pub kind : (k : ℕ) → s.first ≤ k → k < s.first + s.count → mask k ≡ port

-- an operand that is sent, and one that is stored into, in a frame of so many words
abbrev pub MaySend : (ℕ → Bool) → ℕ → Operand → Type 0
MaySend mask n (operand.Value v) = Unit {0}
MaySend mask n (operand.Words s) = Unit {0}
MaySend mask n (operand.Ports s) = AreMasked mask n s true

abbrev pub MayStore : (ℕ → Bool) → ℕ → Operand → Type 0
MayStore mask n (operand.Value v) = Unit {0}
MayStore mask n (operand.Words s) = AreMasked mask n s false
MayStore mask n (operand.Ports s) = AreMasked mask n s true

-- port words that go over to other slots: out of the one's slots, into the other's; words before them are as they were
pub record GoesOver (ss : List Span) (n : ℕ) (ws : List ℤ) (from to : Slots) (rest low : List ℤ) : Type 0 where
  pub outs : List PortValue
  pub parent : Moves from (ports_in ss ws ++ rest) (moved_over ss ws from to).1.0 rest [] outs
  pub child : Moves to low (moved_over ss ws from to).1.1 (ports_in ss (moved_over ss ws from to).0 ++ low) outs []
  pub same_count : length (moved_over ss ws from to).0 ≡ length ws
  pub before : (j k : ℕ) → j + k ≤ n → span_of (moved_over ss ws from to).0 (record { first = j; count = k }) ≡ span_of ws (record { first = j; count = k })

-- both spans of what is given back are words of one kind
pub record BackIsMasked (mine theirs : ℕ → Bool) (n k : ℕ) (b : Back) : Type 0 where
  pub got : AreMasked mine n (got_span b) b.port
  pub given : AreMasked theirs k (given_span b) b.port

module _ (mine theirs : ℕ → Bool) (my_others their_others : List ℤ) where
  -- ports that the parent holds, those that the child holds, and those that are let go
  abbrev pub all_held : PortValue → Joined → ℕ
  all_held z j =
      weight (port_weight j.mine.slots z) (with_others mine j.mine.words my_others)
      + weight (port_weight j.theirs.slots z) (with_others theirs j.theirs.words their_others)
      + count z j.drops

  pub record BothUsed (j : Joined) : Type 0 where
    pub mine_used : UsedBy mine my_others j.mine
    pub theirs_used : UsedBy theirs their_others j.theirs

  pub record Gives (j after : Joined) : Type 0 where
    pub used : BothUsed after
    pub same : (z : PortValue) → all_held z after ≡ all_held z j
    pub mine_count : length after.mine.words ≡ length j.mine.words
    pub theirs_count : length after.theirs.words ≡ length j.theirs.words

  -- where all that the child has is let go besides
  pub record Dropped (j : Joined) (out : List PortValue) : Type 0 where
    pub used : UsedBy mine my_others j.mine
    pub same : (z : PortValue) → weight (port_weight j.mine.slots z) (with_others mine j.mine.words my_others) + count z (j.drops ++ out) ≡ all_held z j

-- of a frame that ends: its words then, and the port words that are let go
pub record KeepsSome (mask : ℕ → Bool) (ws : List ℤ) (r : List ℤ × List ℤ) : Type 0 where
  pub same_count : length r.0 ≡ length ws
  pub weighs : (g : ℤ → ℕ) → masked mask g 0 r.0 + weight g r.1 ≡ masked mask g 0 ws
