-- What comes into the words of a frame and out of them, with ports in their slots.
-- Source: this profile; ANSI X3.9-1978, sections 15.5 to 15.9, and the Fortran M report for what is copied, sent and received.
use Rattle.std.specs.Prelude.{ℕ, zero, suc, ℤ, ◌==◌, Bool, not, ◌&&◌, cond, Option, Some, None, List, [], ◌∷◌, ◌++◌, length, take, option_to_list, slice_set}
use Rattle.std.specs.List.{list_any}
use Rattle.fm_base.specs.declared.port.PortValue.{PortValue}
use Rattle.fm_base.specs.Channels.{Item, Words, Ports, Message, item_ports, message_ports}
use Rattle.fm_code.specs.declared.ask.Operand.{Operand}
use Rattle.fm_code.specs.declared.ask.Operand.TheVariants as operand
use Rattle.fm_code.specs.declared.body.Back.{Back}
use Rattle.fm_code.specs.declared.code.Span.{Span}
use Rattle.fm_code.specs.declared.code.Formal.{Formal}
use Rattle.fm_code.specs.Acts.{span_of}
use Rattle.fm_code.specs.Passing.{spliced, nulls, live, given_span}
use Rattle.fm_code.specs.Statements.{word_at}
use Rattle.fm_proc_language.specs.Slots.{Slots, taken, all_taken, put_any, all_put}

-- the words of a frame, and the slots of its process
pub record Held : Type 0 where
  pub words : List ℤ
  pub slots : Slots

-- Exchange.

-- what stands at a port word is exchanged for another: what came out
abbrev pub exchanged : Held → ℕ → Option PortValue → Held × Option PortValue
exchanged h k x =
    let out = taken h.slots (word_at h.words k) in
    let new = put_any out.1 x in
    (record { words = slice_set h.words k new.0; slots = new.1 }, out.0)

-- one after the other: what came out in order
abbrev pub all_exchanged : Held → ℕ → List (Option PortValue) → Held × List PortValue
all_exchanged h k [] = (h, [])
all_exchanged h k (x ∷ xs) =
    ((all_exchanged (exchanged h k x).0 (suc k) xs).0, option_to_list (exchanged h k x).1 ++ (all_exchanged (exchanged h k x).0 (suc k) xs).1)

-- Messages.

-- an item, whose ports leave NULL
abbrev pub item_from : Held → Operand → Held × Item
item_from h (operand.Value v) = (h, Words (v ∷ []))
item_from h (operand.Words s) = (h, Words (span_of h.words s))
item_from h (operand.Ports s) = (
  record { words = spliced h.words s.first (nulls s.count); slots = (all_taken h.slots (span_of h.words s)).1 },
  Ports (all_taken h.slots (span_of h.words s)).0,
)

-- from left to right
abbrev pub message_from : Held → List Operand → Held × Message
message_from h [] = (h, [])
message_from h (o ∷ os) = ((message_from (item_from h o).0 os).0, (item_from h o).1 ∷ (message_from (item_from h o).0 os).1)

-- an item is stored: what is let go
abbrev pub stored : Held → Operand → Item → Held × List PortValue
stored h (operand.Words s) (Words ns) = (record h { words = spliced h.words s.first (take s.count ns) }, [])
stored h (operand.Words s) (Ports ps) = (h, item_ports (Ports ps))
stored h (operand.Ports s) (Words ns) = (h, [])
stored h (operand.Ports s) (Ports ps) = all_exchanged h s.first (take s.count ps)
stored h (operand.Value v) i = (h, item_ports i)

-- the items of a message one after the other; what finds no place is let go
abbrev pub all_stored : Held → List Operand → Message → Held × List PortValue
all_stored h os [] = (h, [])
all_stored h [] (m ∷ ms) = (h, message_ports (m ∷ ms))
all_stored h (o ∷ os) (m ∷ ms) = ((all_stored (stored h o m).0 os ms).0, (stored h o m).1 ++ (all_stored (stored h o m).0 os ms).1)

-- Channels.

-- the words of outports, one by one
abbrev pub words_from : ℕ → ℕ → List ℕ
words_from k zero = []
words_from k (suc n) = k ∷ words_from (suc k) n

abbrev pub port_words : List Operand → List ℕ
port_words [] = []
port_words (operand.Value v ∷ os) = port_words os
port_words (operand.Words s ∷ os) = words_from s.first s.count ++ port_words os
port_words (operand.Ports s ∷ os) = words_from s.first s.count ++ port_words os

-- ports that were made, each to its word; what finds none is let go
abbrev pub all_placed : Held → List ℕ → List PortValue → Held × List PortValue
all_placed h ks [] = (h, [])
all_placed h [] (x ∷ xs) = (h, x ∷ xs)
all_placed h (k ∷ ks) (x ∷ xs) =
    ((all_placed (exchanged h k (Some x)).0 ks xs).0, option_to_list (exchanged h k (Some x)).1 ++ (all_placed (exchanged h k (Some x)).0 ks xs).1)

-- Children.

-- port words of these spans, which come to other slots one after the other
abbrev pub moved_over : List Span → List ℤ → (from to : Slots) → List ℤ × (Slots × Slots)
moved_over [] ws from to = (ws, (from, to))
moved_over (s ∷ ss) ws from to =
    let out = all_taken from (span_of ws s) in
    let new = all_put to out.0 in
    moved_over ss (spliced ws s.first new.0) out.1 new.1

-- What is given back to a parent: the words of both, the slots of both, and the ports that are let go.
pub record Joined : Type 0 where
  pub mine : Held
  pub theirs : Held
  pub drops : List PortValue

-- a port goes to its word; a NULL isn't copied back
abbrev pub port_settled : Joined → (to : ℕ) → Held → Option PortValue → Joined
port_settled j to theirs None = j
port_settled j to theirs (Some x) = record {
  mine = (exchanged j.mine to (Some x)).0;
  theirs = theirs;
  drops = j.drops ++ option_to_list (exchanged j.mine to (Some x)).1;
}

abbrev pub port_given : Joined → (from to : ℕ) → Joined
port_given j from to = port_settled j to (exchanged j.theirs from None).0 (exchanged j.theirs from None).1

abbrev pub ports_given : Joined → (from to count : ℕ) → Joined
ports_given j from to zero = j
ports_given j from to (suc n) = ports_given (port_given j from to) (suc from) (suc to) n

abbrev pub one_given : Joined → Back → Joined
one_given j b = cond b.port (ports_given j b.from b.to b.words)
    (record j { mine = record j.mine { words = spliced j.mine.words b.to (span_of j.theirs.words (given_span b)) } })

abbrev pub all_given : Joined → List Back → Joined
all_given j [] = j
all_given j (b ∷ bs) = all_given (one_given j b) bs

-- The end of a process.

-- whether ports are those of a formal that is kept
abbrev pub is_kept : List Formal → Span → Bool
is_kept fs s = list_any (λ f. f.port && not f.input && (f.span.first == s.first)) fs

-- the words with NULL at each place of a span that they have
abbrev pub nulled : List ℤ → Span → List ℤ
nulled ws s = spliced ws s.first (nulls (length (span_of ws s)))

-- the words with NULL in place of ports that aren't kept, and the slots of these
abbrev pub kept : List Formal → List Span → List ℤ → List ℤ × List ℤ
kept fs [] ws = (ws, [])
kept fs (s ∷ ss) ws = cond (is_kept fs s) (kept fs ss ws) ((kept fs ss (nulled ws s)).0, live (span_of ws s) ++ (kept fs ss (nulled ws s)).1)
