-- The values of a frame, one item for each variable, and what takes, puts and exchanges elements. A port
-- is taken or put by one total exchange, whose law needs no premise: what goes in comes in or comes out.
-- Source: this profile.
use Rattle.std.specs.Prelude.{ℕ, zero, suc, ℤ, pos, List, [], ◌∷◌, ◌++◌, Option, Some, None, option_to_list, replicate, slice_get, unwrap_or, take, drop}
use Rattle.std.specs.List.{filter_map}
use Rattle.fm_base.specs.declared.port.PortValue.{PortValue}
use Rattle.fm_base.specs.Channels.{Item, Words, Ports, Message, message_ports}
use Rattle.fm_mean.specs.declared.place.Actual.{Actual}
use Rattle.fm_mean.specs.declared.place.Actual.TheVariants.{Given, Taken}
use Rattle.fm_mean.specs.declared.place.Back.{Back}
use Rattle.fm_mean.specs.declared.place.Span.{Span}

-- Words.

abbrev pub items_at : List Item → ℕ → Item
items_at [] i = Words []
items_at (v ∷ vs) zero = v
items_at (v ∷ vs) (suc i) = items_at vs i

abbrev pub words_in : Item → List ℤ
words_in (Words ws) = ws
words_in (Ports ps) = []

abbrev pub ports_in : Item → List (Option PortValue)
ports_in (Words ws) = []
ports_in (Ports ps) = ps

-- the words of a span
abbrev pub words_of : List Item → Span → List ℤ
words_of vs s = take s.count (drop s.first (words_in (items_at vs s.variable)))

abbrev pub first_word : List ℤ → ℤ
first_word [] = pos 0
first_word (n ∷ ns) = n

abbrev pub word_at : List Item → Span → ℤ
word_at vs s = first_word (words_of vs s)

-- the words with others over them from this place on, no further than they go
abbrev pub overwritten : List ℤ → ℕ → List ℤ → List ℤ
overwritten [] k ns = []
overwritten (w ∷ ws) (suc k) ns = w ∷ overwritten ws k ns
overwritten (w ∷ ws) zero [] = w ∷ ws
overwritten (w ∷ ws) zero (n ∷ ns) = n ∷ overwritten ws zero ns

abbrev pub item_written : Item → ℕ → List ℤ → Item
item_written (Words ws) k ns = Words (overwritten ws k ns)
item_written (Ports ps) k ns = Ports ps

abbrev pub written_from : List Item → (variable first : ℕ) → List ℤ → List Item
written_from [] i k ns = []
written_from (v ∷ vs) zero k ns = item_written v k ns ∷ vs
written_from (v ∷ vs) (suc i) k ns = v ∷ written_from vs i k ns

-- the values with these words in the span
abbrev pub written : List Item → Span → List ℤ → List Item
written vs s ns = written_from vs s.variable s.first ns

-- Ports.

-- what stands at a place is exchanged for another; where there is no such place, that one comes out
abbrev pub exchanged : List (Option PortValue) → ℕ → Option PortValue → List (Option PortValue) × Option PortValue
exchanged [] k p = ([], p)
exchanged (q ∷ qs) zero p = (p ∷ qs, q)
exchanged (q ∷ qs) (suc k) p = (q ∷ (exchanged qs k p).0, (exchanged qs k p).1)

abbrev pub item_exchanged : Item → ℕ → Option PortValue → Item × Option PortValue
item_exchanged (Words ws) k p = (Words ws, p)
item_exchanged (Ports ps) k p = (Ports (exchanged ps k p).0, (exchanged ps k p).1)

abbrev pub exchange : List Item → (variable element : ℕ) → Option PortValue → List Item × Option PortValue
exchange [] i k p = ([], p)
exchange (v ∷ vs) zero k p = ((item_exchanged v k p).0 ∷ vs, (item_exchanged v k p).1)
exchange (v ∷ vs) (suc i) k p = (v ∷ (exchange vs i k p).0, (exchange vs i k p).1)

-- one after the other: what stays, and what came out in order
abbrev pub exchange_all : List Item → (variable first : ℕ) → List (Option PortValue) → List Item × List (Option PortValue)
exchange_all vs i k [] = (vs, [])
exchange_all vs i k (p ∷ ps) =
    ((exchange_all (exchange vs i k p).0 i (suc k) ps).0, (exchange vs i k p).1 ∷ (exchange_all (exchange vs i k p).0 i (suc k) ps).1)

-- the ports among these
abbrev pub live : List (Option PortValue) → List PortValue
live = filter_map (λ p. p)

-- the port at a place, or NULL
abbrev pub port_at : List Item → Span → Option PortValue
port_at vs s = unwrap_or (slice_get (ports_in (items_at vs s.variable)) s.first) None

-- a place is left NULL: what stays, and what was there
abbrev pub emptied_place : List Item → Span → List Item × Option PortValue
emptied_place vs s = exchange vs s.variable s.first None

-- a port is put into a place: what stays, and what was there
abbrev pub put_port : List Item → Span → Option PortValue → List Item × Option PortValue
put_port vs s p = exchange vs s.variable s.first p

-- all ports of a span are taken, and leave NULL
abbrev pub taken_ports : List Item → Span → List Item × List (Option PortValue)
taken_ports vs s = exchange_all vs s.variable s.first (replicate s.count None)

-- an item is stored into a span: what stays, and what is let go
abbrev pub stored : List Item → Span → Item → List Item × List PortValue
stored vs s (Words ns) = (written vs s ns, [])
stored vs s (Ports ps) = ((exchange_all vs s.variable s.first ps).0, live (exchange_all vs s.variable s.first ps).1)

-- the items of a message one after the other; what finds no span is let go
abbrev pub stored_all : List Item → List Span → Message → List Item × List PortValue
stored_all vs ss [] = (vs, [])
stored_all vs [] (m ∷ ms) = (vs, message_ports (m ∷ ms))
stored_all vs (s ∷ ss) (m ∷ ms) =
    ((stored_all (stored vs s m).0 ss ms).0, (stored vs s m).1 ++ (stored_all (stored vs s m).0 ss ms).1)

-- ports that were made, each into its place; what finds no place is let go
abbrev pub placed_all : List Item → List Span → List PortValue → List Item × List PortValue
placed_all vs ss [] = (vs, [])
placed_all vs [] (p ∷ ps) = (vs, p ∷ ps)
placed_all vs (s ∷ ss) (p ∷ ps) =
    ((placed_all (put_port vs s (Some p)).0 ss ps).0, option_to_list (put_port vs s (Some p)).1 ++ (placed_all (put_port vs s (Some p)).0 ss ps).1)

-- the items of a message, taken from left to right: what stays, and the message
abbrev pub item_from : List Item → Actual → List Item × Item
item_from vs (Given ws back) = (vs, Words ws)
item_from vs (Taken s) = ((taken_ports vs s).0, Ports (taken_ports vs s).1)

abbrev pub message_from : List Item → List Actual → List Item × Message
message_from vs [] = (vs, [])
message_from vs (a ∷ more) = ((message_from (item_from vs a).0 more).0, (item_from vs a).1 ∷ (message_from (item_from vs a).0 more).1)

-- what the caller has, what the callee has, and what was let go on the way
pub record Returned : Type 0 where
  pub mine : List Item
  pub theirs : List Item
  pub drops : List PortValue

abbrev pub settled : Returned → (variable element : ℕ) → List Item → Option PortValue → Returned
settled r i k theirs None = r
settled r i k theirs (Some p) = record { mine = (exchange r.mine i k (Some p)).0; theirs = theirs; drops = r.drops ++ option_to_list (exchange r.mine i k (Some p)).1 }

-- an element of a formal goes to its place; a NULL isn't copied back
abbrev pub port_back : Returned → (formal from : ℕ) → (variable to : ℕ) → Returned
port_back r f j i k = settled r i k (exchange r.theirs f j None).0 (exchange r.theirs f j None).1

abbrev pub ports_back : Returned → (formal from : ℕ) → (variable to : ℕ) → (count : ℕ) → Returned
ports_back r f j i k zero = r
ports_back r f j i k (suc n) = ports_back (port_back r f j i k) f (suc j) i (suc k) n

abbrev pub one_back : Returned → Back → Item → Returned
one_back r b (Words ws) = record r { mine = written r.mine b.place (take b.place.count ws) }
one_back r b (Ports ps) = ports_back r b.formal 0 b.place.variable b.place.first b.place.count

-- in the order of the arguments
abbrev pub all_back : Returned → List Back → Returned
all_back r [] = r
all_back r (b ∷ bs) = all_back (one_back r b (items_at r.theirs b.formal)) bs

-- what is left of the callee is let go
abbrev pub without_theirs : Returned → Returned
without_theirs r = record r { theirs = []; drops = r.drops ++ message_ports r.theirs }

-- copying back, and then discarding what the callee still has
abbrev pub returned : List Item → List Item → List Back → Returned
returned mine theirs bs = without_theirs (all_back (record { mine = mine; theirs = theirs; drops = [] }) bs)
