-- What puts words and ports into frames keeps words of 64 bits.
use Rattle.std.proofs.Common.{ℕ, zero, suc, ℤ, pos, Bool, true, false, cond, Option, Some, None, List, [], ◌∷◌, ◌++◌, take, replicate, refl}
use Rattle.fm_base.specs.Channels.{Item, Words, Ports, Message, item_ports}
use Rattle.fm_base.specs.declared.port.PortValue.{PortValue}
use Rattle.fm_symbols.specs.declared.names.Variable.{Variable}
use Rattle.fm_tree.specs.declared.port_type.Kind.{Kind}
use Rattle.fm_tree.specs.declared.port_type.Kind.TheVariants as kind
use Rattle.fm_net.specs.Typed.{AllIn}
use Rattle.fm_rules.specs.declared.program.Program.{Program}
use Rattle.fm_mean.specs.Names.{ProgramUnit, unit_at, unset, all_unset, formal_place}
use Rattle.fm_mean.specs.declared.place.Actual.{Actual}
use Rattle.fm_mean.specs.declared.place.Actual.TheVariants.{Given, Taken}
use Rattle.fm_mean.specs.declared.place.Back.{Back}
use Rattle.fm_mean.specs.declared.place.Span.{Span}
use Rattle.fm_mean.specs.Places.{items_at, words_in, words_of, first_word, word_at, overwritten, item_written, written_from, written, item_exchanged, exchange, exchange_all, taken_ports, put_port, stored, stored_all, placed_all, item_from, message_from, Returned, settled, port_back, ports_back, one_back, all_back, returned}
use Rattle.fm_mean.specs.Process.{Frame, Kid, Proc}
use Rattle.fm_mean.specs.Calls.{entered_one, entered_all, entered, null_item, is_kept, kept, variables_in, ended_frames}
use Rattle.fm_mean.specs.Steps.{given_back, kid_back, kids_back, with_status}
use Rattle.fm_cost_law.specs.Words.{IsWord, ItemHasWords, HaveWords, FrameHasWords, ProcessHasWords}
use Rattle.fm_cost_law.proofs.Lists.{all_taken, all_dropped, all_copies}

-- ---- words of places

item_words : (v : Item) → ItemHasWords v → AllIn IsWord (words_in v)
item_words (Words ws) h = h
item_words (Ports ps) h = tt

at_words : (vs : List Item) (i : ℕ) → HaveWords vs → ItemHasWords (items_at vs i)
at_words [] i h = tt
at_words (v ∷ vs) zero h = h.0
at_words (v ∷ vs) (suc i) h = at_words vs i h.1

pub span_words : (vs : List Item) (s : Span) → HaveWords vs → AllIn IsWord (words_of vs s)
span_words vs s h = all_taken IsWord s.count _ (all_dropped IsWord s.first _ (item_words (items_at vs s.variable) (at_words vs s.variable h)))

pub word_here : (vs : List Item) (s : Span) → HaveWords vs → IsWord (word_at vs s)
word_here vs s h = first (words_of vs s) (span_words vs s h)
  where
    first : (ws : List ℤ) → AllIn IsWord ws → IsWord (first_word ws)
    first [] h = refl
    first (w ∷ ws) h = h.0

-- ---- writing

overwritten_words : (ws : List ℤ) (k : ℕ) (ns : List ℤ) → AllIn IsWord ws → AllIn IsWord ns → AllIn IsWord (overwritten ws k ns)
overwritten_words [] k ns h g = tt
overwritten_words (w ∷ ws) (suc k) ns h g = (h.0, overwritten_words ws k ns h.1 g)
overwritten_words (w ∷ ws) zero [] h g = h
overwritten_words (w ∷ ws) zero (n ∷ ns) h g = (g.0, overwritten_words ws zero ns h.1 g.1)

item_written_words : (v : Item) (k : ℕ) (ns : List ℤ) → ItemHasWords v → AllIn IsWord ns → ItemHasWords (item_written v k ns)
item_written_words (Words ws) k ns h g = overwritten_words ws k ns h g
item_written_words (Ports ps) k ns h g = tt

from_words : (vs : List Item) (i k : ℕ) (ns : List ℤ) → HaveWords vs → AllIn IsWord ns → HaveWords (written_from vs i k ns)
from_words [] i k ns h g = tt
from_words (v ∷ vs) zero k ns h g = (item_written_words v k ns h.0 g, h.1)
from_words (v ∷ vs) (suc i) k ns h g = (h.0, from_words vs i k ns h.1 g)

pub written_words : (vs : List Item) (s : Span) (ns : List ℤ) → HaveWords vs → AllIn IsWord ns → HaveWords (written vs s ns)
written_words vs s ns h g = from_words vs s.variable s.first ns h g

pub status_words : (vs : List Item) (o : Option Span) (n : ℤ) → HaveWords vs → IsWord n → HaveWords (with_status vs o n)
status_words vs None n h g = h
status_words vs (Some s) n h g = written_words vs s (n ∷ []) h (g, tt)

-- ---- ports

item_exchanged_words : (v : Item) (k : ℕ) (p : Option PortValue) → ItemHasWords v → ItemHasWords (item_exchanged v k p).0
item_exchanged_words (Words ws) k p h = h
item_exchanged_words (Ports ps) k p h = tt

pub exchange_words : (vs : List Item) (i k : ℕ) (p : Option PortValue) → HaveWords vs → HaveWords (exchange vs i k p).0
exchange_words [] i k p h = tt
exchange_words (v ∷ vs) zero k p h = (item_exchanged_words v k p h.0, h.1)
exchange_words (v ∷ vs) (suc i) k p h = (h.0, exchange_words vs i k p h.1)

exchange_all_words : (vs : List Item) (i k : ℕ) (ps : List (Option PortValue)) → HaveWords vs → HaveWords (exchange_all vs i k ps).0
exchange_all_words vs i k [] h = h
exchange_all_words vs i k (p ∷ ps) h = exchange_all_words (exchange vs i k p).0 i (suc k) ps (exchange_words vs i k p h)

taken_words : (vs : List Item) (s : Span) → HaveWords vs → HaveWords (taken_ports vs s).0
taken_words vs s h = exchange_all_words vs s.variable s.first (replicate s.count None) h

pub placed_words : (vs : List Item) (ss : List Span) (ps : List PortValue) → HaveWords vs → HaveWords (placed_all vs ss ps).0
placed_words vs [] [] h = h
placed_words vs (s ∷ ss) [] h = h
placed_words vs [] (p ∷ ps) h = h
placed_words vs (s ∷ ss) (p ∷ ps) h = placed_words (put_port vs s (Some p)).0 ss ps (exchange_words vs s.variable s.first (Some p) h)

-- ---- messages

stored_words : (vs : List Item) (s : Span) (m : Item) → HaveWords vs → ItemHasWords m → HaveWords (stored vs s m).0
stored_words vs s (Words ns) h g = written_words vs s ns h g
stored_words vs s (Ports ps) h g = exchange_all_words vs s.variable s.first ps h

pub stored_all_words : (vs : List Item) (ss : List Span) (m : Message) → HaveWords vs → HaveWords m → HaveWords (stored_all vs ss m).0
stored_all_words vs [] [] h g = h
stored_all_words vs (s ∷ ss) [] h g = h
stored_all_words vs [] (m ∷ ms) h g = h
stored_all_words vs (s ∷ ss) (m ∷ ms) h g = stored_all_words (stored vs s m).0 ss ms (stored_words vs s m h g.0) g.1

-- an argument or an item whose words are
abbrev pub ActualHasWords : Actual → Type 0
ActualHasWords (Given ws back) = AllIn IsWord ws
ActualHasWords (Taken s) = Unit {0}

item_from_words : (vs : List Item) (a : Actual) → HaveWords vs → ActualHasWords a → HaveWords (item_from vs a).0 × ItemHasWords (item_from vs a).1
item_from_words vs (Given ws back) h g = (h, g)
item_from_words vs (Taken s) h g = (taken_words vs s h, tt)

pub message_has_words : (vs : List Item) (args : List Actual) → HaveWords vs → AllIn ActualHasWords args → HaveWords (message_from vs args).0 × HaveWords (message_from vs args).1
message_has_words vs [] h g = (h, tt)
message_has_words vs (a ∷ more) h g =
    let one = item_from_words vs a h g.0 in
    let rest = message_has_words (item_from vs a).0 more one.0 g.1 in
    (rest.0, (one.1, rest.1))

-- ---- calls

-- both frames
abbrev pub BothHaveWords : Returned → Type 0
BothHaveWords r = HaveWords r.mine × HaveWords r.theirs

unset_words : (k : Kind) (n : ℕ) → ItemHasWords (unset k n)
unset_words kind.Integer n = all_copies IsWord n (pos 0) refl
unset_words kind.Logical n = all_copies IsWord n (pos 0) refl
unset_words (kind.In t) n = tt
unset_words (kind.Out t) n = tt

pub all_unset_words : (vs : List Variable) → HaveWords (all_unset vs)
all_unset_words [] = tt
all_unset_words (v ∷ vs) = (unset_words v.kind v.words, all_unset_words vs)

entered_one_words : (u : ProgramUnit) (n : ℕ) (a : Actual) (r : Returned) → ActualHasWords a → BothHaveWords r → BothHaveWords (entered_one u n a r)
entered_one_words u n (Given ws back) r g h = (h.0, from_words r.theirs (formal_place u n) 0 ws h.1 g)
entered_one_words u n (Taken s) r g h = (taken_words r.mine s h.0, exchange_all_words r.theirs (formal_place u n) 0 (taken_ports r.mine s).1 h.1)

entered_all_words : (u : ProgramUnit) (n : ℕ) (args : List Actual) (r : Returned) → AllIn ActualHasWords args → BothHaveWords r → BothHaveWords (entered_all u n args r)
entered_all_words u n [] r g h = h
entered_all_words u n (a ∷ more) r g h = entered_all_words u (suc n) more (entered_one u n a r) g.1 (entered_one_words u n a r g.0 h)

pub entered_words : (u : ProgramUnit) (mine : List Item) (args : List Actual) → HaveWords mine → AllIn ActualHasWords args → BothHaveWords (entered u mine args)
entered_words u mine args h g = entered_all_words u 1 args (record { mine = mine; theirs = all_unset u.names.variables; drops = [] }) g (h, all_unset_words u.names.variables)

-- ---- copying back

settled_words : (r : Returned) (i k : ℕ) (vs : List Item) (p : Option PortValue) → BothHaveWords r → HaveWords vs → BothHaveWords (settled r i k vs p)
settled_words r i k vs None h g = h
settled_words r i k vs (Some p) h g = (exchange_words r.mine i k (Some p) h.0, g)

ports_back_words : (r : Returned) (f j i k n : ℕ) → BothHaveWords r → BothHaveWords (ports_back r f j i k n)
ports_back_words r f j i k zero h = h
ports_back_words r f j i k (suc n) h =
    ports_back_words (port_back r f j i k) f (suc j) i (suc k) n (settled_words r i k (exchange r.theirs f j None).0 (exchange r.theirs f j None).1 h (exchange_words r.theirs f j None h.1))

one_back_words : (r : Returned) (b : Back) (v : Item) → ItemHasWords v → BothHaveWords r → BothHaveWords (one_back r b v)
one_back_words r b (Words ws) g h = (written_words r.mine b.place (take b.place.count ws) h.0 (all_taken IsWord b.place.count ws g), h.1)
one_back_words r b (Ports ps) g h = ports_back_words r b.formal 0 b.place.variable b.place.first b.place.count h

pub all_back_words : (r : Returned) (bs : List Back) → BothHaveWords r → BothHaveWords (all_back r bs)
all_back_words r [] h = h
all_back_words r (b ∷ bs) h = all_back_words (one_back r b (items_at r.theirs b.formal)) bs (one_back_words r b (items_at r.theirs b.formal) (at_words r.theirs b.formal h.1) h)

pub returned_words : (mine theirs : List Item) (bs : List Back) → HaveWords mine → HaveWords theirs → HaveWords (returned mine theirs bs).mine
returned_words mine theirs bs h g = (all_back_words (record { mine = mine; theirs = theirs; drops = [] }) bs (h, g)).0

given_words : (b : Bool) (r : Returned) (bs : List Back) → BothHaveWords r → HaveWords (given_back b r bs).mine
given_words true r bs h = (all_back_words r bs h).0
given_words false r bs h = h.0

kid_words : (r : Returned) (k : Kid) (fs : List Frame) → HaveWords r.mine → AllIn FrameHasWords fs → HaveWords (kid_back r k fs).mine
kid_words r k [] h all = h
kid_words r k (f ∷ fs) h all = given_words _ (record r { theirs = f.values }) k.backs (h, all.0.values)

pub kids_words : (r : Returned) (kids : List Kid) (ys : List Proc) → HaveWords r.mine → AllIn ProcessHasWords ys → HaveWords (kids_back r kids ys).mine
kids_words r [] [] h all = h
kids_words r (k ∷ kids) [] h all = h
kids_words r [] (y ∷ ys) h all = kids_words (kid_back r (record { unit = 0; backs = [] }) y.execution.frames) [] ys (kid_words r (record { unit = 0; backs = [] }) y.execution.frames h all.0) all.1
kids_words r (k ∷ kids) (y ∷ ys) h all = kids_words (kid_back r k y.execution.frames) kids ys (kid_words r k y.execution.frames h all.0) all.1

-- ---- the end of a process

null_words : (v : Item) → ItemHasWords v → ItemHasWords (null_item v)
null_words (Words ws) h = h
null_words (Ports ps) h = tt

kept_words : (vars : List Variable) (vs : List Item) → HaveWords vs → HaveWords (kept vars vs).0
kept_words [] vs h = tt
kept_words (v ∷ vars) [] h = tt
kept_words (v ∷ vars) (x ∷ xs) h = go (is_kept v) (kept_words vars xs h.1)
  where
    go : (b : Bool) → HaveWords (kept vars xs).0 → HaveWords (cond {A = List Item × List PortValue} b (x ∷ (kept vars xs).0, (kept vars xs).1) (null_item x ∷ (kept vars xs).0, item_ports x ++ (kept vars xs).1)).0
    go true g = (h.0, g)
    go false g = (null_words x h.0, g)

pub ended_words : (p : Program) (fs : List Frame) → AllIn FrameHasWords fs → AllIn FrameHasWords (ended_frames p fs).0
ended_words p [] h = tt
ended_words p (f ∷ []) h = (record { values = kept_words (variables_in (unit_at p f.unit)) f.values h.0.values; results = tt; starts = tt; few = h.0.few }, tt)
ended_words p (f ∷ g ∷ fs) h = ended_words p (g ∷ fs) h.1
