-- A small language of processes: ports and numbers in variables, channels, and blocks of children that
-- give back a value each. It shows that what the laws ask of a language can be met.
-- Source: this profile.
use Rattle.std.specs.Prelude.{◌≡◌, ℕ, zero, suc, ℤ, Option, Some, None, List, [], ◌∷◌, ◌++◌, Bool, true, false, length}
use Rattle.std.specs.FinMap.{get}
use Rattle.fm_base.specs.declared.path.ChanName.{ChanName}
use Rattle.fm_base.specs.declared.port.PortValue.{PortValue}
use Rattle.fm_base.specs.declared.port.PortValue.TheVariants.{Writer, Reader}
use Rattle.fm_base.specs.Channels.{Chan, Item, Words, Ports, Message, Push, Pop, item_ports, message_ports}
use Rattle.fm_net.specs.Language.{Language}
use Rattle.fm_net.specs.Owned.{main_alone}
use Rattle.fm_net.specs.Typed.{AllIn}
use Rattle.fm_net.specs.Machine.{Place, Nothing, Event, New, Children, Onward, Ask, Stop, Go, State}

-- what a process does next. Variables go by number. A block starts a child for each pair: its unit, and
-- the variable whose value it is given
pub data Instr : Type 0 where
  Set : (variable : ℕ) → (number : ℤ) → Instr
  Move : (from to : ℕ) → Instr
  Channel : (writer reader : ℕ) → Instr
  Send : (port item : ℕ) → Instr
  Receive : (port to : ℕ) → Instr
  Close : (port : ℕ) → Instr
  Block : List (ℕ × ℕ) → Instr

-- `joins` is the block that it waits for, with the number of its children
pub record Proc : Type 0 where
  pub code : List Instr
  pub vars : List Item
  pub next_block : ℕ
  pub next_channel : ℕ
  pub joins : Option (ℕ × ℕ)

abbrev pub held : Proc → List PortValue
held x = message_ports x.vars

abbrev pub emptied : Proc → Proc
emptied x = record x { vars = [] }

abbrev pub is_done : List Instr → Option (ℕ × ℕ) → Bool
is_done [] None = true
is_done [] (Some b) = false
is_done (i ∷ code) joins = false

abbrev pub has_ended : Proc → Bool
has_ended x = is_done x.code x.joins

abbrev pub null : Item
null = Ports (None ∷ [])

abbrev pub port : PortValue → Item
port x = Ports (Some x ∷ [])

-- a variable that was never set is NULL
abbrev pub value_at : List Item → ℕ → Item
value_at [] i = null
value_at (v ∷ vs) zero = v
value_at (v ∷ vs) (suc i) = value_at vs i

abbrev pub value_set : List Item → ℕ → Item → List Item
value_set [] zero x = x ∷ []
value_set [] (suc i) x = null ∷ value_set [] i x
value_set (v ∷ vs) zero x = x ∷ vs
value_set (v ∷ vs) (suc i) x = v ∷ value_set vs i x

abbrev pub first_port : List PortValue → Option PortValue
first_port [] = None
first_port (x ∷ xs) = Some x

-- what stays in a variable whose value is given away: a port leaves NULL
abbrev pub left : Item → Item
left (Words ws) = Words ws
left (Ports ps) = null

abbrev pub first_item : Message → Item
first_item [] = null
first_item (v ∷ vs) = v

abbrev pub other_items : Message → Message
other_items [] = []
other_items (v ∷ vs) = vs

abbrev pub unit_at : List (List Instr) → ℕ → List Instr
unit_at [] n = []
unit_at (u ∷ us) zero = u
unit_at (u ∷ us) (suc n) = unit_at us n

abbrev pub starting : List Instr → List Item → Proc
starting code vs = record { code = code; vars = vs; next_block = 1; next_channel = 1; joins = None }

-- each child is given the value of a variable
abbrev pub children : List (List Instr) → List (ℕ × ℕ) → List Item → List Proc
children us [] vs = []
children us (e ∷ es) vs = starting (unit_at us e.0) (value_at vs e.1 ∷ []) ∷ children us es (value_set vs e.1 (left (value_at vs e.1)))

abbrev pub kept_back : List (ℕ × ℕ) → List Item → List Item
kept_back [] vs = vs
kept_back (e ∷ es) vs = kept_back es (value_set vs e.1 (left (value_at vs e.1)))

-- the first variable of the i-th child goes into variable i
abbrev pub copied : ℕ → List Proc → List Item → List Item
copied i [] vs = vs
copied i (k ∷ ks) vs = copied (suc i) ks (value_set vs i (value_at k.vars 0))

-- what stood there, and the other variables of the children
abbrev pub lost : ℕ → List Proc → List Item → List PortValue
lost i [] vs = []
lost i (k ∷ ks) vs = item_ports (value_at vs i) ++ (message_ports (value_set k.vars 0 null) ++ lost (suc i) ks (value_set vs i (value_at k.vars 0)))

abbrev pub goes_on : Proc → List Instr → List Item → List PortValue → ℕ → Onward Proc
goes_on x code vs drops cost = record { self = record x { code = code; vars = vs }; block = x.next_block; starts = []; drops = drops; cost = cost }

-- after a fault a process does nothing more, and keeps its ports
abbrev pub faulted : Proc → Ask Proc
faulted x = Go Nothing (λ c r. goes_on x [] x.vars [] 1)

abbrev pub sends : Proc → List Instr → ℕ → Option PortValue → Ask Proc
sends x code j (Some (Writer c w)) = Go (Event c (Push w (value_at x.vars j ∷ []))) (λ d r. goes_on x code (value_set x.vars j (left (value_at x.vars j))) [] 1)
sends x code j (Some (Reader c)) = faulted x
sends x code j None = faulted x

abbrev pub received : List Item → ℕ → Option Message → List Item
received vs j None = vs
received vs j (Some m) = value_set vs j (first_item m)

-- the ports that stood in the variable, and what the message had more than one item
abbrev pub displaced : List Item → ℕ → Option Message → List PortValue
displaced vs j None = []
displaced vs j (Some m) = item_ports (value_at vs j) ++ message_ports (other_items m)

abbrev pub receives : Proc → List Instr → ℕ → Option PortValue → Ask Proc
receives x code j (Some (Reader c)) = Go (Event c (Pop [])) (λ d r. goes_on x code (received x.vars j r.message) (displaced x.vars j r.message) 1)
receives x code j (Some (Writer c w)) = faulted x
receives x code j None = faulted x

abbrev pub with_channel : List Item → ℕ → ℕ → ChanName → List Item
with_channel vs i j c = value_set (value_set vs i (port (Writer c 0))) j (port (Reader c))

abbrev pub ask_next : List (List Instr) → Proc → List Instr → Ask Proc
ask_next us x [] = Stop
ask_next us x (Set i n ∷ code) = Go Nothing (λ c r. goes_on x code (value_set x.vars i (Words (n ∷ []))) (item_ports (value_at x.vars i)) 1)
ask_next us x (Move i j ∷ code) = Go Nothing (λ c r. goes_on x code (value_set (value_set x.vars i (left (value_at x.vars i))) j (value_at x.vars i)) (item_ports (value_at (value_set x.vars i (left (value_at x.vars i))) j)) 2)
ask_next us x (Channel i j ∷ code) = Go (New x.next_channel 1) (λ c r. record {
  self = record x { code = code; vars = with_channel x.vars i j c; next_channel = suc x.next_channel };
  block = x.next_block;
  starts = [];
  drops = item_ports (value_at x.vars i) ++ item_ports (value_at (value_set x.vars i (port (Writer c 0))) j);
  cost = 1;
})
ask_next us x (Send i j ∷ code) = sends x code j (first_port (item_ports (value_at x.vars i)))
ask_next us x (Receive i j ∷ code) = receives x code j (first_port (item_ports (value_at x.vars i)))
ask_next us x (Close i ∷ code) = Go Nothing (λ c r. goes_on x code (value_set x.vars i null) (item_ports (value_at x.vars i)) 1)
ask_next us x (Block es ∷ code) = Go Nothing (λ c r. record {
  self = record x { code = code; vars = kept_back es x.vars; next_block = suc x.next_block; joins = Some (x.next_block, length es) };
  block = x.next_block;
  starts = children us es x.vars;
  drops = [];
  cost = suc (length es);
})

-- a process that waits for its children takes what they give back
abbrev pub ask_by : List (List Instr) → Proc → Option (ℕ × ℕ) → Ask Proc
ask_by us x None = ask_next us x x.code
ask_by us x (Some b) = Go (Children b.0 b.1) (λ c r. record {
  self = record x { vars = copied 0 r.children x.vars; joins = None };
  block = x.next_block;
  starts = [];
  drops = lost 0 r.children x.vars;
  cost = suc b.1;
})

-- what a process does next, where these are the units
abbrev pub ask : List (List Instr) → Proc → Ask Proc
ask us x = ask_by us x x.joins

-- the language of these units
abbrev pub language : List (List Instr) → Language Proc
language us = record { ask = ask us; has_ended = has_ended; emptied = emptied; held = held; next_block = λ x. x.next_block; next_channel = λ x. x.next_channel }

-- main alone, with the first unit
abbrev pub first_state : List (List Instr) → State Proc
first_state us = main_alone (starting (unit_at us 0) [])

-- each message that waits is one item
abbrev pub HasOneItemMessages : State Proc → Type 0
HasOneItemMessages s = (c : ChanName) (ch : Chan) → get s.chans c ≡ Some ch → AllIn (λ m. length m ≡ 1) ch.queue

-- a program in which main makes a channel, sends a value over it and receives it
abbrev pub sample : List (List Instr)
sample = (Channel 0 1 ∷ Send 0 2 ∷ Receive 1 2 ∷ []) ∷ []

-- main's three steps
abbrev pub sample_choices : List Place
sample_choices = [] ∷ [] ∷ [] ∷ []
