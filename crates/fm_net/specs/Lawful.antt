-- What a language of processes owes, so that each of its steps keeps ownership and leaves others theirs:
-- what a process takes in is what it then holds, starts its children with, lets go or gives away.
-- Source: this profile.
use Rattle.std.specs.Prelude.{◌≡◌, ℕ, ◌+◌, ◌<◌, ◌≤◌, Option, Some, None, List, [], ◌∷◌, true, length, map}
use Rattle.fm_base.specs.declared.path.ChanName.{ChanName}
use Rattle.fm_base.specs.declared.port.PortValue.{PortValue}
use Rattle.fm_base.specs.declared.port.PortValue.TheVariants.{Writer, Reader}
use Rattle.fm_base.specs.Channels.{Message, ChannelOp, Push, Pop, Look, numbers_from, message_ports}
use Rattle.fm_net.specs.Machine.{Need, Nothing, Event, New, Children, Reply, Onward, Ask, Stop, Go}
use Rattle.fm_net.specs.Language.{Language}
use Rattle.fm_net.specs.Owned.{count}

-- the port by which an event comes to its channel
abbrev pub port_of : ChanName → ChannelOp → PortValue
port_of c (Push w m) = Writer c w
port_of c (Pop limits) = Reader c
port_of c Look = Reader c

-- an event goes by a port that the process holds
abbrev pub Uses : List PortValue → Need → Type 0
Uses ports Nothing = Unit {0}
Uses ports (Event c a) = 1 ≤ count (port_of c a) ports
Uses ports (New n k) = Unit {0}
Uses ports (Children b n) = Unit {0}

-- a channel that is made has the number for the next one
abbrev pub Numbered : ℕ → Need → Type 0
Numbered k Nothing = Unit {0}
Numbered k (Event c a) = Unit {0}
Numbered k (New n w) = n ≡ k
Numbered k (Children b n) = Unit {0}

abbrev pub sent_ports : ChannelOp → List PortValue
sent_ports (Push w m) = message_ports m
sent_ports (Pop limits) = []
sent_ports Look = []

-- the ports that a need gives away
abbrev pub given_by : Need → List PortValue
given_by Nothing = []
given_by (Event c a) = sent_ports a
given_by (New n k) = []
given_by (Children b n) = []

-- the ports of a message that came
abbrev pub got : Option Message → List PortValue
got None = []
got (Some m) = message_ports m

-- the ports of a channel that is made with so many writers
abbrev pub ports_from : ChanName → ℕ → List PortValue
ports_from c n = Reader c ∷ map (Writer c) (numbers_from 0 n)

-- the ports of the channel that is made
abbrev pub made_by : Need → ChanName → List PortValue
made_by Nothing c = []
made_by (Event d a) c = []
made_by (New n k) c = ports_from c k
made_by (Children b n) c = []

-- what an event may bring: a message to a receive alone
abbrev pub Brings : ChannelOp → Option Message → Type 0
Brings (Push w m) r = r ≡ None
Brings (Pop limits) r = Unit {0}
Brings Look r = r ≡ None

-- what a reply may bring
abbrev pub MayBring : {Proc : Type 0} → Need → Reply Proc → Type 0
MayBring Nothing r = (r.message ≡ None) × (r.children ≡ [])
MayBring (Event c a) r = Brings a r.message × (r.children ≡ [])
MayBring (New n k) r = (r.message ≡ None) × (r.children ≡ [])
MayBring (Children b n) r = r.message ≡ None

-- the sum over a list
abbrev pub sum_of : {X : Type 0} → (X → ℕ) → List X → ℕ
sum_of f [] = 0
sum_of f (x ∷ xs) = f x + sum_of f xs

module _ {Proc : Type 0} (language : Language Proc) where
  -- how often the process holds the port
  abbrev pub holds : PortValue → Proc → ℕ
  holds z x = count z (language.held x)

  -- what a process owes that goes on
  pub record IsLawfulStep (x : Proc) (need : Need) (f : ChanName → Reply Proc → Onward Proc) : Type 0 where
    pub uses : Uses (language.held x) need
    pub numbered : Numbered (language.next_channel x) need
    -- its children start in its next block, whose number is then passed
    pub block_is : (c : ChanName) (r : Reply Proc) → (f c r).block ≡ language.next_block x
    pub later_block : (c : ChanName) (r : Reply Proc) → language.next_block x ≤ language.next_block (f c r).self
    pub passed_block : (c : ChanName) (r : Reply Proc) → 1 ≤ length (f c r).starts → language.next_block x < language.next_block (f c r).self
    -- and so with a channel that it makes
    pub later_channel : (c : ChanName) (r : Reply Proc) → language.next_channel x ≤ language.next_channel (f c r).self
    pub passed_channel : (c : ChanName) (r : Reply Proc) (n k : ℕ) → need ≡ New n k → language.next_channel x < language.next_channel (f c r).self
    -- it costs a turn
    pub costs : (c : ChanName) (r : Reply Proc) → 1 ≤ (f c r).cost
    -- each port comes out as often as it went in
    pub account : (c : ChanName) (r : Reply Proc) → MayBring need r → (z : PortValue)
        → holds z (f c r).self + sum_of (holds z) (f c r).starts + count z (f c r).drops + count z (given_by need) + sum_of (λ k. holds z (language.emptied k)) r.children
        ≡ holds z x + count z (got r.message) + count z (made_by need c) + sum_of (holds z) r.children

  -- by cases on what the process asks, so that it computes at each statement
  abbrev pub IsLawfulAsk : Proc → Ask Proc → Type 0
  IsLawfulAsk x Stop = Unit {0}
  IsLawfulAsk x (Go need f) = IsLawfulStep x need f

  -- what a language owes
  pub record IsLawfulLanguage : Type 0 where
    pub stops : (x : Proc) → language.has_ended x ≡ true → language.ask x ≡ Stop
    pub stays_ended : (x : Proc) → language.has_ended x ≡ true → language.has_ended (language.emptied x) ≡ true
    pub same_block : (x : Proc) → language.next_block (language.emptied x) ≡ language.next_block x
    pub same_channel : (x : Proc) → language.next_channel (language.emptied x) ≡ language.next_channel x
    pub goes : (x : Proc) → IsLawfulAsk x (language.ask x)
