-- Channels as plain data, and what events do to one channel.
-- Source: the Fortran M report (channels, SEND, RECEIVE, ENDCHANNEL), with this profile's rules on discarding.
use Rattle.std.specs.Prelude.{ℕ, zero, suc, ℤ, ◌+◌, ◌==◌, Bool, true, false, not, cond, Option, Some, None, List, [], ◌∷◌, ◌++◌, length, filter, sum_by, nat_le, ◌&&◌}
use Rattle.std.specs.List.{flat_map, filter_map}
use Rattle.std.specs.FinMap as map
use Rattle.fm_base.specs.declared.path.ChanName.{ChanName}
use Rattle.fm_base.specs.declared.port.PortValue.{PortValue}
use Rattle.fm_base.specs.declared.port.PortValue.TheVariants.{Writer, Reader}
use Rattle.fm_base.specs.PathOrder.{channel_cmp}

-- an item of a message: words, where a logical is 0 or 1, or ports and NULLs
pub data Item : Type 0 where
  Words : (words : List ℤ) → Item
  Ports : (ports : List (Option PortValue)) → Item

abbrev pub Message : Type 0
Message = List Item

-- a channel: its messages, oldest first, its open writers, and whether its inport lives
pub record Chan : Type 0 where
  pub queue : List Message
  pub writers : List ℕ
  pub lives : Bool

-- the channels by their names
abbrev pub Chans : Type 0
Chans = map.FinMap channel_cmp Chan

abbrev pub item_ports : Item → List PortValue
item_ports (Words ws) = []
item_ports (Ports ps) = filter_map (λ p. p) ps

-- the ports in a message, from left to right
abbrev pub message_ports : Message → List PortValue
message_ports = flat_map item_ports

abbrev pub queue_ports : List Message → List PortValue
queue_ports = flat_map message_ports

-- so many numbers from this one on
abbrev pub numbers_from : (first count : ℕ) → List ℕ
numbers_from i zero = []
numbers_from i (suc n) = i ∷ numbers_from (suc i) n

-- a channel that was just made, with so many writers
abbrev pub fresh : (writers : ℕ) → Chan
fresh n = record { queue = []; writers = numbers_from 0 n; lives = true }

abbrev pub item_length : Item → ℕ
item_length (Words ws) = length ws
item_length (Ports ps) = length ps

-- the most elements that a receive takes for each item in turn, or none where any number is taken.
-- Items behind the last limit have none.
abbrev pub Limits : Type 0
Limits = List (Option ℕ)

abbrev pub is_within : Option ℕ → Item → Bool
is_within None i = true
is_within (Some n) i = nat_le (item_length i) n

-- no item of the message has more elements than its limit
abbrev pub fits_limits : Limits → Message → Bool
fits_limits [] m = true
fits_limits (l ∷ ls) [] = true
fits_limits (l ∷ ls) (i ∷ m) = is_within l i && fits_limits ls m

-- what an event asks of a channel: to put a message last, to take the first one if it fits the limits,
-- or to look whether a receive would wait
pub data ChannelOp : Type 0 where
  Push : (writer : ℕ) → (message : Message) → ChannelOp
  Pop : (limits : Limits) → ChannelOp
  Look : ChannelOp

-- a receive is ready where a message is there, or no writer is open
abbrev pub can_pop : List Message → List ℕ → Bool
can_pop (m ∷ ms) ws = true
can_pop [] [] = true
can_pop [] (w ∷ ws) = false

-- whether the event has its step at the channel
abbrev pub is_ready : ChannelOp → Chan → Bool
is_ready (Push w m) ch = true
is_ready (Pop limits) ch = can_pop ch.queue ch.writers
is_ready Look ch = true

-- the queue without its first message, if that fits
abbrev pub behind_first : Limits → List Message → List Message
behind_first limits [] = []
behind_first limits (m ∷ ms) = cond (fits_limits limits m) ms (m ∷ ms)

-- the first message, if it fits
abbrev pub first_message : Limits → List Message → Option Message
first_message limits [] = None
first_message limits (m ∷ ms) = cond (fits_limits limits m) (Some m) None

-- whether there is a first message that doesn't fit
abbrev pub first_exceeds : Limits → List Message → Bool
first_exceeds limits [] = false
first_exceeds limits (m ∷ ms) = not (fits_limits limits m)

-- the channel after the event
abbrev pub changed : ChannelOp → Chan → Chan
changed (Push w m) ch = record ch { queue = cond ch.lives (ch.queue ++ m ∷ []) ch.queue }
changed (Pop limits) ch = record ch { queue = behind_first limits ch.queue }
changed Look ch = ch

-- the message that the event brings; none where the first one exceeds its limits, or at the end of the channel
abbrev pub gives : ChannelOp → Chan → Option Message
gives (Push w m) ch = None
gives (Pop limits) ch = first_message limits ch.queue
gives Look ch = None

-- whether a message is there that exceeds the limits of the receive, and so stays
abbrev pub exceeds : ChannelOp → Chan → Bool
exceeds (Push w m) ch = false
exceeds (Pop limits) ch = first_exceeds limits ch.queue
exceeds Look ch = false

-- whether a receive would wait, where the event looks for that
abbrev pub tells : ChannelOp → Chan → Bool
tells (Push w m) ch = false
tells (Pop limits) ch = false
tells Look ch = not (can_pop ch.queue ch.writers)

-- the ports of a message to a channel whose inport is gone
abbrev pub spills : ChannelOp → Chan → List PortValue
spills (Push w m) ch = cond ch.lives [] (message_ports m)
spills (Pop limits) ch = []
spills Look ch = []

-- and where there is no channel, none
abbrev pub spills_at : ChannelOp → Option Chan → List PortValue
spills_at a None = []
spills_at a (Some ch) = spills a ch

-- Discarding a port.

abbrev pub channel_of : PortValue → ChanName
channel_of (Writer c w) = c
channel_of (Reader c) = c

abbrev pub without : ℕ → List ℕ → List ℕ
without w = filter (λ v. not (v == w))

-- an outport closes its writer; an inport is gone, with what waits in the queue
abbrev pub discarded : PortValue → Chan → Chan
discarded (Writer c w) ch = record ch { writers = without w ch.writers }
discarded (Reader c) ch = record ch { queue = []; lives = false }

-- the ports that are discarded with it: those in the messages that were dropped
abbrev pub freed : PortValue → Option Chan → List PortValue
freed x None = []
freed (Writer c w) (Some ch) = []
freed (Reader c) (Some ch) = queue_ports ch.queue

abbrev pub shut_at : PortValue → Chans → Option Chan → Chans
shut_at x m None = m
shut_at x m (Some ch) = map.insert m (channel_of x) (discarded x ch)

-- the channels without the port
abbrev pub shut : PortValue → Chans → Chans
shut x m = shut_at x m (map.get m (channel_of x))

-- the channels after at most so many ports are discarded, the first one first, with what each frees
abbrev pub shed : ℕ → List PortValue → Chans → Chans
shed zero xs m = m
shed (suc n) [] m = m
shed (suc n) (x ∷ xs) m = shed n (freed x (map.get m (channel_of x)) ++ xs) (shut x m)

-- each port of a list or of a queue is discarded once at most
abbrev pub weight : List PortValue → Chans → ℕ
weight xs m = length xs + sum_by (λ e. length (queue_ports e.1.queue)) (map.entries m)

-- the channels after the ports are discarded, and with them all that they free
abbrev pub all_shed : List PortValue → Chans → Chans
all_shed xs m = shed (weight xs m) xs m
