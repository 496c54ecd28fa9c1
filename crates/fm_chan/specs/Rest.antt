-- Ports that are still to be discarded.
-- Source: this profile.
use Rattle.std.specs.Prelude.{◌≡◌, ℕ, suc, Bool, true, false, List, [], ◌∷◌, ◌++◌, Option, Some, None}
use Rattle.std.specs.List.{flat_map, filter_map}
use Rattle.fm_base.specs.declared.port.PortValue.{PortValue}
use Rattle.fm_base.specs.Channels.{item_ports, queue_ports}
use Rattle.fm_chan.specs.declared.message.Item.{Item}
use Rattle.fm_chan.specs.declared.discarding.Rest.{Rest}
use Rattle.fm_chan.specs.declared.discarding.Discarding.{Discarding}
use Rattle.fm_chan.specs.declared.discarding.Chain.{Chain, End, More'}
use Rattle.fm_chan.specs.Items.{plain_item}

-- the ports among ports and NULLs
abbrev pub ports_in : List (Option PortValue) → List PortValue
ports_in = filter_map (λ p. p)

-- the ports in the items of a message, from left to right
abbrev pub items_ports : List Item → List PortValue
items_ports = flat_map (λ i. item_ports (plain_item i))

-- the ports of a level: of the item at hand, of the items behind it, of the messages behind them
abbrev pub rest_ports : Rest → List PortValue
rest_ports r = ports_in r.ports.items ++ items_ports r.items.items ++ queue_ports r.queue.items

-- the ports of the levels that were left
abbrev pub chain_ports : Chain → List PortValue
chain_ports End = []
chain_ports (More' rest p below) = rest_ports rest ++ chain_ports below

-- all of them, in the order in which they are discarded
abbrev pub left_ports : Discarding → List PortValue
left_ports d = rest_ports d.rest ++ chain_ports d.chain

-- how many levels were left
abbrev pub levels : Chain → ℕ
levels End = 0
levels (More' rest p below) = suc (levels below)

-- the first port is taken, or there was none
abbrev pub Yields : List PortValue → Option PortValue → List PortValue → Type 0
Yields old None new = (old ≡ []) × (new ≡ [])
Yields old (Some x) new = old ≡ x ∷ new

-- the level is left for the one above it, if there is one
abbrev pub Leaves : Discarding → Bool → Discarding → Type 0
Leaves old true new = (left_ports new ≡ chain_ports old.chain) × (levels old.chain ≡ suc (levels new.chain))
Leaves old false new = (chain_ports old.chain ≡ []) × (left_ports new ≡ rest_ports old.rest)
