-- How often packets were sent, by the names of their channels.
-- Source: this profile.
use Rattle.std.specs.Prelude.{ℕ, Option, Some, None}
use Rattle.std.specs.FinMap.{FinMap}
use Rattle.fm_base.specs.PathOrder.{channel_cmp}
use Rattle.fm_finmap.specs.Map.{map_of}
use Rattle.fm_nodes_rounds.specs.declared.sendings.Sent.{Sent}
use Rattle.fm_nodes_rounds.specs.declared.sendings.Sendings.{Sendings}
use Rattle.fm_nodes_rounds.specs.Sendings.{unsent}

-- the counts, by the channels over which something was sent
abbrev pub sendings_of : Sendings → FinMap channel_cmp Sent
sendings_of s = map_of channel_cmp s.sent

-- the counts of a channel; where nothing was sent, this packet is its first
abbrev pub counts_at : Option Sent → (number : ℕ) → Sent
counts_at None number = unsent number
counts_at (Some s) number = s
