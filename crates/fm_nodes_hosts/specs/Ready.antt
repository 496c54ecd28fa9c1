-- What is there once a process went on and its need is met at the channels: what is left of its step can be done.
-- Source: this profile.
use Rattle.std.specs.Prelude.{◌≡◌, ◌<◌, ◌≤◌, ◌^◌, ℕ, List, Some, None, length, slice_get, vec_len, vec_capacity}
use Rattle.std.specs.FinMap.{get}
use Rattle.std.specs.declared.alloc.Global.{Global}
use Rattle.std.specs.declared.sync.Arc.{Arc}
use Rattle.fm_base.specs.declared.path.Path.{Path}
use Rattle.fm_base.specs.declared.port.PortValue.{PortValue}
use Rattle.fm_finmap.specs.Rows.{places_in}
use Rattle.fm_net.specs.Machine.{Place, child}
use Rattle.fm_net.specs.Starts.{child_places}
use Rattle.fm_link_law.specs.Steps.{AreOpen}
use Rattle.fm_nodes_network.specs.Channels.{linked_chans_of}
use Rattle.fm_nodes_procs.specs.Processes.{HasRoom, order_of, procs_of}
use Rattle.fm_nodes_hosts.specs.declared.state.NodeState.{NodeState}

module _ {X Proc : Type 0} (seen : X → Proc) where
  -- the process of this number stands at this place; nobody is yet where its children start, for whom there are paths and room; there is
  -- room for an entry; the ports that it lets go can be let go; and the cost is a number
  pub record IsReady (s : NodeState X) (p : Place) (number block : ℕ) (paths : List (Arc Path Global)) (starts : List X) (drops : List PortValue) (cost : ℕ) : Type 0 where
    pub who : slice_get (order_of s.processes) number ≡ Some p
    pub paths_are : places_in paths ≡ child_places p block 1 (length starts)
    pub new : (i : ℕ) → get (procs_of seen s.processes) (child p block i) ≡ None
    pub room : HasRoom s.processes (length starts)
    pub entry : vec_len s.history < vec_capacity s.history
    pub are_open : AreOpen (linked_chans_of s.network.channels) drops
    pub used : s.used ≤ 1000000000
    pub few : cost < 2 ^ 63
