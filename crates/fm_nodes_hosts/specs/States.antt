-- Processes on hosts in memory as plain data.
-- Source: this profile.
use Rattle.std.specs.Prelude.{map}
use Rattle.fm_link_law.specs.Hosts.{Hosts}
use Rattle.fm_nodes_network.specs.declared.network.Network.{Network}
use Rattle.fm_nodes_network.specs.Channels.{linked_chans_of}
use Rattle.fm_nodes_network.specs.Network.{carried_of}
use Rattle.fm_nodes_procs.specs.declared.processes.Processes.{Processes}
use Rattle.fm_nodes_procs.specs.Processes.{order_of, procs_of}
use Rattle.fm_nodes_hosts.specs.declared.state.NodeState.{NodeState}
use Rattle.fm_nodes_hosts.specs.Runs.{Run}

module _ {X Proc : Type 0} (seen : X → Proc) where
  -- the processes as the language sees them, the channels as links, and the wire
  abbrev pub hosts_in : Processes X → Network → Hosts Proc
  hosts_in x n = record { procs = procs_of seen x; channels = linked_chans_of n.channels; wire = map carried_of n.wire.items }

  -- with the history, the paths and the cost
  abbrev pub run_of : NodeState X → Run Proc
  run_of s = record { hosts = hosts_in s.processes s.network; history = s.history.items; order = order_of s.processes; used = s.used }
