-- Whether a process has a step, whatever arrives: what it needs is there, or on its way.
-- Source: this profile, after the machine of processes over channels.
use Rattle.std.specs.Prelude.{Bool, true, false, is_some, Option, Some, None}
use Rattle.std.specs.FinMap.{get}
use Rattle.fm_base.specs.Channels.{Push, Pop, Look}
use Rattle.fm_net.specs.Machine.{Place, Need, Nothing, Event, New, Children, gathered}
use Rattle.fm_link_law.specs.Hosts.{Hosts}
use Rattle.fm_nodes_network.specs.Channel.{is_left_at}

-- so by what it needs
abbrev pub steps_by : {Proc : Type 0} → (has_ended : Proc → Bool) → Hosts Proc → Place → Option Need → Bool
steps_by has_ended h q None = false
steps_by has_ended h q (Some Nothing) = true
steps_by has_ended h q (Some (Event c (Push w m))) = is_some (get h.channels c)
steps_by has_ended h q (Some (Event c (Pop limits))) = is_left_at (get h.channels c)
steps_by has_ended h q (Some (Event c Look)) = false
steps_by has_ended h q (Some (New n k)) = true
steps_by has_ended h q (Some (Children b n)) = is_some (gathered has_ended h.procs q b 1 n)
