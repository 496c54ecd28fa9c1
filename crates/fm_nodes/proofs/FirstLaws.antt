-- Main alone on its hosts is sound.
use Rattle.std.proofs.Common.{◌≡◌, List, [], ◌∷◌, map, sym, ap, subst, ◌∙◌}
use Rattle.std.specs.Prelude.{map as map_items}
use Rattle.std.specs.FinMap.{FinMap, empty, get-empty, insert}
use Rattle.fm_base.specs.PathOrder.{channel_cmp, path_cmp}
use Rattle.fm_finmap.proofs.Keys.{path_order}
use Rattle.fm_finmap.proofs.Maps.{map_values-empty, map_values-insert}
use Rattle.fm_finmap.specs.Map.{map_values}
use Rattle.fm_net.specs.Machine.{State}
use Rattle.fm_rules.specs.declared.program.Program.{Program}
use Rattle.fm_mean.specs.Process.{Proc}
use Rattle.fm_mean.specs.Steps.{first, first_proc, language}
use Rattle.fm_link_law.specs.Channels.{LinkedChan, chan_of}
use Rattle.fm_link_law.specs.Hosts as carried
use Rattle.fm_link_law.specs.Hosts.{state_of}
use Rattle.fm_nodes_network.specs.Channels.{linked_chans_of}
use Rattle.fm_nodes_network.specs.Network.{carried_of}
use Rattle.fm_nodes_network.specs.declared.network.Carried.{Carried}
use Rattle.fm_nodes_procs.specs.Processes.{by_path, order_of, procs_of}
use Rattle.fm_nodes_procs.proofs.Procs.{procs_are}
use Rattle.fm_nodes_hosts.specs.States.{run_of}
use Rattle.fm_nodes_hosts.specs.declared.state.NodeState.{NodeState}
use Rattle.fm_plain_frame.specs.Frames.{proc_of}
use Rattle.fm_plain_frame.specs.declared.process.PlainProc.{PlainProc}
use Rattle.fm_nodes_hosts.specs.Played.{IsPlayedBy, IsSound}
use Rattle.fm_nodes_hosts.specs.Runs.{Run, first_run}
use Rattle.fm_nodes_hosts.proofs.Playing.{played_first}

first_state : (p : Program) → state_of (first_run (first_proc p)).hosts ≡ first p
first_state p = λ i. record { procs = (first p).procs; chans = map_values-empty chan_of i }

first_alone : (p : Program) → IsSound (language p) (first p) (first_run (first_proc p))
first_alone p = record {
  links = record { channels = λ c l is. absurd (cc (sym (get-empty {X = LinkedChan} channel_cmp c) ∙ is)); wire = tt };
  played = subst (λ (s : State Proc). IsPlayedBy (language p) (first p) [] ([] ∷ []) s 0) (sym (first_state p)) (played_first (language p) (first p));
}

pub first_sound : (p : Program) (run : Run Proc) → run ≡ first_run (first_proc p) → IsSound (language p) (first p) run
first_sound p run is = subst (λ (r : Run Proc). IsSound (language p) (first p) r) (sym is) (first_alone p)

-- main alone, as it is in memory
pub first_is : (p : Program) (s : NodeState PlainProc) (main : PlainProc) → proc_of p main ≡ first_proc p → by_path s.processes ≡ insert empty [] main → order_of s.processes ≡ [] ∷ [] → linked_chans_of s.network.channels ≡ empty
    → s.network.wire.items ≡ [] → s.history.items ≡ [] → s.used ≡ 0 → run_of (proc_of p) s ≡ first_run (first_proc p)
first_is p s main same map order channels wire history used =
    let procs : procs_of (proc_of p) s.processes ≡ insert empty [] (first_proc p) =
    procs_are (proc_of p) s.processes
    ∙ ap (map_values (proc_of p)) map
    ∙ map_values-insert (proc_of p) path_order empty [] main
    ∙ ap (λ (m : FinMap path_cmp Proc). insert m [] (proc_of p main)) (map_values-empty (proc_of p))
    ∙ ap (insert empty []) same in
    λ i. record {
      hosts = record { procs = procs i; channels = channels i; wire = map_wire (wire i) };
      history = history i;
      order = order i;
      used = used i;
    }
  where
    map_wire : List Carried → List carried.Carried
    map_wire things = map_items carried_of things
