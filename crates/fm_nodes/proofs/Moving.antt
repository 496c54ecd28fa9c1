-- What the network did in memory, it did to the hosts.
use Rattle.std.proofs.Common.{◌≡◌, Bool, true, false, Option, Some, None, option_map, refl, ap, ◌∙◌}
use Rattle.std.specs.Prelude.{Result, Ok, Err, IfOk, OnErr}
use Rattle.fm_base.specs.declared.memory.NoMemory.{NoMemory}
use Rattle.fm_mean.specs.Process.{Proc}
use Rattle.fm_link_law.specs.Hosts.{Hosts}
use Rattle.fm_nodes_network.specs.declared.network.Network.{Network}
use Rattle.fm_nodes_network.specs.Network.{hosts_of}
use Rattle.fm_nodes_procs.specs.Processes.{procs_of}
use Rattle.fm_nodes_hosts.specs.Runs.{IsMoved}
use Rattle.fm_nodes_hosts.specs.States.{run_of}
use Rattle.fm_nodes_hosts.specs.declared.state.NodeState.{NodeState}
use Rattle.fm_nodes_hosts.proofs.Travelling.{same_in, with_procs}
use Rattle.fm_plain_frame.specs.declared.process.PlainProc.{PlainProc}

module _ (seen : PlainProc → Proc) (s : NodeState PlainProc) (n : Network) where
  abbrev later_state : NodeState PlainProc
  later_state = record s { network = n }

  same_run : hosts_of n ≡ hosts_of s.network → run_of seen later_state ≡ run_of seen s
  same_run e = ap (λ (h : Hosts Proc). record (run_of seen s) { hosts = h }) (same_in seen s.processes s.network n e)

  -- what was done, of a change that may not be there
  pub moved : (here : Option (Hosts Proc)) (later : Option (Hosts (Unit {0}))) → here ≡ option_map (with_procs (procs_of seen s.processes)) later → (r : Result Bool NoMemory)
      → IfOk r (λ done. done ≡ true → later ≡ Some (hosts_of n)) → IfOk r (λ done. done ≡ false → (later ≡ None) × (hosts_of n ≡ hosts_of s.network)) → OnErr r (hosts_of n ≡ hosts_of s.network)
      → IsMoved here (run_of seen s) (run_of seen later_state) r
  moved here later is (Ok true) does none err = (is ∙ ap (option_map (with_procs (procs_of seen s.processes))) (does refl), refl)
  moved here later is (Ok false) does none err = (is ∙ ap (option_map (with_procs (procs_of seen s.processes))) (none refl).0, same_run (none refl).1)
  moved here later is (Err want) does none err = same_run err
