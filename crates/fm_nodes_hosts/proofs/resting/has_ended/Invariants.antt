use Rattle.std.proofs.Common.{◌≡◌, ◌<◌, ℕ, None, Some}
use Rattle.std.specs.Prelude.{slice_get}
use Rattle.fm_net.specs.Language.{language_step}
use Rattle.fm_net.specs.Machine.{Place}
use Rattle.fm_link_law.specs.Hosts.{state_of}
use Rattle.fm_nodes_procs.specs.Processes.{order_of}
use Rattle.fm_nodes_hosts.specs.States.{hosts_in}
use Rattle.fm_nodes_hosts.proofs.resting.has_ended.Given as goal

-- none of those so far has a step
abbrev pub invariant-processes : goal.invariant-processes
invariant-processes g l = (k : ℕ) (q : Place) → k < l.number → slice_get (order_of l.state.processes) k ≡ Some q → language_step (g.R.Runner.language l.runner) (state_of (hosts_in (g.R.Runner.seen l.runner) l.state.processes l.state.network)) q ≡ None
