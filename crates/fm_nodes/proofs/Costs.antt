-- A step on hosts costs a turn at least.
use Rattle.std.proofs.Common.{◌≡◌, ℕ, ◌≤◌, Some}
use Rattle.fm_net.specs.Machine.{Place}
use Rattle.fm_rules.specs.declared.program.Program.{Program}
use Rattle.fm_mean.specs.Process.{Proc}
use Rattle.fm_mean.specs.Steps.{first, language}
use Rattle.fm_mean.proofs.Lawful.{lawful}
use Rattle.fm_mean.proofs.Laws.{each_costs, first_owned}
use Rattle.fm_link_law.specs.Hosts.{Hosts, state_of}
use Rattle.fm_link_law.specs.Steps.{hosts_step}
use Rattle.fm_link_law.proofs.Stepping.{steps_forth}
use Rattle.fm_nodes_plain.specs.Plain.{IsPlainProgram}
use Rattle.fm_nodes_plain.proofs.Hosted.{asks_for_words}
use Rattle.fm_nodes_hosts.specs.Played.{IsSound}
use Rattle.fm_nodes_hosts.specs.Runs.{Run}
use Rattle.fm_nodes_hosts.proofs.Playing.{plain_there}

pub step_costs : (p : Program) → IsPlainProgram p → (old : Run Proc) → IsSound (language p) (first p) old
    → (q : Place) (later : Hosts Proc) (cost : ℕ) → hosts_step (language p) old.hosts q ≡ Some (later, cost) → 1 ≤ cost
step_costs p plain old sound q later cost steps =
    let alike = steps_forth (language p) old.hosts sound.links q (plain_there (language p) (first p) (lawful p) (first_owned p) (asks_for_words p plain) old sound q) later cost steps in
    each_costs p (state_of old.hosts) q (state_of later, cost) alike.step
