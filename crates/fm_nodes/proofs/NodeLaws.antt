-- What holds between two events of a plain program on hosts is kept by each of them.
use Rattle.std.proofs.Common.{◌≡◌, ℕ, Bool, true, false, cond, not, ◌||◌, ◌==◌, Option, Some, None, refl, ap, arith}
use Rattle.std.specs.Prelude.{Result, Ok, Err, OnErr, OnOk, unwrap_or}
use Rattle.std.proofs.lemmas.Bool.{lt-ltb}
use Rattle.std.specs.FinMap.{get}
use Rattle.fm_base.specs.declared.memory.NoMemory.{NoMemory}
use Rattle.fm_base.specs.declared.path.ChanName.{ChanName}
use Rattle.fm_base.specs.declared.port.PortValue.{PortValue}
use Rattle.fm_base.specs.declared.port.PortValue.TheVariants.{Reader, Writer}
use Rattle.fm_base.specs.declared.schedule.Plan.{Plan}
use Rattle.fm_map.specs.Placement.{worker_of}
use Rattle.fm_sched.proofs.Along.{at_reached}
use Rattle.fm_net.specs.Machine.{Place}
use Rattle.fm_rules.specs.declared.program.Program.{Program}
use Rattle.fm_mean.specs.Machines.{HasMachine, HaveMachines, main_nodes}
use Rattle.fm_mean.specs.Process.{Proc}
use Rattle.fm_mean.specs.Steps.{first, language, step}
use Rattle.fm_mean.proofs.Lawful.{lawful}
use Rattle.fm_mean.proofs.Laws.{first_owned}
use Rattle.fm_mean.proofs.Machines.{machines_along}
use Rattle.fm_link_law.specs.Hosts.{Carried, answered, delivered, lost, restarted, sent, state_of}
use Rattle.fm_nodes_plain.specs.Plain.{IsPlainProgram}
use Rattle.fm_nodes_plain.proofs.Hosted.{asks_for_words}
use Rattle.fm_nodes_hosts.specs.Ends.{end_host, holder, host_by, outlasts, restarted_run}
use Rattle.fm_nodes_hosts.specs.Played.{IsSound}
use Rattle.fm_nodes_hosts.specs.Runs.{Run, IsMoved, IsTried, with_hosts}
use Rattle.fm_nodes_hosts.proofs.Playing.{played_reached, sound_step}
use Rattle.fm_nodes_hosts.proofs.Travelling.{sound_answered, sound_delivered, sound_lost, sound_restarted, sound_same, sound_sent}
use Rattle.fm_nodes_trees.specs.Trees.{host_of}

module _ (p : Program) (plain : IsPlainProgram p) (old new : Run Proc) (sound : IsSound (language p) (first p) old) where
  pub tried_sound : (path : Place) (r : Result Bool NoMemory) → IsTried (language p) path old new r → IsSound (language p) (first p) new
  tried_sound path (Ok true) does = sound_step (language p) (first p) (lawful p) (first_owned p) (asks_for_words p plain) path old new sound does
  tried_sound path (Ok false) does = sound_same (language p) (first p) old sound new does.1
  tried_sound path (Err want) does = sound_same (language p) (first p) old sound new does

  pub sent_sound : (c : ChanName) (k : ℕ) (r : Result Bool NoMemory) → IsMoved (sent old.hosts c k) old new r → IsSound (language p) (first p) new
  sent_sound c k (Ok true) does = sound_sent (language p) (first p) old sound c k new does.0 does.1
  sent_sound c k (Ok false) does = sound_same (language p) (first p) old sound new does.1
  sent_sound c k (Err want) does = sound_same (language p) (first p) old sound new does

  pub answered_sound : (c : ChanName) (r : Result Bool NoMemory) → IsMoved (answered old.hosts c) old new r → IsSound (language p) (first p) new
  answered_sound c (Ok true) does = sound_answered (language p) (first p) old sound c new does.0 does.1
  answered_sound c (Ok false) does = sound_same (language p) (first p) old sound new does.1
  answered_sound c (Err want) does = sound_same (language p) (first p) old sound new does

  pub delivered_sound : (i : ℕ) (r : Result Bool NoMemory) → IsMoved (delivered old.hosts i) old new r → IsSound (language p) (first p) new
  delivered_sound i (Ok true) does = sound_delivered (language p) (first p) old sound i new does.0 does.1
  delivered_sound i (Ok false) does = sound_same (language p) (first p) old sound new does.1
  delivered_sound i (Err want) does = sound_same (language p) (first p) old sound new does

  pub lost_sound : (i : ℕ) (r : Result Bool NoMemory) → IsMoved (lost old.hosts i) old new r → IsSound (language p) (first p) new
  lost_sound i (Ok true) does = sound_lost (language p) (first p) old sound i new does.0 does.1
  lost_sound i (Ok false) does = sound_same (language p) (first p) old sound new does.1
  lost_sound i (Err want) does = sound_same (language p) (first p) old sound new does

  pub restarted_sound : (host_on : Proc → ℕ) (host : ℕ) → new ≡ restarted_run (language p) host_on host old → IsSound (language p) (first p) new
  restarted_sound host_on host is = sound_restarted (language p) (first p) old sound (λ e. outlasts (language p) host_on old.hosts.procs old.order host e.0) new is

  pub restart_sound : (host_on : Proc → ℕ) (host : ℕ) (r : Result (Unit {0}) NoMemory) → OnOk r (new ≡ restarted_run (language p) host_on host old) → OnErr r (new ≡ old) → IsSound (language p) (first p) new
  restart_sound host_on host (Ok u) does none = restarted_sound host_on host does
  restart_sound host_on host (Err want) does none = sound_same (language p) (first p) old sound new none

-- each process is on a node of main's machine, so the runner's host is that of the plan
module _ (p : Program) (hosts : ℕ) (plan : Plan) (run : Run Proc) (sound : IsSound (language p) (first p) run) where
  abbrev planned : Proc → ℕ
  planned x = worker_of plan x.execution.node (main_nodes p) hosts

  have : HaveMachines p (state_of run.hosts)
  have = at_reached (step p) (HaveMachines p) (first p) (state_of run.hosts) (machines_along p) (played_reached (language p) (first p) run.history run.order (state_of run.hosts) run.used sound.played)

  on_node : (x : Proc) → HasMachine p x → host_of p hosts plan x ≡ planned x
  on_node x m = ap (λ b. cond b (planned x) 0) (lt-ltb x.execution.node (main_nodes p) (omega (arith, m.to, m.within)))

  at_place : (q : Place) → host_by (host_of p hosts plan) (get run.hosts.procs q) ≡ host_by planned (get run.hosts.procs q)
  at_place q = go (get run.hosts.procs q) refl
    where
      go : (o : Option Proc) → get run.hosts.procs q ≡ o → host_by (host_of p hosts plan) o ≡ host_by planned o
      go None is = refl
      go (Some x) is = on_node x (have q x is)

  one_end : (c : ChanName) (z : PortValue) → end_host (language p) (host_of p hosts plan) run.hosts.procs run.order c z ≡ end_host (language p) planned run.hosts.procs run.order c z
  one_end c z = at_place (unwrap_or (holder (language p) run.hosts.procs run.order z) c.maker)

  one_test : (host : ℕ) (c : ChanName) → outlasts (language p) (host_of p hosts plan) run.hosts.procs run.order host c ≡ outlasts (language p) planned run.hosts.procs run.order host c
  one_test host c = λ i. not ((one_end c (Writer c 0) i == host) || (one_end c (Reader c) i == host))

  pub restarts_so : (host : ℕ) → restarted_run (language p) (host_of p hosts plan) host run ≡ restarted_run (language p) planned host run
  restarts_so host = λ i. with_hosts run (restarted (λ (e : Carried). one_test host e.0 i) run.hosts)
