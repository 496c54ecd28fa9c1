-- The network does the same whoever the processes are, and what it does keeps what holds between two events.
use Rattle.std.proofs.Common.{◌≡◌, ℕ, Option, Some, None, option_map, Bool, sym, ap, refl, subst, ◌∙◌}
use Rattle.std.specs.List.{slice_get}
use Rattle.std.specs.FinMap.{get}
use Rattle.fm_base.specs.declared.path.ChanName.{ChanName}
use Rattle.fm_net.specs.Machine.{Procs, State}
use Rattle.fm_net.specs.Language.{Language}
use Rattle.fm_link.specs.declared.load.Packet.{Packet}
use Rattle.fm_link_law.specs.Channels.{LinkedChan}
use Rattle.fm_link_law.specs.Hosts.{Hosts, Carried, SentPacket, SentAck, with_thing, packet_at, brought, without_at, sent, answered, delivered, lost, restarted}
use Rattle.fm_link_law.proofs.Travelling.{IsStill, sent_still, answered_still, delivered_still, lost_still, restarted_still}
use Rattle.fm_nodes_network.specs.declared.network.Network.{Network}
use Rattle.fm_nodes_network.specs.Network.{hosts_of}
use Rattle.fm_nodes_procs.specs.declared.processes.Processes.{Processes}
use Rattle.fm_nodes_procs.specs.Processes.{procs_of}
use Rattle.fm_nodes_hosts.specs.Runs.{Run, with_hosts}
use Rattle.fm_nodes_hosts.specs.States.{hosts_in}
use Rattle.fm_nodes_hosts.specs.Played.{IsPlayedBy, IsSound}

-- the same channels and wire, with these processes
abbrev pub with_procs : {Proc : Type 0} → Procs Proc → Hosts (Unit {0}) → Hosts Proc
with_procs m h = record { procs = m; channels = h.channels; wire = h.wire }

module _ {Proc : Type 0} (m : Procs Proc) (h : Hosts (Unit {0})) where
  sent_with : (c : ChanName) (k : ℕ) → sent (with_procs m h) c k ≡ option_map (with_procs m) (sent h c k)
  sent_with c k = go (packet_at (get h.channels c) k)
    where
      go : (o : Option Packet) → option_map (λ p. with_thing (with_procs m h) (c, SentPacket p)) o ≡ option_map (with_procs m) (option_map (λ p. with_thing h (c, SentPacket p)) o)
      go None = refl
      go (Some p) = refl

  answered_with : (c : ChanName) → answered (with_procs m h) c ≡ option_map (with_procs m) (answered h c)
  answered_with c = go (get h.channels c)
    where
      go : (o : Option LinkedChan) → option_map (λ (l : LinkedChan). with_thing (with_procs m h) (c, SentAck l.incoming.arrived)) o ≡ option_map (with_procs m) (option_map (λ (l : LinkedChan). with_thing h (c, SentAck l.incoming.arrived)) o)
      go None = refl
      go (Some l) = refl

  delivered_with : (i : ℕ) → delivered (with_procs m h) i ≡ option_map (with_procs m) (delivered h i)
  delivered_with i = go (slice_get h.wire i)
    where
      go : (o : Option Carried) → option_map (brought (with_procs m h)) o ≡ option_map (with_procs m) (option_map (brought h) o)
      go None = refl
      go (Some e) = refl

  lost_with : (i : ℕ) → lost (with_procs m h) i ≡ option_map (with_procs m) (lost h i)
  lost_with i = go (slice_get h.wire i)
    where
      go : (o : Option Carried) → option_map (λ (e : Carried). record { procs = m; channels = h.channels; wire = without_at h.wire i }) o
          ≡ option_map (with_procs m) (option_map (λ (e : Carried). record { procs = h.procs; channels = h.channels; wire = without_at h.wire i }) o)
      go None = refl
      go (Some e) = refl

-- in memory: what the network did without looking at the processes, it did to the hosts
module _ {X Proc : Type 0} (seen : X → Proc) (x : Processes X) (old : Network) where
  abbrev pub procs : Procs Proc
  procs = procs_of seen x

  pub sent_in : (c : ChanName) (k : ℕ) (o : Option (Hosts (Unit {0}))) → sent (hosts_of old) c k ≡ o → sent (hosts_in seen x old) c k ≡ option_map (with_procs procs) o
  sent_in c k o e = sent_with procs (hosts_of old) c k ∙ ap (option_map (with_procs procs)) e

  pub answered_in : (c : ChanName) (o : Option (Hosts (Unit {0}))) → answered (hosts_of old) c ≡ o → answered (hosts_in seen x old) c ≡ option_map (with_procs procs) o
  answered_in c o e = answered_with procs (hosts_of old) c ∙ ap (option_map (with_procs procs)) e

  pub delivered_in : (i : ℕ) (o : Option (Hosts (Unit {0}))) → delivered (hosts_of old) i ≡ o → delivered (hosts_in seen x old) i ≡ option_map (with_procs procs) o
  delivered_in i o e = delivered_with procs (hosts_of old) i ∙ ap (option_map (with_procs procs)) e

  pub lost_in : (i : ℕ) (o : Option (Hosts (Unit {0}))) → lost (hosts_of old) i ≡ o → lost (hosts_in seen x old) i ≡ option_map (with_procs procs) o
  lost_in i o e = lost_with procs (hosts_of old) i ∙ ap (option_map (with_procs procs)) e

  pub same_in : (new : Network) → hosts_of new ≡ hosts_of old → hosts_in seen x new ≡ hosts_in seen x old
  same_in new e = ap (with_procs procs) e

-- what holds between two events
module _ {Proc : Type 0} (language : Language Proc) (start : State Proc) (run : Run Proc) (sound : IsSound language start run) where
  pub sound_same : (later : Run Proc) → later ≡ run → IsSound language start later
  sound_same later e = subst (λ (k : Run Proc). IsSound language start k) (sym e) sound

  sound_still : (later : Hosts Proc) → IsStill run.hosts later → IsSound language start (with_hosts run later)
  sound_still later still = record { links = still.sound; played = subst (λ (s : State Proc). IsPlayedBy language start run.history run.order s run.used) (sym still.same) sound.played }

  moved : (later : Hosts Proc) (new : Run Proc) → new ≡ with_hosts run later → IsStill run.hosts later → IsSound language start new
  moved later new e still = subst (λ (k : Run Proc). IsSound language start k) (sym e) (sound_still later still)

  pub sound_sent : (c : ChanName) (k : ℕ) (new : Run Proc) → sent run.hosts c k ≡ Some new.hosts → new ≡ with_hosts run new.hosts → IsSound language start new
  sound_sent c k new e is = moved new.hosts new is (sent_still run.hosts sound.links c k new.hosts e)

  pub sound_answered : (c : ChanName) (new : Run Proc) → answered run.hosts c ≡ Some new.hosts → new ≡ with_hosts run new.hosts → IsSound language start new
  sound_answered c new e is = moved new.hosts new is (answered_still run.hosts sound.links c new.hosts e)

  pub sound_delivered : (i : ℕ) (new : Run Proc) → delivered run.hosts i ≡ Some new.hosts → new ≡ with_hosts run new.hosts → IsSound language start new
  sound_delivered i new e is = moved new.hosts new is (delivered_still run.hosts sound.links i new.hosts e)

  pub sound_lost : (i : ℕ) (new : Run Proc) → lost run.hosts i ≡ Some new.hosts → new ≡ with_hosts run new.hosts → IsSound language start new
  sound_lost i new e is = moved new.hosts new is (lost_still run.hosts sound.links i new.hosts e)

  pub sound_restarted : (stays : Carried → Bool) (new : Run Proc) → new ≡ with_hosts run (restarted stays run.hosts) → IsSound language start new
  sound_restarted stays new is = moved (restarted stays run.hosts) new is (restarted_still run.hosts sound.links stays)
