-- What is left of a step in memory, where a process went on and its need is met at the channels.
use Rattle.std.proofs.Common.{◌≡◌, ◌+◌, ◌<◌, ◌≤◌, ◌^◌, ◌++◌, [], ◌∷◌, ℕ, List, Some, None, map, length, refl, sym, ap, subst, ◌∙◌, vec_len, vec_capacity}
use Rattle.std.specs.Prelude.{slice_get, Bool, Result, Ok, Err}
use Rattle.std.specs.Result.{IsErr}
use Rattle.fm_base.specs.declared.memory.NoMemory.{NoMemory}
use Rattle.std.specs.FinMap.{get}
use Rattle.std.specs.declared.alloc.Global.{Global}
use Rattle.std.specs.declared.sync.Arc.{Arc}
use Rattle.std.specs.Global.{Vec}
use Rattle.std.proofs.lemmas.List.{length-map}
use Rattle.fm_base.specs.declared.path.ChanName.{ChanName}
use Rattle.fm_base.specs.declared.path.Path.{Path}
use Rattle.fm_base.specs.declared.port.PortValue.{PortValue}
use Rattle.fm_base.specs.declared.schedule.Turn.{Turn}
use Rattle.fm_finmap.specs.Changes.{Change, alters}
use Rattle.fm_finmap.specs.Rows.{places_in}
use Rattle.fm_net.specs.Language.{Language}
use Rattle.fm_net.specs.Lawful.{IsLawfulLanguage}
use Rattle.fm_net.specs.Machine.{Place, Procs, State, Need, New, Children, Reply, Onward, Go, made, child_changes, need_changes, start_changes}
use Rattle.fm_net.specs.Owned.{IsOwned, name_of}
use Rattle.fm_net.specs.Starts.{child_places}
use Rattle.fm_link_law.specs.Channels.{shut_ports}
use Rattle.fm_link_law.specs.Play.{AsksForWords}
use Rattle.fm_link_law.specs.Steps.{hosts_step, linked_after, served_here}
use Rattle.fm_nodes_network.specs.Channels.{linked_chans_of}
use Rattle.fm_nodes_network.specs.declared.channels.Channels.{Channels}
use Rattle.fm_nodes_procs.specs.Asks.{GoesAt}
use Rattle.fm_nodes_procs.specs.Children.{AreNumbered}
use Rattle.fm_nodes_procs.specs.Processes.{HasRoom, order_of, procs_of}
use Rattle.fm_nodes_procs.specs.declared.processes.Processes.{Processes}
use Rattle.fm_nodes_procs.proofs.Procs.{stands}
use Rattle.fm_nodes_hosts.specs.Played.{IsSound}
use Rattle.fm_nodes_hosts.specs.Ready.{IsReady}
use Rattle.fm_nodes_hosts.specs.Runs.{Run, AsksFor, HasStepped, IsFinished, IsOwnTried, IsTried, Starting, one_step_of}
use Rattle.fm_nodes_hosts.specs.States.{run_of}
use Rattle.fm_nodes_hosts.specs.declared.state.NodeState.{NodeState}
use Rattle.fm_nodes_hosts.proofs.Steps.{Carried, asked_so, carried, no_channel, same_run, waits_here, rests_here}

-- the same with other processes and channels
abbrev pub mid_of : {X : Type 0} → NodeState X → Processes X → Channels → NodeState X
mid_of s processes channels = record { processes = processes; network = record { channels = channels; wire = s.network.wire }; history = s.history; used = s.used }

module _ {X Proc : Type 0} (seen : X → Proc) (old ready : NodeState X) (same : run_of seen ready ≡ run_of seen old) where
  pub procs_same : procs_of seen ready.processes ≡ procs_of seen old.processes
  procs_same = ap (λ (r : Run Proc). r.hosts.procs) same

  pub order_same : order_of ready.processes ≡ order_of old.processes
  order_same = ap (λ (r : Run Proc). r.order) same

  pub linked_same : linked_chans_of ready.network.channels ≡ linked_chans_of old.network.channels
  linked_same = ap (λ (r : Run Proc). r.hosts.channels) same

  pub used_same : ready.used ≡ old.used
  used_same = ap (λ (r : Run Proc). r.used) same

  -- where processes and channels are the same, the run is
  pub run_same : (processes : Processes X) (channels : Channels) → order_of processes ≡ order_of ready.processes → procs_of seen processes ≡ procs_of seen ready.processes
      → linked_chans_of channels ≡ linked_chans_of ready.network.channels → run_of seen (mid_of ready processes channels) ≡ run_of seen old
  run_same processes channels order procs linked =
      same_run (run_of seen (mid_of ready processes channels)) (run_of seen ready) refl order refl refl procs linked ∙ same

  -- who has the number has it still
  pub who_same : (processes : Processes X) → order_of processes ≡ order_of ready.processes → (number : ℕ) (p : Place) → slice_get (order_of old.processes) number ≡ Some p → slice_get (order_of processes) number ≡ Some p
  who_same processes order number p who = ap (λ qs. slice_get qs number) (order ∙ order_same) ∙ who

-- what is left of a step can be done, and then the step is made
pub record Left {X Proc : Type 0} (seen : X → Proc) (language : Language Proc) (old mid : NodeState X) (p : Place) (number block : ℕ) (need : Need) (paths : List (Arc Path Global)) (starts : List X) (drops : List PortValue) (cost : ℕ) : Type 0 where
  pub ready : IsReady seen mid p number block paths starts drops cost
  pub steps : (after : NodeState X) → IsFinished p number block (map seen starts) drops cost (need_changes language.emptied p need) (run_of seen mid) (run_of seen after) → HasStepped language p (run_of seen old) (run_of seen after)

-- nobody is joined
pub steps_none : {X Proc : Type 0} {seen : X → Proc} {language : Language Proc} {old mid : NodeState X} {p : Place} {number block : ℕ} {need : Need} {paths : List (Arc Path Global)} {starts : List X} {drops : List PortValue} {cost : ℕ}
    → Left seen language old mid p number block need paths starts drops cost → need_changes language.emptied p need ≡ [] → (after : NodeState X) (ns : List ℕ) → ns ≡ []
    → ((b : ℕ) → AreNumbered (order_of mid.processes) p b 1 ns
    → IsFinished p number block (map seen starts) drops cost (child_changes language.emptied p b 1 (length ns)) (run_of seen mid) (run_of seen after))
    → HasStepped language p (run_of seen old) (run_of seen after)
steps_none {seen = seen} {language = language} {mid = mid} {p = p} {number = number} {block = block} {starts = starts} {drops = drops} {cost = cost} k nobody after ns none done =
    k.steps after (subst (λ (js : List (Change Place _)). IsFinished p number block (map seen starts) drops cost js (run_of seen mid) (run_of seen after))
    (ap (λ (n : ℕ). child_changes language.emptied p 0 1 n) (ap length none) ∙ sym nobody)
    (done 0 (subst (λ (ms : List ℕ). AreNumbered (order_of mid.processes) p 0 1 ms) (sym none) tt)))

-- children are joined
pub steps_all : {X Proc : Type 0} {seen : X → Proc} {language : Language Proc} {old mid : NodeState X} {p : Place} {number block of count : ℕ} {paths : List (Arc Path Global)} {starts : List X} {drops : List PortValue} {cost : ℕ}
    → Left seen language old mid p number block (Children of count) paths starts drops cost → (after : NodeState X) (ns : List ℕ) → length ns ≡ count → AreNumbered (order_of mid.processes) p of 1 ns
    → ((b : ℕ) → AreNumbered (order_of mid.processes) p b 1 ns
    → IsFinished p number block (map seen starts) drops cost (child_changes language.emptied p b 1 (length ns)) (run_of seen mid) (run_of seen after))
    → HasStepped language p (run_of seen old) (run_of seen after)
steps_all {seen = seen} {language = language} {mid = mid} {p = p} {number = number} {block = block} {of = of} {starts = starts} {drops = drops} {cost = cost} k after ns all numbered done =
    k.steps after (subst (λ (n : ℕ). IsFinished p number block (map seen starts) drops cost (child_changes language.emptied p of 1 n) (run_of seen mid) (run_of seen after)) all (done of numbered))

module _ {X Proc : Type 0} (seen : X → Proc) (old ready : NodeState X) (same : run_of seen ready ≡ run_of seen old)
    (language : Language Proc) (start : State Proc) (laws : IsLawfulLanguage language) (owned : IsOwned language start) (words : AsksForWords language start)
    (sound : IsSound language start (run_of seen old)) (low : old.used ≤ 1000000000) (p : Place) (number : ℕ) (who : slice_get (order_of old.processes) number ≡ Some p) (need : Need) (asks : AsksFor language p (run_of seen old) (Some need)) where
  pub left_of : (block count : ℕ) → Starting language p (run_of seen old) block count
      → (paths : List (Arc Path Global)) → places_in paths ≡ child_places p block 1 count → vec_len ready.history < vec_capacity ready.history
      → (r : Reply Proc) → served_here language.has_ended (procs_of seen old.processes) (linked_chans_of old.network.channels) p need ≡ Some r
      → (processes : Processes X) (channels : Channels) (starts : List X) (drops : List PortValue) (cost : ℕ)
      → ((y : Proc) (f : ChanName → Reply Proc → Onward Proc) → get (procs_of seen ready.processes) p ≡ Some y → language.ask y ≡ Go need f
      → GoesAt (procs_of seen ready.processes) p (map seen starts) drops cost (procs_of seen processes) (f (made p need) r))
      → cost < 2 ^ 63 → order_of processes ≡ order_of ready.processes → HasRoom processes count
      → linked_chans_of channels ≡ linked_after p need (linked_chans_of ready.network.channels)
      → Left seen language old (mid_of ready processes channels) p number block need paths starts drops cost
  left_of block count starting paths at entry r serves processes channels starts drops cost goes few order room linked =
      let x = stands seen old.processes number p who in
      let mid : NodeState X = mid_of ready processes channels in
      let k : Carried language (run_of seen old) (run_of seen mid) p number block count need (map seen starts) drops cost =
      carried language start laws owned words (run_of seen old) sound p number who x.0 x.1 (run_of seen mid) block count need asks starting r serves (map seen starts) drops cost
      (λ y f at is. subst (λ (m : Procs Proc). GoesAt m p (map seen starts) drops cost (procs_of seen processes) (f (made p need) r)) (procs_same seen old ready same)
      (goes y f (ap (λ (m : Procs Proc). get m p) (procs_same seen old ready same) ∙ at) is))
      (ap (λ (r : Run Proc). r.history) same)
      (order ∙ order_same seen old ready same)
      (used_same seen old ready same)
      (ap (λ (r : Run Proc). r.hosts.wire) same)
      (linked ∙ ap (linked_after p need) (linked_same seen old ready same)) in
      let all : count ≡ length starts = sym (sym (length-map starts seen) ∙ k.count_is) in
      record {
        ready = record {
          who = who_same seen old ready same processes order number p who;
          paths_are = at ∙ ap (λ (n : ℕ). child_places p block 1 n) all;
          new = k.new;
          room = subst (λ (n : ℕ). HasRoom processes n) all room;
          entry = entry;
          are_open = k.are_open;
          used = subst (λ (n : ℕ). n ≤ 1000000000) (sym (used_same seen old ready same)) low;
          few = few;
        };
        steps = λ after done. k.steps (run_of seen after) done;
      }

  -- who isn't served has no step
  pub unserved : served_here language.has_ended (procs_of seen old.processes) (linked_chans_of old.network.channels) p need ≡ None → hosts_step language (run_of seen old).hosts p ≡ None
  unserved none =
      let x = stands seen old.processes number p who in
      waits_here language (run_of seen old).hosts p x.0 need x.1 (asks x.0 x.1) none

module _ {X Proc : Type 0} (seen : X → Proc) (old : NodeState X) (language : Language Proc) (p : Place) (number : ℕ) (who : slice_get (order_of old.processes) number ≡ Some p) where
  -- who asks for nothing has none
  pub rested : AsksFor language p (run_of seen old) None → hosts_step language (run_of seen old).hosts p ≡ None
  rested asks =
      let x = stands seen old.processes number p who in
      rests_here language (run_of seen old).hosts p x.0 x.1 (asks x.0 x.1)

  -- no channel has yet the name of one that is made
  pub new_name : (start : State Proc) → IsLawfulLanguage language → IsOwned language start → AsksForWords language start → IsSound language start (run_of seen old)
      → (at writers : ℕ) → AsksFor language p (run_of seen old) (Some (New at writers)) → get (linked_chans_of old.network.channels) (name_of p at) ≡ None
  new_name start laws owned words sound at writers asks =
      let x = stands seen old.processes number p who in
      let a = asked_so language (run_of seen old).hosts p x.0 (New at writers) (asks x.0 x.1) in
      no_channel language start laws owned words (run_of seen old) sound p x.0 x.1 at writers a.0 a.1

module _ {X Proc : Type 0} (seen : X → Proc) (old : NodeState X) where
  -- nothing changed but the room
  pub prepared : (processes : Processes X) (history : Vec Turn) → history.items ≡ old.history.items → procs_of seen processes ≡ procs_of seen old.processes → order_of processes ≡ order_of old.processes
      → run_of seen (record { processes = processes; network = old.network; history = history; used = old.used }) ≡ run_of seen old
  prepared processes history entries procs order =
      same_run (run_of seen (record { processes = processes; network = old.network; history = history; used = old.used })) (run_of seen old) entries order refl refl procs refl

  -- what is left of a step is done
  pub finished : (p : Place) (number block : ℕ) (starts : List X) (drops : List PortValue) (cost : ℕ) (joins : List (Change Place Proc)) (processes : Processes X) (channels : Channels) (history : Vec Turn) (entry : Turn)
      → procs_of seen processes ≡ alters (start_changes p block 1 (map seen starts)) (alters joins (procs_of seen old.processes))
      → order_of processes ≡ order_of old.processes ++ child_places p block 1 (length starts)
      → linked_chans_of channels ≡ shut_ports drops (linked_chans_of old.network.channels)
      → history.items ≡ old.history.items ++ entry ∷ [] → entry ≡ one_step_of number
      → IsFinished p number block (map seen starts) drops cost joins (run_of seen old) (run_of seen (record { processes = processes; network = record { channels = channels; wire = old.network.wire }; history = history; used = old.used + cost }))
  finished p number block starts drops cost joins processes channels history entry procs order linked entries is = record {
    procs_are = procs;
    channels_are = linked;
    wire_is = refl;
    history_is = entries ∙ ap (λ (t : Turn). old.history.items ++ t ∷ []) is;
    order_is = order ∙ ap (λ (n : ℕ). order_of old.processes ++ child_places p block 1 n) (sym (length-map starts seen));
    used_is = refl;
  }

-- where memory was wanting nothing has changed
module _ {Proc : Type 0} (language : Language Proc) (p : Place) (old new : Run Proc) where
  pub tried_err : (r : Result Bool NoMemory) → IsErr r → new ≡ old → IsTried language p old new r
  tried_err (Ok done) is same = absurd (cc is)
  tried_err (Err want) is same = same

  pub own_err : (r : Result Bool NoMemory) → IsErr r → new ≡ old → IsOwnTried language p old new r
  own_err (Ok done) is same = absurd (cc is)
  own_err (Err want) is same = same
