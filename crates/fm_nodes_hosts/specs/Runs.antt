-- What happens on hosts: the hosts as plain data with the history, the paths and the cost, and what an event makes of them.
-- Source: this profile, after the laws of links.
use Rattle.std.specs.Prelude.{◌≡◌, ◌+◌, ◌++◌, [], ◌∷◌, ℕ, Bool, true, false, List, Option, Some, None, Result, Ok, Err, length, slice_get}
use Rattle.fm_base.specs.declared.memory.NoMemory.{NoMemory}
use Rattle.fm_base.specs.declared.port.PortValue.{PortValue}
use Rattle.fm_base.specs.declared.schedule.Turn.{Turn}
use Rattle.std.specs.FinMap.{empty, get, insert}
use Rattle.fm_finmap.specs.Changes.{Change, alters}
use Rattle.fm_net.specs.Machine.{Place, Need, Onward, start_changes}
use Rattle.fm_net.specs.Language.{Language}
use Rattle.fm_net.specs.Owned.{main_alone}
use Rattle.fm_net.specs.Starts.{child_places, starts_at}
use Rattle.fm_link_law.specs.Hosts.{Hosts, state_of}
use Rattle.fm_link_law.specs.Channels.{shut_ports}
use Rattle.fm_link_law.specs.Steps.{hosts_step, linked_after}
use Rattle.fm_nodes_procs.specs.Asks.{StartsSo, need_asked}

-- the hosts, the entries of the history, the paths in the order of starting, and what the steps cost
pub record Run (Proc : Type 0) : Type 0 where
  pub hosts : Hosts Proc
  pub history : List Turn
  pub order : List Place
  pub used : ℕ

-- an entry of one step of the process of this number
abbrev pub one_step_of : ℕ → Turn
one_step_of number = record { number = number; steps = 1 }

-- a process made a step on what has arrived: the history has one entry more, and the children that it started stand last
pub record HasStepped {Proc : Type 0} (language : Language Proc) (p : Place) (old new : Run Proc) : Type 0 where
  pub cost : ℕ
  pub steps : hosts_step language old.hosts p ≡ Some (new.hosts, cost)
  pub number : ℕ
  pub who : slice_get old.order number ≡ Some p
  pub history_is : new.history ≡ old.history ++ one_step_of number ∷ []
  pub order_is : new.order ≡ old.order ++ starts_at language (state_of old.hosts) p
  pub used_is : new.used ≡ old.used + cost

-- what became of a try to step: it was made; or there is none on what has arrived, and nothing has changed; or memory was wanting, and
-- nothing has changed
abbrev pub IsTried : {Proc : Type 0} → Language Proc → Place → (old new : Run Proc) → Result Bool NoMemory → Type 0
IsTried language p old new (Ok true) = HasStepped language p old new
IsTried language p old new (Ok false) = (hosts_step language old.hosts p ≡ None) × (new ≡ old)
IsTried language p old new (Err want) = new ≡ old

-- the hosts are others, and no step was made
abbrev pub with_hosts : {Proc : Type 0} → Run Proc → Hosts Proc → Run Proc
with_hosts run hosts = record { hosts = hosts; history = run.history; order = run.order; used = run.used }

-- what became of what the network does: these are the hosts then; or it can't be done, and nothing has changed; or memory was wanting,
-- and nothing has changed
abbrev pub IsMoved : {Proc : Type 0} → (later : Option (Hosts Proc)) → (old new : Run Proc) → Result Bool NoMemory → Type 0
IsMoved later old new (Ok true) = (later ≡ Some new.hosts) × (new ≡ with_hosts old new.hosts)
IsMoved later old new (Ok false) = (later ≡ None) × (new ≡ old)
IsMoved later old new (Err want) = new ≡ old

-- a process went on, and what it needed is done at the channels; nothing else yet
abbrev pub gone_on : {Proc : Type 0} → Place → Need → Onward Proc → Run Proc → Run Proc
gone_on p need o run = with_hosts run (record { procs = insert run.hosts.procs p o.self; channels = linked_after p need run.hosts.channels; wire = run.hosts.wire })

-- what is left of a step then is done: with these changes of children that were joined, its children start, and its ports are let go
pub record IsFinished {Proc : Type 0} (p : Place) (number block : ℕ) (starts : List Proc) (drops : List PortValue) (cost : ℕ) (joins : List (Change Place Proc)) (old new : Run Proc) : Type 0 where
  pub procs_are : new.hosts.procs ≡ alters (start_changes p block 1 starts) (alters joins old.hosts.procs)
  pub channels_are : new.hosts.channels ≡ shut_ports drops old.hosts.channels
  pub wire_is : new.hosts.wire ≡ old.hosts.wire
  pub history_is : new.history ≡ old.history ++ one_step_of number ∷ []
  pub order_is : new.order ≡ old.order ++ child_places p block 1 (length starts)
  pub used_is : new.used ≡ old.used + cost

-- this is what the process at a place asks for
abbrev pub AsksFor : {Proc : Type 0} → Language Proc → Place → Run Proc → Option Need → Type 0
AsksFor {Proc} language p run o = (x : Proc) → get run.hosts.procs p ≡ Some x → need_asked (language.ask x) ≡ o

-- and how many children start with its next step, in which block
abbrev pub Starting : {Proc : Type 0} → Language Proc → Place → Run Proc → (block count : ℕ) → Type 0
Starting {Proc} language p run block count = (x : Proc) → get run.hosts.procs p ≡ Some x → StartsSo (language.ask x) block count

-- what became of a try to make a step that needs nothing and starts nobody: it was made; or nothing has changed
abbrev pub IsOwnTried : {Proc : Type 0} → Language Proc → Place → (old new : Run Proc) → Result Bool NoMemory → Type 0
IsOwnTried language p old new (Ok true) = HasStepped language p old new
IsOwnTried language p old new (Ok false) = new ≡ old
IsOwnTried language p old new (Err want) = new ≡ old

-- main alone, with no channel and nothing on the wire, before any step
abbrev pub first_run : {Proc : Type 0} → Proc → Run Proc
first_run x = record { hosts = record { procs = (main_alone x).procs; channels = empty; wire = [] }; history = []; order = [] ∷ []; used = 0 }
