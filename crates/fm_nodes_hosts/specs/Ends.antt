-- On which hosts the ends of a channel are, and what is lost where a host starts again.
-- Source: this profile.
use Rattle.std.specs.Prelude.{◌≡◌, ℕ, ◌-◌, ◌==◌, ◌||◌, not, nat_lt, Bool, false, cond, Option, Some, None, unwrap_or, List, [], ◌∷◌, length, take}
use Rattle.std.specs.FinMap.{get}
use Rattle.fm_base.specs.declared.path.ChanName.{ChanName}
use Rattle.fm_base.specs.declared.port.PortValue.{PortValue}
use Rattle.fm_base.specs.declared.port.PortValue.TheVariants.{Writer, Reader}
use Rattle.fm_net.specs.Language.{Language}
use Rattle.fm_net.specs.Machine.{Place, Procs}
use Rattle.fm_net.specs.Owned.{count}
use Rattle.fm_link_law.specs.Hosts.{restarted}
use Rattle.fm_nodes_network.specs.declared.network.Carried.{Carried}
use Rattle.fm_nodes_hosts.specs.Runs.{Run, with_hosts}

module _ {Proc : Type 0} (language : Language Proc) where
  -- somebody is there who has the port: in a variable, in a start that is pending, or kept for the starter
  abbrev pub has_port : PortValue → Option Proc → Bool
  has_port z None = false
  has_port z (Some x) = nat_lt 0 (count z (language.held x))

  -- what an ended process has is its starter's
  abbrev pub keeper : Place → Option Proc → Place
  keeper q None = q
  keeper q (Some x) = cond (language.has_ended x) (take (length q - 1) q) q

module _ {Proc : Type 0} (language : Language Proc) (procs : Procs Proc) where
  -- who holds a port, of the processes at these places: the first one of them that has it, or its starter
  abbrev pub holder : List Place → PortValue → Option Place
  holder [] z = None
  holder (q ∷ qs) z = cond (has_port language z (get procs q)) (Some (keeper language q (get procs q))) (holder qs z)

-- the host of a process; where nobody is, the first one
abbrev pub host_by : {Proc : Type 0} → (Proc → ℕ) → Option Proc → ℕ
host_by host_of None = 0
host_by host_of (Some x) = host_of x

module _ {Proc : Type 0} (language : Language Proc) (host_of : Proc → ℕ) (procs : Procs Proc) (order : List Place) where
  -- the host of an end of a channel: of who holds it, and of the channel's maker where nobody does
  abbrev pub end_host : ChanName → PortValue → ℕ
  end_host c z = host_by host_of (get procs (unwrap_or (holder language procs order z) c.maker))

  -- what travels over a channel stays, unless an end of it is on the host that starts again
  abbrev pub outlasts : (host : ℕ) → ChanName → Bool
  outlasts host c = not ((end_host c (Writer c 0) == host) || (end_host c (Reader c) == host))

-- two tests agree on the channels of all of these things
abbrev pub AreJudged : (one other : ChanName → Bool) → List Carried → Type 0
AreJudged one other [] = Unit {0}
AreJudged one other (c ∷ cs) = (one c.channel ≡ other c.channel) × AreJudged one other cs

-- the run where a host started again
abbrev pub restarted_run : {Proc : Type 0} → Language Proc → (Proc → ℕ) → (host : ℕ) → Run Proc → Run Proc
restarted_run language host_of host run = with_hosts run (restarted (λ e. outlasts language host_of run.hosts.procs run.order host e.0) run.hosts)
