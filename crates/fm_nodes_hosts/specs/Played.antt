-- The schedule that a history tells, and what holds between two events.
-- Source: this profile.
use Rattle.std.specs.Prelude.{◌≡◌, ℕ, List, Some}
use Rattle.fm_base.specs.declared.schedule.Turn.{Turn}
use Rattle.fm_sched.specs.Schedule.{play, used, IsLegal}
use Rattle.fm_net.specs.Machine.{Place, State}
use Rattle.fm_net.specs.Language.{Language, language_step}
use Rattle.fm_net.specs.Starts.{choices_of, starts_of}
use Rattle.fm_link_law.specs.Hosts as plain
use Rattle.fm_link_law.specs.Hosts.{state_of}
use Rattle.fm_nodes_hosts.specs.Runs.{Run}

module _ {Proc : Type 0} (language : Language Proc) (start : State Proc) where
  -- the history and the places, in the order of starting, tell a schedule that leads to this state at this cost
  pub record IsPlayedBy (history : List Turn) (places : List Place) (s : State Proc) (paid : ℕ) : Type 0 where
    pub choices : List Place
    pub kept : choices_of history places ≡ Some choices
    pub places_are : places ≡ starts_of language start choices
    pub legal : IsLegal (language_step language) start choices
    pub there : play (language_step language) start choices ≡ s
    pub used_is : used (language_step language) start choices ≡ paid

  -- what holds between two events: the channels are as links leave them, and the history tells how the hosts came there
  pub record IsSound (run : Run Proc) : Type 0 where
    pub links : plain.IsSound run.hosts
    pub played : IsPlayedBy run.history run.order (state_of run.hosts) run.used
