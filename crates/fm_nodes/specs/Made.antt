-- The events that made a run on hosts.
-- Source: this profile.
use Rattle.std.specs.Prelude.{◌≡◌, List, Some}
use Rattle.fm_base.specs.declared.path.ChanName.{ChanName}
use Rattle.fm_net.specs.Starts.{choices_of}
use Rattle.fm_rules.specs.declared.program.Program.{Program}
use Rattle.fm_mean.specs.Process.{Proc}
use Rattle.fm_mean.specs.Steps.{language}
use Rattle.fm_run.specs.Orders.{places_of}
use Rattle.fm_run.specs.declared.run.Run as told
use Rattle.fm_link_law.specs.Play.{HostEvent, hosts_after, steps_of}
use Rattle.fm_link_channels.specs.Links.{GoesByLink}
use Rattle.fm_nodes_plain.specs.Plain.{first_hosts}
use Rattle.fm_nodes_hosts.specs.Runs.{Run}

-- what happened so far: events that lead from main alone to these hosts, and whose steps are those that the history tells
pub record IsMade (p : Program) (run : Run Proc) : Type 0 where
  pub events : List HostEvent
  pub hosts : hosts_after (language p) (first_hosts p) events ≡ run.hosts
  pub steps : choices_of run.history run.order ≡ Some (steps_of (language p) (first_hosts p) events)

-- events at hosts whose steps are those that the run tells. Over each channel they are events of a link, and what its reader took is a
-- prefix of what its writer pushed
pub record GoesByLinks (p : Program) (run : told.Run) : Type 0 where
  pub events : List HostEvent
  pub steps : choices_of run.history.items (places_of run.paths.items) ≡ Some (steps_of (language p) (first_hosts p) events)
  pub links : (c : ChanName) → GoesByLink (language p) (first_hosts p) events c
