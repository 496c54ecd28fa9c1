-- How the rounds end a run.
-- Source: this profile.
use Rattle.std.specs.Prelude.{◌≡◌}
use Rattle.fm_link_law.specs.Hosts.{state_of}
use Rattle.fm_mean.specs.Outcome.{outcome_of}
use Rattle.fm_run.specs.declared.run.Ending.{Ending}
use Rattle.fm_run.specs.declared.run.Ending.TheVariants as ending
use Rattle.fm_nodes_rounds.specs.declared.driving.Driven.{Driven}
use Rattle.fm_nodes_rounds.specs.declared.driving.Driven.TheVariants as driven
use Rattle.fm_nodes.specs.Nodes.{Hosted}

-- where no process has a step any more, it ends with what the program shows then, and else it is spent
abbrev pub EndsAs : Hosted → Driven → Ending → Type 0
EndsAs h driven.Ended (ending.Ended o) = o ≡ outcome_of h.program h.run.used (state_of h.run.hosts)
EndsAs h driven.Ended ending.Spent = ⊥
EndsAs h driven.Spent (ending.Ended o) = ⊥
EndsAs h driven.Spent ending.Spent = Unit {0}
