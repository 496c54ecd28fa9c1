use Rattle.std.proofs.Common.{◌≡◌, drop}
use Rattle.fm_symbols.specs.ByName.{first_of_each, with_all}
use Rattle.fm_mean.specs.Outcome.{shown_variables}
use Rattle.fm_gen_relation.specs.Standing.{values_in}
use Rattle.fm_proc_language.specs.Slots.{port_in}
use Rattle.fm_proc_simulation.proofs.variables.by_name.Given as goal

abbrev pub invariant-variables : goal.invariant-variables
invariant-variables l =
    with_all l.all (shown_variables (drop l.variable-index l.variables) (values_in (port_in l.slots) (drop l.variable-index l.variables) l.memory))
    ≡ first_of_each (shown_variables l.variables (values_in (port_in l.slots) l.variables l.memory))
