use Rattle.std.proofs.Common.{◌≡◌, drop}
use Rattle.fm_symbols.specs.ByName.{with_all}
use Rattle.fm_symbols.specs.Context.{variable_entries}
use Rattle.fm_symbols.proofs.context.add_variables.Given as goal

abbrev pub invariant-variables : goal.invariant-variables
invariant-variables l = with_all l.symbols (variable_entries l.place (drop l.place l.variables)) ≡ with_all l.fn.symbols (variable_entries 0 l.variables)
