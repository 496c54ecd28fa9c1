use Rattle.std.proofs.Common.{◌≡◌, map, drop}
use Rattle.fm_symbols.specs.ByName.{with_all}
use Rattle.fm_symbols.specs.Context.{constant_entry}
use Rattle.fm_symbols.proofs.context.add_constants.Given as goal

abbrev pub invariant-constants : goal.invariant-constants
invariant-constants l = with_all l.symbols (map constant_entry (drop l.index l.constants)) ≡ with_all l.fn.symbols (map constant_entry l.constants)
