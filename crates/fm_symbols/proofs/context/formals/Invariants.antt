use Rattle.std.proofs.Common.{◌≡◌, ◌++◌, map, drop}
use Rattle.fm_symbols.specs.Context.{formal_in}
use Rattle.fm_symbols.proofs.context.formals.Given as goal

abbrev pub invariant-loop-name : goal.invariant-loop-name
invariant-loop-name l = l.formals ++ map (formal_in l.symbols) (drop l.name-index l.names) ≡ map (formal_in l.symbols) l.names
