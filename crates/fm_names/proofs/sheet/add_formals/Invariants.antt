use Rattle.std.proofs.Common.{◌≡◌, ◌+◌, drop}
use Rattle.fm_symbols.specs.ByName.{with_all}
use Rattle.fm_rules.specs.Sheets.{numbered}
use Rattle.fm_names.proofs.sheet.add_formals.Given as goal

abbrev pub invariant-names : goal.invariant-names
invariant-names l = with_all l.formals (numbered (l.index + 1) (drop l.index l.names)) ≡ with_all l.fn.formals (numbered 1 l.names)
