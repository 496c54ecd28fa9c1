use Rattle.std.proofs.Common.{◌≡◌, false, drop}
use Rattle.fm_flow.specs.Walks.{foreign_from}
use Rattle.fm_flow.proofs.sentences.foreign_from.Given as goal

abbrev pub invariant-entries : goal.invariant-entries
invariant-entries l = foreign_from l.met l.best (drop l.entry-index l.body) ≡ foreign_from false l.fn.best l.body
