use Rattle.std.proofs.Common.{◌≡◌, drop}
use Rattle.fm_plain_frame.specs.Units.{unit_of}
use Rattle.fm_flow.specs.Walks.{risky_from}
use Rattle.fm_flow.proofs.sentences.risky_from.Given as goal

abbrev pub invariant-entries : goal.invariant-entries
invariant-entries l = risky_from l.unit.program.now (unit_of l.unit) l.risks l.met.items l.best (drop l.entry-index l.body) ≡ risky_from l.unit.program.now (unit_of l.unit) l.risks l.fn.met.items l.fn.best l.body
