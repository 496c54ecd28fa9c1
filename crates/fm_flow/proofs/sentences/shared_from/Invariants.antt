use Rattle.std.proofs.Common.{◌≡◌, drop}
use Rattle.fm_plain_frame.specs.Units.{unit_of}
use Rattle.fm_flow.specs.Walks.{shared_from}
use Rattle.fm_flow.proofs.sentences.shared_from.Given as goal

abbrev pub invariant-entries : goal.invariant-entries
invariant-entries l = shared_from (unit_of l.unit) l.sent l.met.items l.best (drop l.entry-index l.body) ≡ shared_from (unit_of l.unit) l.sent l.fn.met.items l.fn.best l.body
