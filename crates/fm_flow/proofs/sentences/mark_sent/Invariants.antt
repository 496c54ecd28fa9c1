use Rattle.std.proofs.Common.{◌≡◌, drop}
use Rattle.fm_plain_frame.specs.Units.{unit_of}
use Rattle.fm_flow.specs.Walks.{sent_from}
use Rattle.fm_flow.proofs.sentences.mark_sent.Given as goal

abbrev pub invariant-entries : goal.invariant-entries
invariant-entries l = sent_from (unit_of l.unit) l.met.items (drop l.entry-index l.body) ≡ sent_from (unit_of l.unit) l.fn.met.items l.body
