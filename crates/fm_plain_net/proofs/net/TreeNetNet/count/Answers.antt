use Rattle.std.proofs.Common.{sym, ◌∙◌}
use Rattle.std.proofs.lemmas.List.{length-map}
use Rattle.fm_net.specs.Machine.{Place}
use Rattle.fm_plain_net.specs.Readings.{Slot}
use Rattle.fm_plain_net.proofs.net.TreeNetNet.count.Goals as goal

pub returns : goal.returns
returns c = c.len.ensures ∙ sym (length-map c.args.self.now.trees.entries.rows (λ (row : Place × Slot). row.0))
