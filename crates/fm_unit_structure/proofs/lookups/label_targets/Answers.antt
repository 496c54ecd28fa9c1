use Rattle.std.proofs.Common.{◌∙◌}
use Rattle.fm_unit_structure.proofs.Firsts.{wanted_target}
use Rattle.fm_unit_structure.proofs.lookups.label_targets.Goals as goal

pub returns : goal.returns
returns c = λ q. c.in_ok-targets.ensures q ∙ wanted_target c.args.entries.now q
