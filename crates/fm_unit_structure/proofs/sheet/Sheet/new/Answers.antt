use Rattle.std.proofs.Common.{◌∙◌}
use Rattle.fm_unit_structure.proofs.Firsts.{wanted_labelled, wanted_target}
use Rattle.fm_unit_structure.proofs.sheet.Sheet.new.Goals as goal

pub invariant_of-result : goal.invariant_of-result
invariant_of-result c = record {
  inner_is = c.in_ok-inner.ensures;
  mates_is = c.in_ok-mates.ensures;
  ends_is = c.in_ok-ends.ensures;
  labels_is = λ q. c.in_ok-labels.ensures q ∙ wanted_labelled c.args.entries.now q;
  targets_is = λ q. c.in_ok-targets.ensures q ∙ wanted_target c.args.entries.now q;
  executable_is = c.first_executable-executable.ensures;
  whole_is = c.has_end-is_whole.ensures;
}
