use Rattle.std.proofs.Common.{ap, arith, ◌∙◌}
use Rattle.std.proofs.lemmas.List.{take_all}
use Rattle.fm_plain_frame.specs.Memory.{values_of}
use Rattle.fm_plain_frame.proofs.Unset.{unset_words, unset_values}
use Rattle.fm_plain_frame.proofs.memory.unset.Goals as goal

pub returns : goal.returns
returns c =
    let vs = c.args.variables.now in
    ap (values_of vs) (c.variables.invariant ∙ ap unset_words (take_all c.variables.variable-index vs (omega arith))) ∙ unset_values vs c.requires
