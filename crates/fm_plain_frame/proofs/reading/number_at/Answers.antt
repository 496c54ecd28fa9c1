use Rattle.std.proofs.Common.{FitsSigned, w64, rules, ◌∙◌}
use Rattle.std.proofs.lemmas.Int.{to_z-of_z}
use Rattle.fm_plain_frame.proofs.ReadingLaws.{first_none, first_some}
use Rattle.fm_plain_frame.proofs.reading.number_at.Goals as goal

pub returns-in_default : goal.returns-in_default
returns-in_default c = first_none c.args.variables.now c.args.memory.now c.args.span c.numbers.result.now c.numbers.ensures c.in_default.ensures

pub returns : goal.returns
returns c =
    let fits : FitsSigned w64 c.number.result = search rules in
    to_z-of_z w64 c.number.result fits ∙ first_some c.args.variables.now c.args.memory.now c.args.span c.numbers.result.now c.in-Some.word.now c.number.result c.numbers.ensures c.in-Some.ensures c.number.ensures
