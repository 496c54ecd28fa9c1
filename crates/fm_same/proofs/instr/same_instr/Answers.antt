use Rattle.fm_same.proofs.SameBodies.{by_parts}
use Rattle.fm_same.proofs.instr.same_instr.Goals as goal

pub returns : goal.returns
returns c =
    by_parts c.same_parts.result c.args.first.now c.args.second.now c.parts-one.result c.parts-other.result
    c.parts-one.ensures.parts c.parts-other.ensures.parts c.parts-one.ensures.read c.parts-other.ensures.read c.same_parts.ensures
