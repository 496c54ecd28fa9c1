use Rattle.std.proofs.Common.{arith}
use Rattle.fm_plain_passing.proofs.PassLaws.{gives_more, gives_all}
use Rattle.fm_plain_passing.proofs.giving.ports_back.Goals as goal

pub elements-preserved : goal.elements-preserved
elements-preserved c = record {
  rest = gives_more _ _ _ _ _ _ _ _ c.port_back.ensures.frames c.elements.invariant.rest;
  len = omega arith;
  capacity = omega arith;
}

pub returns-clause-frames : goal.returns-clause-frames
returns-clause-frames c = gives_all _ _ _ _ _ _ _ (omega arith) c.elements.invariant.rest
