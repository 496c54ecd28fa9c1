use Rattle.std.proofs.Common.{arith}
use Rattle.fm_plain_passing.proofs.PassLaws.{takes_more, takes_all}
use Rattle.fm_plain_passing.proofs.moving.take_into.Goals as goal

pub elements-preserved : goal.elements-preserved
elements-preserved c = record {
  rest = takes_more _ _ _ _ _ _ _ _ _ _ _ c.exchange_behind-port.ensures.memory c.exchange_behind-port.ensures.port c.put.ensures.items c.elements.invariant.rest;
  len = omega arith;
  capacity = omega arith;
}

pub returns-clause-memory : goal.returns-clause-memory
returns-clause-memory c = (takes_all _ _ _ _ _ _ _ _ (omega arith) c.elements.invariant.rest).0

pub returns-clause-ports : goal.returns-clause-ports
returns-clause-ports c = (takes_all _ _ _ _ _ _ _ _ (omega arith) c.elements.invariant.rest).1
