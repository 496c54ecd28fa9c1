use Rattle.std.proofs.Common.{refl, arith}
use Rattle.fm_plain_passing.proofs.PassLaws.{passes_none, passes_more, passes_all}
use Rattle.fm_plain_passing.proofs.entering.pass.Goals as goal

pub elements-init : goal.elements-init
elements-init c = record { rest = passes_none _ c.args.span c.args.formal; len = omega arith; capacity = omega arith }

pub elements-preserved : goal.elements-preserved
elements-preserved c = record {
  rest = passes_more _ _ _ _ _ _ _ _ _ _ _ _ _ c.exchange_behind-port.ensures.memory c.exchange_behind-port.ensures.port c.exchange-replaced.ensures.memory c.exchange-replaced.ensures.port refl c.put.ensures.items c.elements.invariant.rest;
  len = omega arith;
  capacity = omega arith;
}

pub returns-clause-frames : goal.returns-clause-frames
returns-clause-frames c = passes_all _ _ _ _ _ _ _ (omega arith) c.elements.invariant.rest
