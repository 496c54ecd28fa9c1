use Rattle.std.proofs.Common.{arith}
use Rattle.fm_plain_passing.proofs.KeepLaws.{keeps_more, keeps_all, lost_more}
use Rattle.fm_plain_passing.proofs.keeping.keep_formals.Goals as goal

pub variables-preserved : goal.variables-preserved
variables-preserved c = record {
  rest = keeps_more c.variables.place c.lost_by.result c.args.variables.now c.variables.memory c.index-variables-place.result _ c.variables.room.items c.take_into.new.room.items _ _ c.variables-test.true
      c.index-variables-place.is c.lost_by.ensures c.take_into.ensures.memory c.take_into.ensures.ports c.variables.invariant.rest;
  room = omega (arith, lost_more c.args.variables.now c.variables.place c.lost_by.result c.index-variables-place.result c.variables-test.true c.index-variables-place.is c.lost_by.ensures);
}

pub returns-clause-memory : goal.returns-clause-memory
returns-clause-memory c = (keeps_all c.variables.place c.args.variables.now c.variables.memory c.variables.room.items _ _ (omega arith) c.variables.invariant.rest).0

pub returns-clause-drops : goal.returns-clause-drops
returns-clause-drops c = (keeps_all c.variables.place c.args.variables.now c.variables.memory c.variables.room.items _ _ (omega arith) c.variables.invariant.rest).1
