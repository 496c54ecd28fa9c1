use Rattle.fm_unit.proofs.linking.Body.new.Goals as goal

pub invariant_of-result : goal.invariant_of-result
invariant_of-result c = record {
  inner_is = c.in_ok-inner.ensures;
  mates_is = c.in_ok-mates.ensures;
}
