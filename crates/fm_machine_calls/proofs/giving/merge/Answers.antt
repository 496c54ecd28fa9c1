use Rattle.std.proofs.Common.{rules, ◌++◌}
use Rattle.fm_code.specs.Passing.{displaced}
use Rattle.fm_machine_calls.proofs.Merging.{one_merged, one_displaced, one_counted, same_rest}
use Rattle.fm_machine_calls.proofs.giving.merge.Goals as goal

pub words-preserved : goal.words-preserved
words-preserved c = record {
  merges = one_merged _ _ _ _ _ _ _ _ _ _ c.words.invariant.merges c.in-Some.ensures c.in-Some-front.ensures (search rules) c.in_ok-push.ensures.ok;
  drops = one_displaced c.words.drops c.merge_one.new.drops c.words.mine.now c.in-Some.mine_behind.now c.words.theirs.now c.in-Some-front.theirs_behind.now (c.args.drops.now ++ displaced c.args.mine.now c.args.theirs.now) c.in-Some.old c.in-Some-front.new c.words.invariant.drops c.in-Some.ensures c.in-Some-front.ensures (search rules);
  size = one_counted _ _ _ _ _ _ _ c.words.invariant.size c.in-Some.ensures c.in_ok-push.ensures.ok;
  same = same_rest _ _ _ _ _ _ c.words.invariant.same c.in-Some.ensures c.in-Some-front.ensures;
}
