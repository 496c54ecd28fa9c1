use Rattle.std.proofs.Common.{◌≡◌, drop}
use Rattle.fm_tree.specs.Tree.{node_count, node_counts, trees_from}
use Rattle.fm_rules.specs.Expressions.{arguments_judged}
use Rattle.fm_types_expr.specs.Behind.{arguments_behind}
use Rattle.fm_types_expr.proofs.expressions.+judge.Given as goal

abbrev pub decreases-judge : goal.decreases-judge
decreases-judge l = node_count l.expr.now

abbrev pub decreases-judge_arguments : goal.decreases-judge_arguments
decreases-judge_arguments l = node_counts (trees_from l.args.now)

abbrev pub invariant-judge_arguments-loop-arg : goal.invariant-judge_arguments-loop-arg
invariant-judge_arguments-loop-arg l = record {
  index : l.index ≡ l.arg-index;
  whole : arguments_behind l.context l.scope l.referent l.known l.index (trees_from (drop l.arg-index l.args)) ≡ arguments_judged l.context l.scope l.referent 0 (trees_from l.args);
}
