use Rattle.std.proofs.Common.{arith, ap, refl}
use Rattle.fm_tree.specs.Tree.{node_count, trees_from}
use Rattle.fm_tree.proofs.Nodes.{in_list}
use Rattle.fm_types_expr.proofs.Behind.{behind_none}
use Rattle.fm_types_expr.proofs.expressions.+judge.Goals as goal

pub judge_arguments-loop-arg-init : goal.judge_arguments-loop-arg-init
judge_arguments-loop-arg-init t c = record {
  index = refl;
  whole = behind_none c.args.context.now c.args.scope.now c.args.referent c.no_flags.result (trees_from c.args.args.now) c.no_flags.ensures;
}

pub judge_arguments-judge-judgement-requires : goal.judge_arguments-judge-judgement-requires
judge_arguments-judge-judgement-requires t c =
    let below = in_list c.args.args.now c.loop-arg.arg-index c.arg-item.result c.loop-arg-test.true in
    let item = ap node_count c.arg-item.is in
    (omega (arith, below, item, c.decreases), tt)
