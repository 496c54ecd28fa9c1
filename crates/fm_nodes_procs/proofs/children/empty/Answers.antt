use Rattle.std.proofs.Common.{sym, arith}
use Rattle.fm_nodes_procs.specs.Processes.{order_of}
use Rattle.fm_nodes_procs.proofs.Kept.{change_kept, low, read_there}
use Rattle.fm_nodes_procs.proofs.Procs.{changed_there}
use Rattle.fm_nodes_procs.proofs.children.empty.Goals as goal

pub returns-then-number-len-clause-procs : goal.returns-then-number-len-clause-procs
returns-then-number-len-clause-procs g c = λ p at.
    let me = c.args.processes.now in
    let x = c.index_mut.result.now in
    let y = c.empty.new.process in
    changed_there (g.R.Runner.seen c.args.runner.now) me _ p x y (g.R.Runner.language c.args.runner.now).emptied
    (sym (read_there me.paths.items me.values.items me.rows c.args.number p x at c.index_mut.ensures.value)) (change_kept me.paths.items me.values.items me.rows c.args.number y p at) c.empty.ensures

pub returns-else-number-len-clause-procs : goal.returns-else-number-len-clause-procs
returns-else-number-len-clause-procs g c = λ p at.
    let me = c.args.processes.now in
    absurd (omega (arith, low (order_of me) c.args.number p at, c.if-number-len.false, c.len.ensures, me.values.ok.0, me.rows.each))
