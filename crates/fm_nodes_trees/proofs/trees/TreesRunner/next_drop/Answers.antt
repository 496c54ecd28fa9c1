use Rattle.std.proofs.Common.{subst}
use Rattle.std.specs.Arc.{arc_value}
use Rattle.fm_rules.specs.declared.program.Program.{Program}
use Rattle.fm_plain_frame.specs.Leaving.{Yields}
use Rattle.fm_nodes_trees.specs.Drops.{drops_in}
use Rattle.fm_nodes_trees.proofs.DropLaws.{yields_last, yields_list}
use Rattle.fm_nodes_trees.proofs.trees.TreesRunner.next_drop.Goals as goal

pub returns-clause-ports : goal.returns-clause-ports
returns-clause-ports c =
    let p = arc_value c.args.self.now.program in
    yields_list (drops_in p c.args.drops.now) c.next.result (drops_in p c.next.new.self) (subst (λ (p : Program). Yields (drops_in p c.args.drops.now) c.next.result (drops_in p c.next.new.self)) c.deref.ensures c.next.ensures)

pub returns-clause-none : goal.returns-clause-none
returns-clause-none c =
    let p = arc_value c.args.self.now.program in
    yields_last (drops_in p c.args.drops.now) c.next.result (drops_in p c.next.new.self) (subst (λ (p : Program). Yields (drops_in p c.args.drops.now) c.next.result (drops_in p c.next.new.self)) c.deref.ensures c.next.ensures)
