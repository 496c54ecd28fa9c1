use Rattle.std.proofs.Common.{length, sym, ap, ◌∙◌, arith}
use Rattle.std.specs.List.{flat_map}
use Rattle.fm_plain_frame.specs.LetGo.{let_go_ports}
use Rattle.fm_plain_frame.specs.Leaving.{left_ports}
use Rattle.fm_nodes_trees.specs.Drops.{drops_in}
use Rattle.fm_nodes_trees.proofs.DropLaws.{all_gone, next_at_hand, yields_more}
use Rattle.fm_nodes_trees.proofs.drops.Drops.next.Goals as goal

pub returns-then-is_some : goal.returns-then-is_some
returns-then-is_some c =
    let p = c.args.program.now in
    yields_more _ (left_ports p c.lists.self.at_hand) (left_ports p c.next-port.new.self) (flat_map (let_go_ports p) c.lists.self.rest.items) c.next-port.result (sym c.lists.invariant) c.next-port.ensures (sym c.is_some.ensures ∙ c.if-is_some.true)

pub returns-in-None : goal.returns-in-None
returns-in-None c =
    let p = c.args.program.now in
    all_gone p (drops_in p c.args.self.now) (left_ports p c.lists.self.at_hand) (left_ports p c.next-port.new.self) c.lists.self.rest.items c.next-port.result c.lists.invariant c.next-port.ensures (sym c.is_some.ensures ∙ c.if-is_some.false)
    c.next_list.new.rest.items c.in-None.ensures.0 c.in-None.ensures.1

pub lists-smaller : goal.lists-smaller
lists-smaller c = omega (arith, ap length c.in-Some.ensures)

pub lists-preserved : goal.lists-preserved
lists-preserved c =
    let p = c.args.program.now in
    next_at_hand p (drops_in p c.args.self.now) (left_ports p c.lists.self.at_hand) (left_ports p c.next-port.new.self) c.lists.self.rest.items c.next-port.result c.lists.invariant c.next-port.ensures (sym c.is_some.ensures ∙ c.if-is_some.false)
    c.in-Some.ports c.next_list.new.rest.items c.in-Some.ensures (left_ports p c.new.result) (c.new.ensures p)
