use Rattle.std.proofs.Common.{◌<◌, ◌^◌, ◌++◌, ℕ, List, map, ap, subst, sym, ◌∙◌}
use Rattle.std.specs.List.{flat_map}
use Rattle.fm_base.specs.declared.port.PortValue.{PortValue}
use Rattle.fm_net.specs.Machine.{reply_with}
use Rattle.fm_plain_frame.specs.declared.process.PlainProc.{PlainProc}
use Rattle.fm_plain_frame.specs.Frames.{proc_of}
use Rattle.fm_plain_frame.specs.LetGo.{let_go_ports}
use Rattle.fm_nodes_procs.specs.Asks.{GoesSo}
use Rattle.fm_nodes_trees.specs.Drops.{drops_in}
use Rattle.fm_nodes_trees.proofs.JoinLaws.{all_left, joins_so, leavers, payable}
use Rattle.fm_nodes_trees.proofs.joining.join_children.Goals as goal

pub returns-clause-goes : goal.returns-clause-goes
returns-clause-goes c = λ b n f kids asks left ch.
    let p = c.args.program.now in
    let x = proc_of p c.args.process.now in
    let y = proc_of p c.join.new.process in
    let j = c.in_ok-joined.joined in
    let behind = c.in_ok-next.ensures b n f asks in
    let same = all_left p kids c.args.children.items left in
    let drops = c.new-drops.ensures p ∙ ap (λ (zs : List PortValue). zs ++ flat_map (let_go_ports p) j.0.items) (c.new-none.ensures p) ∙ c.in_ok-joined.ensures.drops kids same in
    subst (λ (zs : List PlainProc). GoesSo y (map (proc_of p) zs) (drops_in p c.new-drops.result) j.1 (f ch (reply_with kids))) (sym c.new-starts.ensures.items)
    (joins_so p x y b n f kids ch behind.0 c.in_ok-next.next asks behind.1 (c.in_ok-joined.ensures.process kids same) (drops_in p c.new-drops.result) drops j.1 (c.in_ok-joined.ensures.cost kids same))

pub returns-clause-few : goal.returns-clause-few
returns-clause-few c =
    let p = c.args.program.now in
    let x = proc_of p c.args.process.now in
    let some = leavers p c.args.children.items in
    subst (λ (n : ℕ). n < 2 ^ 63) (sym (c.in_ok-joined.ensures.cost some.kids some.are)) (payable x c.in_ok-next.next some.kids (2 ^ 63) c.in_ok-is_payable.ensures)
