use Rattle.std.proofs.Common.{◌≡◌, List, [], map, take, drop, set, ◌+◌, subst, sym, arith}
use Rattle.std.specs.List.{flat_map}
use Rattle.fm_mean.specs.Process.{Kid}
use Rattle.fm_plain_frame.specs.Frames.{kid_of}
use Rattle.fm_plain_frame.specs.LetGo.{let_go_ports}
use Rattle.fm_plain_frame.specs.Memory.{values_of}
use Rattle.fm_plain_replies.specs.Joins.{AreReady, frames_back, leaving, with_values}
use Rattle.fm_plain_replies.proofs.JoinLaws.{ready_next, ready_here, back_next}
use Rattle.fm_plain_replies.proofs.joining.children_back.Goals as goal

pub child_back-requires-clause-ready : goal.child_back-requires-clause-ready
child_back-requires-clause-ready c =
    ready_here c.args.program.now (map kid_of c.children.kids.now) c.children.children c.children.child-index c.child-item.result (omega arith) c.children.invariant.ready

pub children-preserved : goal.children-preserved
children-preserved c =
    let p = c.args.program.now in
    let ls = c.children.children in
    let i = c.children.child-index in
    let new = c.child_back.new.child in
    let after = values_of c.args.variables.now c.child_back.new.memory in
    let whole = frames_back (with_values (values_of c.args.variables.now c.args.memory.now)) (map kid_of c.args.kids.now) (map (leaving p) c.args.children.now) in
    record {
      ready = subst (λ (ks : List Kid). AreReady p ks (drop (i + 1) (set ls i new))) (sym c.other_kids-kids.ensures)
          (ready_next p (map kid_of c.children.kids.now) ls i c.child-item.result new (omega arith) c.children.invariant.ready);
      back = subst (λ (ks : List Kid). frames_back (record { mine = after; theirs = []; drops = flat_map (let_go_ports p) (take (i + 1) (set ls i new)) }) ks (map (leaving p) (drop (i + 1) (set ls i new))) ≡ whole) (sym c.other_kids-kids.ensures)
          (back_next p (map kid_of c.children.kids.now) ls i c.child-item.result new (values_of c.args.variables.now c.children.memory) after whole (omega arith) c.child_back.ensures.memory c.child_back.ensures.drops c.children.invariant.back);
    }
