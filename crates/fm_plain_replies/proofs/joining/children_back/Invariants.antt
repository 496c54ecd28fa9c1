use Rattle.std.proofs.Common.{◌≡◌, [], map, take, drop}
use Rattle.std.specs.List.{flat_map}
use Rattle.fm_plain_frame.specs.Frames.{kid_of}
use Rattle.fm_plain_frame.specs.LetGo.{let_go_ports}
use Rattle.fm_plain_frame.specs.Memory.{values_of}
use Rattle.fm_plain_replies.specs.Joins.{AreReady, frames_back, leaving, with_values}
use Rattle.fm_plain_replies.proofs.joining.children_back.Given as goal

-- those that are left are ready, and what they give after those so far is what all give
abbrev pub invariant-children : goal.invariant-children
invariant-children l = record {
  ready : AreReady l.program (map kid_of l.kids) (drop l.child-index l.children);
  back : frames_back (record { mine = values_of l.variables l.memory; theirs = []; drops = flat_map (let_go_ports l.program) (take l.child-index l.children) }) (map kid_of l.kids) (map (leaving l.program) (drop l.child-index l.children))
      ≡ frames_back (with_values (values_of l.variables l.fn.memory)) (map kid_of l.fn.kids) (map (leaving l.program) l.fn.children);
}
