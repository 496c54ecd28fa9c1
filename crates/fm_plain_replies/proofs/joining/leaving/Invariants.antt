use Rattle.std.proofs.Common.{◌≡◌, List, ◌++◌, map, length}
use Rattle.fm_plain_frame.specs.Frames.{kid_of}
use Rattle.fm_plain_frame.specs.declared.let_go.LetGo.{LetGo}
use Rattle.fm_plain_replies.specs.Joins.{AreReady, leaving, left_frames}
use Rattle.fm_plain_replies.proofs.joining.leaving.Given as goal

-- those so far and those to come are the children; with whatever is ready for the children that are left all is
abbrev pub invariant-children : goal.invariant-children
invariant-children l = record {
  frames : map (leaving l.program) l.all.items ++ map (left_frames l.program) l.waiting.items ≡ map (left_frames l.program) l.fn.children.items;
  ready : (more : List LetGo) → AreReady l.program (map kid_of l.kids) more → AreReady l.program (map kid_of l.fn.kids) (l.all.items ++ more);
}

abbrev pub decreases-children : goal.decreases-children
decreases-children l = length l.waiting.items
