use Rattle.std.proofs.Common.{◌≡◌, ◌++◌, length, reverse}
use Rattle.fm_tree.specs.Blocks.{behind}
use Rattle.fm_tree.specs.Layout.{closing, label_left, marks_of}
use Rattle.fm_unit_structure.proofs.layout.close_loops.Given as goal

-- what was added and the ends to come are the whole
abbrev pub invariant-ends : goal.invariant-ends
invariant-ends l = record {
  stack : reverse l.stack.items ≡ behind l.entries.items;
  whole : l.entries.items ++ marks_of l.line l.left l.place (closing l.terminal l.label (behind l.entries.items))
      ≡ l.fn.entries.items ++ marks_of l.line l.fn.tag l.place (closing l.terminal l.label (behind l.fn.entries.items));
  left : label_left l.left (closing l.terminal l.label (behind l.entries.items))
      ≡ label_left l.fn.tag (closing l.terminal l.label (behind l.fn.entries.items));
}

abbrev pub decreases-ends : goal.decreases-ends
decreases-ends l = length (behind l.entries.items)
