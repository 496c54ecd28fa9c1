use Rattle.std.proofs.Common.{◌≡◌, ◌∙◌, ◌++◌, Some, None, length, reverse, ap, sym, arith}
use Rattle.fm_tree.specs.Blocks.{behind}
use Rattle.fm_tree.specs.Layout.{closing, label_left, marks_of}
use Rattle.fm_unit_structure.specs.Steps.{next_end}
use Rattle.fm_unit_structure.proofs.Loops.{behind_fewer, left_more, whole_more}
use Rattle.fm_unit_structure.proofs.layout.close_loops.Goals as goal

here : (c : goal.In_ok-add) → next_end c.args.terminal c.args.label (behind c.ends.entries.items) ≡ Some c.in-Some.form
here c =
    sym (c.in-Some.ensures.value
    ∙ ap (λ os. next_end c.args.terminal c.args.label (reverse os)) c.deref.ensures.value
    ∙ ap (next_end c.args.terminal c.args.label) c.ends.invariant.stack)

pub ends-smaller : goal.ends-smaller
ends-smaller c =
    let h = behind_fewer c.args.terminal c.args.label c.args.line c.ends.left c.args.place c.ends.entries.items c.in-Some.form (here c) c.in-Some.ensures.closes in
    let e = ap (λ es. length (behind es)) c.in_ok-add.ensures.entries in omega (arith, h, e)

pub ends-preserved : goal.ends-preserved
ends-preserved c = record {
  stack = c.in_ok-add.ensures.stack;
  whole = ap (λ es. es ++ marks_of c.args.line None c.args.place (closing c.args.terminal c.args.label (behind es))) c.in_ok-add.ensures.entries
      ∙ whole_more c.args.terminal c.args.label c.args.line c.ends.left c.args.place c.ends.entries.items c.in-Some.form (here c) c.in-Some.ensures.closes
      ∙ c.ends.invariant.whole;
  left = ap (λ es. label_left None (closing c.args.terminal c.args.label (behind es))) c.in_ok-add.ensures.entries
      ∙ left_more c.args.terminal c.args.label c.args.line c.ends.left c.args.place c.ends.entries.items c.in-Some.form (here c) c.in-Some.ensures.closes
      ∙ c.ends.invariant.left;
}
