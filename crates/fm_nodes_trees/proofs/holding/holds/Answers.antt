use Rattle.std.proofs.Common.{List, true, false, map, refl, sym, ap, ◌∙◌}
use Rattle.fm_mean.specs.Process.{frames_ports}
use Rattle.fm_plain_frame.specs.declared.frame.Frame.{Frame}
use Rattle.fm_plain_frame.specs.Frames.{frame_of}
use Rattle.fm_nodes_trees.proofs.HoldLaws.{among, process_among}
use Rattle.fm_nodes_trees.proofs.holding.holds.Goals as goal

pub returns-then-top_has : goal.returns-then-top_has
returns-then-top_has c = process_among c.args.port.now c.args.program.now c.args.process.now true _ (sym c.if-top_has.true ∙ c.top_has.ensures) refl

pub returns : goal.returns
returns c =
    let p = c.args.program.now in
    process_among c.args.port.now p c.args.process.now false _ (sym c.if-top_has.false ∙ c.top_has.ensures)
    (c.frames_have.ensures ∙ ap (λ (fs : List Frame). among c.args.port.now (frames_ports (map (frame_of p) fs))) c.as_slice.ensures.value)
