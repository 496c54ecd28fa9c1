use Rattle.std.proofs.Common.{List, refl, sym, ◌∙◌, arith, map}
use Rattle.fm_mean.specs.Process.{frame_ports, frames_ports}
use Rattle.fm_plain_frame.specs.Frames.{frame_of}
use Rattle.fm_plain_frame.specs.declared.frame.Frame.{Frame}
use Rattle.fm_nodes_trees.proofs.HoldLaws.{has_later, has_next, has_none}
use Rattle.fm_nodes_trees.proofs.holding.frames_have.Goals as goal

pub returns-then-frame_has : goal.returns-then-frame_has
returns-then-frame_has c = has_next (λ (x : Frame). frame_ports (frame_of c.args.program.now x)) (λ (xs : List Frame). frames_ports (map (frame_of c.args.program.now) xs)) (λ (x : Frame) (xs : List Frame). refl) refl c.args.port.now c.args.frames.now c.frames.frame-index c.frame-item.result c.frames-test.true c.frame-item.is (sym c.frame_has.ensures ∙ c.if-frame_has.true) c.frames.invariant

pub frames-preserved : goal.frames-preserved
frames-preserved c = has_later (λ (x : Frame). frame_ports (frame_of c.args.program.now x)) (λ (xs : List Frame). frames_ports (map (frame_of c.args.program.now) xs)) (λ (x : Frame) (xs : List Frame). refl) refl c.args.port.now c.args.frames.now c.frames.frame-index c.frame-item.result c.frames-test.true c.frame-item.is (sym c.frame_has.ensures ∙ c.if-frame_has.false) c.frames.invariant

pub returns : goal.returns
returns c = has_none (λ (x : Frame). frame_ports (frame_of c.args.program.now x)) (λ (xs : List Frame). frames_ports (map (frame_of c.args.program.now) xs)) (λ (x : Frame) (xs : List Frame). refl) refl c.args.port.now c.args.frames.now c.frames.frame-index (omega (arith, c.frames-test.false)) c.frames.invariant
