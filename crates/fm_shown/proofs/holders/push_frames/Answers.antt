use Rattle.std.proofs.Common.{◌-◌, arith}
use Rattle.fm_shown.specs.Holding.{words_held}
use Rattle.fm_shown.proofs.Holding.{words_more}
use Rattle.fm_shown.proofs.holders.push_frames.Goals as goal

pub frames-preserved : goal.frames-preserved
frames-preserved c =
    words_more (words_held c.args.code.now) c.args.words.now c.frames.words c.push_frame_ports.new.ports c.args.frames.now (c.frames.k - 1) c.frames.k c.index-frames-k.result
    (omega arith) (omega arith) c.index-frames-k.is c.frames.invariant c.in_ok-push_frame_ports.ensures
