use Rattle.fm_plain.specs.Standing.{frame_in, line_in}
use Rattle.fm_plain.proofs.Free.{refers_free}
use Rattle.fm_plain.proofs.looking.is_function.Goals as goal

pub returns : goal.returns
returns c = λ w below arguments. rw (c.is_some.ensures, c.called.ensures) (refers_free w (line_in c.args.here.now) (frame_in c.args.here.now c.args.top.now) below _ arguments)
