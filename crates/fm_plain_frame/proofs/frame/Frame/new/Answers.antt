use Rattle.std.proofs.Common.{refl}
use Rattle.fm_plain_frame.proofs.ProcessLaws.{new_is}
use Rattle.fm_plain_frame.proofs.frame.Frame.new.Goals as goal

pub returns : goal.returns
returns c = λ p.
    new_is p (record { unit = c.args.unit; entry = 0; memory = c.args.memory; loops = c.new.result; results = c.new-2.result; starts = c.new-3.result; backs = c.args.backs })
    refl c.new.ensures.empty c.new-2.ensures.items c.new-3.ensures.items
