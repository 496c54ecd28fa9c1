use Rattle.std.proofs.Common.{sym, ap, ◌∙◌, List}
use Rattle.fm_base.specs.Channels.{Item}
use Rattle.fm_mean.specs.Places.{Returned, live}
use Rattle.fm_plain_frame.specs.Memory.{values_of}
use Rattle.fm_plain_passing.proofs.BackLaws.{one_ports, one_words}
use Rattle.fm_plain_passing.proofs.giving.one_back.Goals as goal

pub returns-then-is_of_ports-clause-frames : goal.returns-then-is_of_ports-clause-frames
returns-then-is_of_ports-clause-frames c = c.ports_back.ensures.frames ∙ sym (one_ports _ c.args.back.now c.args.callee.now c.args.theirs.now c.args.back.now.formal (sym c.is_of_ports.ensures ∙ c.if-is_of_ports.true))

pub returns-else-is_of_ports-clause-frames : goal.returns-else-is_of_ports-clause-frames
returns-else-is_of_ports-clause-frames c =
    ap (λ (l : List Item). let r : Returned = record { mine = l; theirs = values_of c.args.callee.now c.args.theirs.now; drops = live c.args.room.now.items } in r) c.words_back.ensures
    ∙ sym (one_words _ c.args.back.now c.args.callee.now c.args.theirs.now c.args.back.now.formal (sym c.is_of_ports.ensures ∙ c.if-is_of_ports.false))
