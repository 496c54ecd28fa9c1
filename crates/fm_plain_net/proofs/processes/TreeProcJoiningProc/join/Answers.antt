use Rattle.std.proofs.Common.{ap, sym, ◌∙◌}
use Rattle.std.specs.Prelude.{is_some}
use Rattle.fm_plain_net.proofs.Doing.{join_told}
use Rattle.fm_plain_net.proofs.processes.TreeProcJoiningProc.join.Goals as goal

pub join_block-requires-clause-event : goal.join_block-requires-clause-event
join_block-requires-clause-event c = λ x is. join_told c.args.program.now x c.args.event c.in-Some.block c.in-Some.count c.in-Some.next (sym c.joined_block.ensures ∙ c.in-Some.is) (c.requires.event x is).0

pub unreachable-requires : goal.unreachable-requires
unreachable-requires c = absurd (cc (sym c.requires.joins ∙ ap is_some (sym c.joined_block.ensures ∙ c.in-None.is)))
