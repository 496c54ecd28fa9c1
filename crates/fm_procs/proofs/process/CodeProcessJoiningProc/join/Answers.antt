use Rattle.std.proofs.Common.{ap, sym, ◌∙◌}
use Rattle.fm_procs.specs.Stepping.{joined_next}
use Rattle.fm_procs.proofs.Born.{join_told}
use Rattle.fm_procs.proofs.Table.{the_join}
use Rattle.fm_procs.proofs.process.CodeProcessJoiningProc.join.Goals as goal

pub join_block-requires-clause-look : goal.join_block-requires-clause-look
join_block-requires-clause-look c = λ y is. c.requires.event y is ∙ join_told c.args.event c.in-Some.next (sym c.joined_next.ensures ∙ c.in-Some.is)

pub unreachable-requires : goal.unreachable-requires
unreachable-requires c =
    let k = the_join c.args.event c.requires.joins in
    absurd (cc (sym (ap joined_next k.1) ∙ sym c.joined_next.ensures ∙ c.in-None.is))
