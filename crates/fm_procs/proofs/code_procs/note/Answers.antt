use Rattle.std.proofs.Common.{sym, ◌∙◌}
use Rattle.std.proofs.lemmas.Result.{IfOk-weaker}
use Rattle.fm_procs.proofs.Table.{waited}
use Rattle.fm_procs.proofs.code_procs.note.Goals as goal

pub note-requires-clause-told : goal.note-requires-clause-told
note-requires-clause-told c = c.requires.kept.told

pub returns-clause-noted : goal.returns-clause-noted
returns-clause-noted c = IfOk-weaker c.note.result _ _ (λ u noted q y at is there d at_channel.
    noted q y at is (λ b here. there b (sym (waited y) ∙ here)) d (waited y ∙ at_channel)) c.note.ensures.noted
