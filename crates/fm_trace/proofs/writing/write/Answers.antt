use Rattle.std.proofs.Common.{ap, ◌∙◌}
use Rattle.fm_trace.proofs.HistoryLaws.{text_of_history}
use Rattle.fm_trace.proofs.TraceLaws.{written}
use Rattle.fm_trace.proofs.writing.write.Goals as goal

pub returns-clause-text : goal.returns-clause-text
returns-clause-text c =
    written c.args.turns c.count_runs.result c.args.history.now c.args.source.now _ _ _ _ _ c.count_runs.ensures c.new-out.ensures.bytes c.in_ok-push_head.ensures c.in_ok-push_runs.ensures.text (ap (λ v. v.items) c.into_bytes-bytes.ensures.value ∙ c.in_ok-push_end.ensures) c.in_ok-extend_from_slice.ensures.items

pub returns-clause-readable : goal.returns-clause-readable
returns-clause-readable c = λ h. text_of_history c.args.turns c.args.history.now c.args.source.now c.in_ok-push_runs.ensures.small h _ (returns-clause-text c)
