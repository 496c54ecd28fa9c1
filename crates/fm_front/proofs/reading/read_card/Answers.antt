use Rattle.fm_front.proofs.CardVerdicts.{read_one, refused_one}
use Rattle.fm_front.proofs.reading.read_card.Goals as goal

pub returns-in_ok-push-in-Ok : goal.returns-in_ok-push-in-Ok
returns-in_ok-push-in-Ok c = λ cs h. rw c.in_ok-push-in-Ok.ensures.items (read_one cs c.args.statements.now.items c.args.best c.args.card.now c.in-Ok.placed h c.in-Ok.ensures.ok c.in-Ok.ensures.clean)

pub returns-in-Err-Refused : goal.returns-in-Err-Refused
returns-in-Err-Refused c = λ cs h. rw c.keep_earlier.ensures (refused_one cs c.args.statements.now.items c.args.best c.args.card.now c.in-Err-Refused.refusal h (rw c.in-Err-Refused.field-0-is at c.in-Err-Refused.ensures.refused))
