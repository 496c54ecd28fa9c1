use Rattle.fm_front.proofs.CardVerdicts.{refused_form}
use Rattle.fmc.proofs.AnswerLaws.{list_is, list_refused}
use Rattle.fmc.proofs.response.list_source.Goals as goal

pub returns-in-Ok-clause-text : goal.returns-in-Ok-clause-text
returns-in-Ok-clause-text c =
    list_is (λ v. v.items) c.args.bytes.now c.in-Ok.statements.items c.checked_list.result c.in-Ok.ensures.clean c.in-Ok.ensures.statements c.checked_list.ensures.text c.checked_list.ensures.clean

pub returns-in-Ok-clause-refused : goal.returns-in-Ok-clause-refused
returns-in-Ok-clause-refused c =
    list_refused c.args.bytes.now c.in-Ok.statements.items c.checked_list.result c.in-Ok.ensures.clean c.in-Ok.ensures.statements c.checked_list.ensures.refused

pub returns-in-Err-clause-refused : goal.returns-in-Err-clause-refused
returns-in-Err-clause-refused c = refused_form c.args.bytes.now c.in-Err.fail c.in-Err.ensures.refused
