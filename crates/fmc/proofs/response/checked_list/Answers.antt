use Rattle.fmc.proofs.response.checked_list.Goals as goal

pub returns-in-Ok-clause-clean : goal.returns-in-Ok-clause-clean
returns-in-Ok-clause-clean c = λ source read form. (c.in-Ok.ensures.program source read form).clean
