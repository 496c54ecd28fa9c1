use Rattle.fmc.proofs.AnswerLaws.{chosen_run, told_of_choices}
use Rattle.fmc.proofs.response.play_source.Goals as goal

pub returns-clause-says : goal.returns-clause-says
returns-clause-says c =
    rw (c.answer_of.ensures.exit, c.answer_of.ensures.history, c.answer_of.ensures.paths, c.in_ok-text.ensures)
    (told_of_choices c.args.bytes.now c.args.setup.turns c.args.vars c.args.choices.now c.in_ok-run.run' c.requires
    (chosen_run c.args.bytes.now c.args.setup.turns c.args.setup.slice c.args.choices.now c.in_ok-run.run' c.in_ok-run.ensures.run))

pub returns-clause-follows : goal.returns-clause-follows
returns-clause-follows c =
    let k = c.in_ok-run.ensures.run in
    rw (c.answer_of.ensures.history) (k.program, k.lawful, k.follows)
