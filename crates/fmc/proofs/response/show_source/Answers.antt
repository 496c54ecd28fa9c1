use Rattle.fmc.specs.Answer.{summary_asked}
use Rattle.fmc.proofs.AnswerLaws.{run_says}
use Rattle.fmc.proofs.response.show_source.Goals as goal

pub returns-clause-says : goal.returns-clause-says
returns-clause-says g c =
    rw (c.answer_of.ensures.exit, c.answer_of.ensures.history, c.answer_of.ensures.paths, c.in_ok-text.ensures)
    (run_says c.args.bytes.now (summary_asked c.args.setup.turns) c.in_ok-run.run' c.requires.size c.in_ok-run.ensures.run)
