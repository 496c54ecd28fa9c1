use Rattle.fmc.proofs.ReplayLaws.{written_says}
use Rattle.fmc.proofs.response.trace_source.Goals as goal

pub returns-clause-says : goal.returns-clause-says
returns-clause-says g c =
    rw (c.answer_of.ensures.exit, c.answer_of.ensures.history, c.answer_of.ensures.paths)
    (written_says c.args.bytes.now c.args.setup c.in_ok-run.run' c.in_ok-text.text.items c.deref.result.now c.requires.size c.in_ok-run.ensures.run c.deref.ensures.value c.in_ok-text.ensures.text c.in_ok-text.ensures.readable)
