use Rattle.fmc_rows.proofs.tree_run.tree_text.Goals as goal

pub returns-clause-text : goal.returns-clause-text
returns-clause-text c = record { program = c.in_ok-program.program; lawful = c.in_ok-program.ensures.program; run = c.in_ok-run.run'; runs = c.in_ok-run.ensures.run; text_is = c.in_ok-text.ensures }
