use Rattle.std.proofs.Common.{◌∷◌, sym, ap, ◌∙◌}
use Rattle.fm_chan.proofs.Fitting.{word_within}
use Rattle.fm_proc_language.specs.Processes.{limits_of}
use Rattle.fm_proc_events.proofs.OperandLimits.{word_unbounded}
use Rattle.fm_proc_events.proofs.fitting.word_fits.Goals as goal

pub returns-in-Some : goal.returns-in-Some
returns-in-Some c = λ w. word_within (limits_of c.args.operands.now) c.limit_of.result (limits_of c.in-Some.field-0-1.now) w c.word_is_within.result (ap limits_of c.in-Some.ensures.cases.0 ∙ ap (λ l. l ∷ limits_of c.in-Some.field-0-1.now) (sym c.limit_of.ensures)) (c.word_is_within.ensures w)

pub returns-in-None : goal.returns-in-None
returns-in-None c = λ w. word_unbounded c.args.operands.now w c.in-None.ensures.cases
