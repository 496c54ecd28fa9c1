use Rattle.fm_chan.proofs.Fitting.{word_unlimited, word_within}
use Rattle.fm_chan.proofs.limits.word_fits.Goals as goal

pub returns-in-Some : goal.returns-in-Some
returns-in-Some c = λ w. word_within c.args.limits.now c.in-Some.limit.now c.in-Some.field-0-1.now w c.word_is_within.result c.in-Some.ensures.cases.0 (c.word_is_within.ensures w)

pub returns-in-None : goal.returns-in-None
returns-in-None c = λ w. word_unlimited c.args.limits.now w c.in-None.ensures.cases
