use Rattle.fm_shown.proofs.gathering.has_ended.Goals as goal

pub returns : goal.returns
returns c = λ q at. c.has_ended.ensures tt q at
