use Rattle.fm_cost_law.proofs.Along.{words_along}
use Rattle.fm_cost_law.proofs.Entries.{checked_small}
use Rattle.fm_cost_law.proofs.words_have_64_bits.Goals as goal

pub returns : goal.returns
returns c = λ source p h. words_along p (checked_small source p h)
