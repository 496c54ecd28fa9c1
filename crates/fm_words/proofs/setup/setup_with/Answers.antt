use Rattle.std.proofs.Common.{sym}
use Rattle.fm_words.proofs.Ranges.{setup_is}
use Rattle.fm_words.proofs.setup.setup_with.Goals as goal

pub returns-then-is_within-3 : goal.returns-then-is_within-3
returns-then-is_within-3 c = sym (setup_is _)
