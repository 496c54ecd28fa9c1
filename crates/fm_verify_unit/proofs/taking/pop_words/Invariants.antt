use Rattle.std.proofs.Common.{◌≡◌}
use Rattle.fm_code_kinds.specs.Effects.{without_words}
use Rattle.fm_verify_unit.proofs.taking.pop_words.Given as goal

-- what the rest gives is what all give
abbrev pub invariant-words : goal.invariant-words
invariant-words l = without_words l.count l.initial.held ≡ without_words l.left l.held

abbrev pub decreases-words : goal.decreases-words
decreases-words l = l.left
