use Rattle.std.proofs.Common.{◌≡◌, length}
use Rattle.fm_token.specs.Cutting.{cut_of}
use Rattle.fm_token.specs.Steps.{behind_items}
use Rattle.fm_token.proofs.statements.push_cut.Given as goal

-- what is left gives the rest of the cut
abbrev pub invariant-tokens : goal.invariant-tokens
invariant-tokens l = behind_items l.out.items (cut_of l.rest) ≡ behind_items l.initial.out.items (cut_of l.text)

abbrev pub decreases-tokens : goal.decreases-tokens
decreases-tokens l = length l.rest
