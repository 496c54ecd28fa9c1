use Rattle.std.proofs.Common.{◌≡◌, length}
use Rattle.fm_token.specs.Steps.{behind_items}
use Rattle.fm_token.specs.Cutting.{tokens_of}
use Rattle.fm_token.proofs.statements.push_tokens.Given as goal

-- what is left gives the rest of the tokens
abbrev pub invariant-ifs : goal.invariant-ifs
invariant-ifs l = behind_items l.out.items (tokens_of l.rest) ≡ behind_items l.initial.out.items (tokens_of l.text)

abbrev pub decreases-ifs : goal.decreases-ifs
decreases-ifs l = length l.rest
