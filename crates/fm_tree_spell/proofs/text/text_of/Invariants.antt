use Rattle.std.proofs.Common.{◌≡◌, take}
use Rattle.std.specs.List.{flat_map}
use Rattle.fm_base.specs.Tokens.{token_text}
use Rattle.fm_tree_spell.proofs.text.text_of.Given as goal

abbrev pub invariant-loop-token : goal.invariant-loop-token
invariant-loop-token l = l.out.items ≡ flat_map token_text (take l.token-index l.tokens)
