use Rattle.std.proofs.Common.{◌≡◌, ◌++◌, [], ◌∷◌, take}
use Rattle.std.specs.List.{flat_map}
use Rattle.fm_base.specs.Tokens.{doubled}
use Rattle.fm_tree_spell.proofs.text.push_constant_text.Given as goal

abbrev pub invariant-loop-byte : goal.invariant-loop-byte
invariant-loop-byte l = l.out.items ≡ (l.fn.out.items ++ 39 ∷ []) ++ flat_map doubled (take l.byte-index l.bytes)
