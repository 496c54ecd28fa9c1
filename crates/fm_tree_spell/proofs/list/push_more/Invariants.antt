use Rattle.std.proofs.Common.{◌≡◌, ◌++◌, drop}
use Rattle.fm_tree.specs.Forms.{more_spelled}
use Rattle.fm_tree_spell.proofs.list.push_more.Given as goal

-- what is written so far and the spelling of what is left are the whole
abbrev pub invariant-loop-part : goal.invariant-loop-part
invariant-loop-part g l =
    l.out.items ++ more_spelled g.F.Spelled.form (drop l.part-index l.parts) ≡ l.initial.out.items ++ more_spelled g.F.Spelled.form l.parts
