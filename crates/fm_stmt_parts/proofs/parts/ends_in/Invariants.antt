use Rattle.std.proofs.Common.{◌≡◌, ◌≤◌, ◌+◌, drop}
use Rattle.fm_tree.specs.Parts.{ends_in}
use Rattle.fm_stmt_parts.proofs.parts.ends_in.Given as goal

-- what has been counted, and what is left
abbrev pub invariant-extras : goal.invariant-extras
invariant-extras l = (l.count + ends_in (drop l.extra-index l.extras) ≡ ends_in l.extras) × (l.count ≤ l.extra-index)
