-- The names with a list in parentheses, in the order of evaluation.
-- Source: ANSI X3.9-1978, sections 6.6 and 15.5.2.
use Rattle.std.specs.Prelude.{ℕ, List, [], ◌∷◌, map}
use Rattle.fm_tree.specs.Tree.{Tree}
use Rattle.fm_tree.specs.References.{applied_in, applied_name}
use Rattle.fm_tree.specs.declared.statement.Stmt.{Stmt}

abbrev pub applied_names : Stmt → List (List ℕ)
applied_names s = map applied_name (applied_in s)

-- a visitor that has seen these, one after the other
abbrev pub visited : {V : Type 0} → (V → List ℕ → Tree → V) → V → List Tree → V
visited after v [] = v
visited after v (t ∷ ts) = visited after (after v (applied_name t) t) ts
