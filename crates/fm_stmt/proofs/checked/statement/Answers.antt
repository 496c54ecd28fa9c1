use Rattle.std.proofs.Common.{ℕ, List, subst}
use Rattle.fm_tree.specs.declared.statement.Stmt.{Stmt}
use Rattle.fm_stmt.specs.Checked.{IsTreeOf}
use Rattle.fm_stmt.proofs.CardLaws.{no_tree_least}
use Rattle.fm_stmt.proofs.checked.statement.Goals as goal

pub returns-in-Err-Bad-clause-refused : goal.returns-in-Err-Bad-clause-refused
returns-in-Err-Bad-clause-refused c =
    no_tree_least c.args.card.now (subst (λ (t : List ℕ). (s : Stmt) → ¬ IsTreeOf t s) c.as_slice.ensures (c.in-Err-Bad.ensures c.in-Err-Bad.field-0-is))
