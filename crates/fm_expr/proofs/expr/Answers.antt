use Rattle.std.proofs.Common.{sym, ◌∙◌}
use Rattle.fm_expr.specs.Longest.{expr_at-run}
use Rattle.fm_expr.proofs.Laws.{found_longest, none_begins, reads_the_whole, its_tree}
use Rattle.fm_expr.proofs.expr.Goals as goal

pub returns-in-Ok-Some-clause-found : goal.returns-in-Ok-Some-clause-found
returns-in-Ok-Some-clause-found c = found_longest _ _ _ (sym (rw c.in-Ok-Some.field-0-is at c.in-Ok-Some.ensures))

pub returns-in-Ok-Some-clause-whole : goal.returns-in-Ok-Some-clause-whole
returns-in-Ok-Some-clause-whole c t more w s q =
    its_tree _ _ (reads_the_whole _ _ (rw c.in-Ok-Some.field-0-is at c.in-Ok-Some.ensures) t more w s q)

pub returns-in-Ok-None-clause-none : goal.returns-in-Ok-None-clause-none
returns-in-Ok-None-clause-none c h = none_begins _ (sym (rw c.in-Ok-None.field-0-is at c.in-Ok-None.ensures))

pub returns-in-Ok-None-clause-whole : goal.returns-in-Ok-None-clause-whole
returns-in-Ok-None-clause-whole c t more w s q =
    let e = reads_the_whole _ _ (rw c.in-Ok-None.field-0-is at c.in-Ok-None.ensures) t more w s q in cc

pub returns-in-Ok-Some-clause-exact : goal.returns-in-Ok-Some-clause-exact
returns-in-Ok-Some-clause-exact c = sym (expr_at-run c.args.tokens.now) ∙ sym (rw c.in-Ok-Some.field-0-is at c.in-Ok-Some.ensures)

pub returns-in-Ok-None-clause-exact : goal.returns-in-Ok-None-clause-exact
returns-in-Ok-None-clause-exact c h = sym (expr_at-run c.args.tokens.now) ∙ sym (rw c.in-Ok-None.field-0-is at c.in-Ok-None.ensures)
