use Rattle.fm_token.proofs.TokenLaws.{tokens_one}
use Rattle.std.proofs.Common.{◌∙◌, sym, ap}
use Rattle.fm_stmt.specs.Statements.{statement_at}
use Rattle.fm_stmt.proofs.CardLaws.{cut_read, cut_unread, nothing_read}
use Rattle.fm_stmt.proofs.checked.tree.Goals as goal

pub returns-in-Ok-read_statement : goal.returns-in-Ok-read_statement
returns-in-Ok-read_statement c =
    cut_read tokens_one c.args.text.now c.in-Ok.found.0.items c.in-Ok.found.1 c.in-Ok-read_statement.statement c.in-Ok.ensures
    (ap statement_at (sym c.deref.ensures.value) ∙ c.in-Ok-read_statement.ensures)

pub returns : goal.returns
returns c = λ bad.
    cut_unread tokens_one c.args.text.now c.in-Ok.found.0.items c.in-Ok.found.1 c.in-Ok.ensures
    (ap statement_at (sym c.deref.ensures.value) ∙ nothing_read c.in-Err-read_statement.fail _ c.in-Err-read_statement.ensures bad)
