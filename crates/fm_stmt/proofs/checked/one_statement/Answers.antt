use Rattle.fm_token.proofs.TokenLaws.{tokens_one}
use Rattle.fm_stmt.proofs.CardLaws.{one_statement_law}
use Rattle.fm_stmt.proofs.checked.one_statement.Goals as goal

pub returns : goal.returns
returns c = one_statement_law tokens_one
