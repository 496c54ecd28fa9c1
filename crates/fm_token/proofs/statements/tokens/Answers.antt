use Rattle.fm_token.proofs.Cuts.{from_empty}
use Rattle.fm_token.proofs.TokenLaws.{sound, none}
use Rattle.fm_token.proofs.statements.tokens.Goals as goal

pub returns-in-Ok : goal.returns-in-Ok
returns-in-Ok c = sound c.args.text.now _ (from_empty c.new-out.result.items _ _ c.new-out.ensures.items c.in-Ok.ensures)

pub returns-in-Err : goal.returns-in-Err
returns-in-Err c = λ e. none c.args.text.now (c.in-Err.ensures e)
