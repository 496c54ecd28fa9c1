use Rattle.fm_token.proofs.TokenLaws.{tokens_one}
use Rattle.std.proofs.Common.{◌∙◌, sym, refl}
use Rattle.fm_stmt.specs.Names.{names_of, has_long}
use Rattle.fm_stmt.proofs.CardLaws.{let_through, none_broken, refused_by}
use Rattle.fm_stmt.proofs.checked.judged.Goals as goal

pub returns-in-Ok-clause-clean : goal.returns-in-Ok-clause-clean
returns-in-Ok-clause-clean c =
    none_broken tokens_one c.args.card.now c.args.statement c.args.big (has_long (names_of c.args.statement)) c.requires refl
    (sym c.rule_of-rule.ensures ∙ let_through c.args.card.now.line c.rule_of-rule.result c.in-Ok.stmt c.args.statement c.in-Ok.ensures)

pub returns-in-Err-clause-refused : goal.returns-in-Err-clause-refused
returns-in-Err-clause-refused c =
    refused_by c.args.card.now c.args.statement c.args.big c.requires c.rule_of-rule.result c.rule_of-rule.ensures c.in-Err.fail c.args.statement c.in-Err.ensures
